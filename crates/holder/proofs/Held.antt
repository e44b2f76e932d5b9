-- What the lines in the slots mean over the list below.
use Rattle.std.proofs.Common.{◌≡◌, ℕ, ◌+◌, ◌*◌, ◌/◌, ◌%◌, ◌<◌, ◌≤◌, false, ◌≢◌, ◌⊎◌, List, length, get_or, set, Some, None, Option, refl, ap, ◌∙◌, inl, inr, arith}
use Rattle.std.proofs.lemmas.List.{get_or-set_same, get_or-set_other, length-set, ext_get_or}
use Rattle.std.proofs.lemmas.Bool.{cases_eq, cases_lt}
use Rattle.std.proofs.lemmas.Bool.Decides.{nat_tests}
use Rattle.memory.proofs.Places.{length_placed, getD_placed, placed_same, placed_set}
use Rattle.memory.proofs.Copies.{length_filled, filled_outside, filled_inside}
use Rattle.holder.specs.declared.slots.Line.{Line}
use Rattle.holder.specs.Lines.{line_of, slot_of, holds, laid, overlaid}
use Rattle.holder.specs.Accesses.{written_down}

-- a place is in the slot of its line
pub slot_line : (p n : ℕ) → p / 16 ≡ n → slot_of p ≡ slot_of (n * 16)
slot_line p n e = omega arith

-- the list below has what the slot s means
abbrev pub Clean : List (Option Line) → List ℕ → ℕ → Type 0
Clean lines ws s = (p : ℕ) → p < length ws → slot_of p ≡ s → laid lines p (get_or ws p 0) ≡ get_or ws p 0

pub clean_none : (lines : List (Option Line)) (ws : List ℕ) (s : ℕ) → get_or lines s None ≡ None → Clean lines ws s
clean_none lines ws s e p l q = grind arith

-- where every slot is clean the list below is the whole
pub all_clean : (lines : List (Option Line)) (ws : List ℕ) → ((s : ℕ) → s < 8 → Clean lines ws s) → overlaid lines ws ≡ ws
all_clean lines ws clean =
    ext_get_or 0 (overlaid lines ws) ws (length_placed (laid lines) ws)
    (λ p l. getD_placed (laid lines) ws p (grind (arith, length_placed)) ∙ clean (slot_of p) (omega arith) p (grind (arith, length_placed)) refl)

-- a line in the slot s is written down
module _ (lines : List (Option Line)) (s : ℕ) (line : Line) (is : get_or lines s None ≡ Some line) (ws : List ℕ) (own : slot_of (line.number * 16) ≡ s) where
  abbrev down : List ℕ
  down = written_down (Some line) ws

  length_down : length down ≡ length ws
  length_down = length_filled ws (line.number * 16) (λ k. get_or line.words k 0) 16

  -- a place of another line
  away : (p : ℕ) → line_of p ≢ line.number → get_or down p 0 ≡ get_or ws p 0
  away p ne =
      let side : (p < line.number * 16) ⊎ (line.number * 16 + 16 ≤ p) = elim (cases_lt p (line.number * 16)) [ inl l ↦ inl l | inr l ↦ inr (omega arith) ] in
      filled_outside ws (line.number * 16) (λ k. get_or line.words k 0) 16 p side

  -- a place of this line
  within : (p : ℕ) → line_of p ≡ line.number → p < length ws → get_or down p 0 ≡ get_or line.words (p % 16) 0
  within p e l =
      let at : line.number * 16 + p % 16 ≡ p = omega arith in
      rw at at (filled_inside ws (line.number * 16) (λ k. get_or line.words k 0) 16 (p % 16) (omega arith) (omega arith))

  pub down_clean : Clean lines down s
  down_clean p l q =
      elim (cases_eq (line_of p) line.number) [
        | inl e ↦ grind (arith, nat_tests, length_down, within p)
        | inr ne ↦ grind (arith, nat_tests)
      ]

  pub down_means : overlaid lines down ≡ overlaid lines ws
  down_means =
      placed_same (laid lines) (laid lines) down ws length_down
      (λ p l. elim (cases_eq (line_of p) line.number) [
        | inl e ↦ grind (arith, nat_tests)
        | inr ne ↦ ap (laid lines p) (away p ne)
      ])

  -- the other slots stay as they are
  pub down_others : (t : ℕ) → t ≢ s → Clean lines ws t → Clean lines down t
  down_others t ne clean p l q =
      let apart : line_of p ≢ line.number = λ e. ne (omega arith) in
      rw (away p apart) (clean p (omega (arith, length_down)) q)

-- what stands in the slot s, a line or nothing, is written down
pub slot_down : (lines : List (Option Line)) (s : ℕ) (ws : List ℕ) (o : Option Line) → get_or lines s None ≡ o → ((line : Line) → o ≡ Some line → slot_of (line.number * 16) ≡ s) →
    Clean lines (written_down o ws) s × (overlaid lines (written_down o ws) ≡ overlaid lines ws) × ((t : ℕ) → t ≢ s → Clean lines ws t → Clean lines (written_down o ws) t) × (length (written_down o ws) ≡ length ws)
slot_down lines s ws None e own = (clean_none lines ws s e, refl, λ t ne clean. clean, refl)
slot_down lines s ws (Some line) e own =
    let home : slot_of (line.number * 16) ≡ s = own line refl in
    (down_clean lines s line e ws home, down_means lines s line e ws home, down_others lines s line e ws home, length_down lines s line e ws home)

-- a line that is taken into its slot, where the list below has what the slot meant
pub taken_means : (lines : List (Option Line)) (ws : List ℕ) (s : ℕ) (line : Line) → s < length lines → Clean lines ws s → ((k : ℕ) → k < 16 → get_or line.words k 0 ≡ get_or ws (line.number * 16 + k) 0) → overlaid (set lines s (Some line)) ws ≡ overlaid lines ws
taken_means lines ws s line ls clean taken =
    placed_same (laid (set lines s (Some line))) (laid lines) ws ws refl
    (λ p l. elim (cases_eq (slot_of p) s) [
      | inl q ↦
          elim (cases_eq line.number (line_of p)) [
            | inl e ↦
                let at : line.number * 16 + p % 16 ≡ p = omega arith in
                grind (arith, nat_tests, get_or-set_same, taken (p % 16), clean p, at)
            | inr ne ↦ grind (arith, nat_tests, get_or-set_same, clean p)
          ]
      | inr ne ↦ grind (arith, get_or-set_other)
    ])

-- one word of a held line is replaced
pub put_means : (lines : List (Option Line)) (ws : List ℕ) (p w : ℕ) (line : Line) → slot_of p < length lines → get_or lines (slot_of p) None ≡ Some line → length line.words ≡ 16 → line.number ≡ line_of p → p < length ws →
    overlaid (set lines (slot_of p) (Some (record { number = line.number; words = set line.words (p % 16) w }))) ws ≡ set (overlaid lines ws) p w
put_means lines ws p w line ls is long number l =
    let line' : Line = record { number = line.number; words = set line.words (p % 16) w } in
    let lines' : List (Option Line) = set lines (slot_of p) (Some line') in
    ext_get_or 0 (overlaid lines' ws) (set (overlaid lines ws) p w)
    (simp (length_placed, length-set))
    (λ q lq.
    let lw : q < length ws = omega (arith, length_placed (laid lines') ws) in
    let lp : p < length (overlaid lines ws) = omega (arith, length_placed (laid lines) ws) in
    getD_placed (laid lines') ws q lw
    ∙ elim (cases_eq q p) [
      | inl e ↦ grind (arith, nat_tests, get_or-set_same)
      | inr ne ↦ elim (cases_eq (slot_of q) (slot_of p)) [
        | inl s ↦ grind (arith, nat_tests, get_or-set_same, get_or-set_other, getD_placed)
        | inr s ↦ grind (arith, nat_tests, get_or-set_other, getD_placed)
      ]
    ])

-- one word of the list below, of a line that is not held, is replaced
pub passed : (lines : List (Option Line)) (ws : List ℕ) (p w : ℕ) → holds lines p ≡ false → overlaid lines (set ws p w) ≡ set (overlaid lines ws) p w
passed lines ws p w h = grind (arith, placed_set)
