-- What an access does to the slots and to the list below.
use Rattle.std.proofs.Common.{◌≡◌, ℕ, ◌+◌, ◌*◌, ◌%◌, ◌^◌, ◌<◌, ◌≤◌, true, false, List, length, get_or, take, drop, set, Some, None, Ok, Option, sym, refl, ap, ◌∙◌, inl, inr, arith}
use Rattle.std.proofs.lemmas.List.{ext_get_or, get_or-set_same, get_or-set_other, length-set, set-get_or, set-set, map-set, get_or-map, set_past, places}
use Rattle.std.proofs.lemmas.Bool.{cases_eq, cases_lt, cases_Bool}
use Rattle.std.proofs.lemmas.Bool.Decides.{nat_tests}
use Rattle.memory.specs.Words.{fetched}
use Rattle.memory.proofs.Places.{length_placed, getD_placed}
use Rattle.holder.specs.declared.slots.Line.{Line}
use Rattle.holder.specs.Lines.{line_of, slot_of, is_line, whole, held_next, Within, number_in, held_lines, holds, laid, overlaid, Sound}
use Rattle.holder.specs.Accesses.{line_at, written_down, below_next, slots_next, slots_written, below_written}
use Rattle.holder.specs.Slots.{line_next}
use Rattle.holder.proofs.Held.{slot_down, taken_means, put_means}

-- a line that is read word by word
pub line_read : (ws words : List ℕ) (n k : ℕ) → 16 ≤ k → n * 16 + 16 ≤ length ws → length words ≡ 16 → ((j : ℕ) → j < k → get_or words j 0 ≡ get_or ws (n * 16 + j) 0) →
    ◌≡◌ {A = Line} (record { number = n; words = words }) (line_at ws n)
line_read ws words n k done whole long read =
    let there : List ℕ = take 16 (drop (n * 16) ws) in
    let there_at : (j : ℕ) → j < 16 → get_or there j 0 ≡ get_or ws (n * 16 + j) 0 = λ j l. search (arith, places) in
    let same : words ≡ there = ext_get_or 0 words there (grind (arith, places)) (λ j l. read j (omega arith) ∙ sym (there_at j (omega arith))) in
    let made : List ℕ → Line = λ x. record { number = n; words = x } in
    ap made same

-- a line in the slot s of a list that is sound
pub sound_set : (lines : List (Option Line)) (s : ℕ) (x : Line) → s < length lines → Sound lines → slot_of (x.number * 16) ≡ s → x.number < 2 ^ 60 → length x.words ≡ 16 → Sound (set lines s (Some x))
sound_set lines s x l sound own small full = record {
  own = λ i y e. elim (cases_eq i s) [
    | inl q ↦ grind (arith, get_or-set_same)
    | inr ne ↦ grind (arith, get_or-set_other, sound.own i y)
  ];
  small = λ i y e. elim (cases_eq i s) [
    | inl q ↦ grind (arith, get_or-set_same)
    | inr ne ↦ grind (arith, get_or-set_other, sound.small i y)
  ];
  full = λ i y e. elim (cases_eq i s) [
    | inl q ↦ grind (arith, get_or-set_same)
    | inr ne ↦ grind (arith, get_or-set_other, sound.full i y)
  ];
}

-- an access that finds its line, or takes it in
pub record Taken (lines : List (Option Line)) (ws : List ℕ) (p : ℕ) (line : Line) : Type 0 where
  pub slots : set lines (slot_of p) (Some line) ≡ slots_next lines ws p
  pub number : line.number ≡ line_of p
  pub long : length line.words ≡ 16
  pub keeps : overlaid (set lines (slot_of p) (Some line)) (below_next lines ws p) ≡ overlaid lines ws
  pub same_length : length (below_next lines ws p) ≡ length ws
  pub held : held_lines (set lines (slot_of p) (Some line)) ≡ held_next (held_lines lines) (length ws) p
  pub sound : Sound (set lines (slot_of p) (Some line))

module _ (lines : List (Option Line)) (ws : List ℕ) (p : ℕ) (line : Line) (l : slot_of p < length lines) (sound : Sound lines) (small : p < 2 ^ 64) where
  -- it was there
  taken_found : is_line (get_or lines (slot_of p) None) (line_of p) ≡ true → get_or lines (slot_of p) None ≡ Some line → Taken lines ws p line
  taken_found h e =
      let same : set lines (slot_of p) (Some line) ≡ lines = grind (arith, set-get_or) in
      let number : line.number ≡ line_of p = grind (arith, nat_tests) in
      record {
        slots = grind arith;
        number = number;
        long = sound.full (slot_of p) line e;
        keeps = rw same (grind arith);
        same_length = grind arith;
        held = rw same (grind (arith, set-get_or (held_lines lines) (slot_of p) None, get_or-map number_in lines (slot_of p) None None l));
        sound = rw same sound;
      }

  -- it is taken in, once what stands in its slot is written down
  abbrev pub mid : List ℕ
  mid = written_down (get_or lines (slot_of p) None) ws

  taken_in : is_line (get_or lines (slot_of p) None) (line_of p) ≡ false → whole (length ws) p ≡ true → line ≡ line_at mid (line_of p) → Taken lines ws p line
  taken_in h w e =
      let down = slot_down lines (slot_of p) ws (get_or lines (slot_of p) None) refl (sound.own (slot_of p)) in
      let number : line.number ≡ line_of p = ap (λ (x : Line). x.number) e in
      let fits : line_of p * 16 + 16 ≤ length ws = grind (arith, nat_tests) in
      let words : line.words ≡ take 16 (drop (line_of p * 16) mid) = ap (λ (x : Line). x.words) e in
      let long : length line.words ≡ 16 = rw words (grind (arith, places, down.3)) in
      let read : (k : ℕ) → k < 16 → get_or line.words k 0 ≡ get_or mid (line.number * 16 + k) 0 = λ k lk. rw (words, number) (search (arith, places)) in
      record {
        slots = grind arith;
        number = number;
        long = long;
        keeps = grind (arith, taken_means lines mid (slot_of p) line l down.0 read, down.1);
        same_length = grind (arith, down.3);
        held = grind (arith, map-set);
        sound = sound_set lines (slot_of p) line l sound (omega arith) (omega arith) long;
      }

  pub taken : line_next (get_or lines (slot_of p) None) ws (line_of p) ≡ Some line → Taken lines ws p line
  taken e =
      elim (cases_Bool (is_line (get_or lines (slot_of p) None) (line_of p))) [
        | inl h ↦ taken_found h (grind arith)
        | inr h ↦ elim (cases_Bool (whole (length ws) p)) [
          | inl w ↦ taken_in h w (grind arith)
          | inr w ↦ absurd (grind arith)
        ]
      ]

-- an access whose line would pass the end
module _ (lines : List (Option Line)) (ws : List ℕ) (p : ℕ) (e : line_next (get_or lines (slot_of p) None) ws (line_of p) ≡ None) where
  pub passed_below : below_next lines ws p ≡ ws
  passed_below = grind arith

  pub passed_not : holds lines p ≡ false
  passed_not = grind arith

-- what a read answers of a held line
pub fetched_held : (lines : List (Option Line)) (ws : List ℕ) (p : ℕ) (line : Line) → slot_of p < length lines → Taken lines ws p line → p < length ws → Ok (get_or line.words (p % 16) 0) ≡ fetched (overlaid lines ws) p
fetched_held lines ws p line l t lw =
    let lines' : List (Option Line) = set lines (slot_of p) (Some line) in
    let ws' : List ℕ = below_next lines ws p in
    let there : get_or (overlaid lines' ws') p 0 ≡ get_or line.words (p % 16) 0 =
    getD_placed (laid lines') ws' p (omega (arith, t.same_length)) ∙ grind (arith, nat_tests, get_or-set_same, t.number) in
    let word : get_or (overlaid lines ws) p 0 ≡ get_or line.words (p % 16) 0 = rw t.keeps at there in
    grind (arith, nat_tests, length_placed, word)

-- a word that is put into a held line
pub record Put (lines : List (Option Line)) (ws : List ℕ) (p w : ℕ) (line : Line) : Type 0 where
  pub after : overlaid (set lines (slot_of p) (Some line)) (below_next lines ws p) ≡ set (overlaid lines ws) p w
  pub held : held_lines (set lines (slot_of p) (Some line)) ≡ held_next (held_lines lines) (length ws) p
  pub slots : set lines (slot_of p) (Some line) ≡ slots_written lines ws p w
  pub below : below_next lines ws p ≡ below_written lines ws p w
  pub sound : Sound (set lines (slot_of p) (Some line))

pub put_held : (lines : List (Option Line)) (ws : List ℕ) (p w : ℕ) (line : Line) → slot_of p < length lines → Taken lines ws p line → p < length ws → Put lines ws p w (record { number = line.number; words = set line.words (p % 16) w })
put_held lines ws p w line l t lw =
    let line' : Line = record { number = line.number; words = set line.words (p % 16) w } in
    let next : List (Option Line) = set lines (slot_of p) (Some line) in
    let twice : set next (slot_of p) (Some line') ≡ set lines (slot_of p) (Some line') = grind (arith, set-set) in
    let is : get_or next (slot_of p) None ≡ Some line = get_or-set_same lines (slot_of p) (Some line) None l in
    let there : slot_of p < length next = omega (arith, length-set lines (slot_of p) (Some line)) in
    let h : holds next p ≡ true = grind (arith, nat_tests, t.number) in
    record {
      after = rw twice at (put_means next (below_next lines ws p) p w line there is t.long t.number (omega (arith, t.same_length))) ∙ ap (λ x. set x p w) t.keeps;
      held = map-set number_in lines (slot_of p) (Some line') ∙ sym (map-set number_in lines (slot_of p) (Some line)) ∙ t.held;
      slots = rw (← t.slots) (grind (arith, nat_tests));
      below = rw (← t.slots) (grind arith);
      sound = rw twice at (sound_set next (slot_of p) line' there t.sound (t.sound.own (slot_of p) line is) (t.sound.small (slot_of p) line is) (length-set line.words (p % 16) w ∙ t.long));
    }

-- an access never has a line held that would pass the end
pub held_within : (size p : ℕ) (held : List (Option ℕ)) → Within size held → Within size (held_next held size p)
held_within size p held all s n e =
    elim (cases_eq s (slot_of p)) [
      | inl q ↦ elim (cases_lt (slot_of p) (length held)) [
        | inl l ↦ grind (arith, nat_tests, get_or-set_same, all s n)
        | inr past ↦ grind (arith, nat_tests, set_past, all s n)
      ]
      | inr ne ↦ grind (arith, nat_tests, get_or-set_other, all s n)
    ]

-- an access that is passed on to the list below
module _ (lines : List (Option Line)) (ws : List ℕ) (p : ℕ) (e : line_next (get_or lines (slot_of p) None) ws (line_of p) ≡ None) (l : p < length ws) where
  pub fetched_passed : fetched ws p ≡ fetched (overlaid lines ws) p
  fetched_passed = grind (arith, nat_tests, length_placed, getD_placed, passed_not lines ws p e)
