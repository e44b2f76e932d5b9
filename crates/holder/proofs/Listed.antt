-- The lines that slots hold, by rising slot, as `flatten` goes over them.
use Rattle.std.proofs.Common.{◌≡◌, ℕ, zero, suc, ◌+◌, ◌*◌, ◌^◌, ◌<◌, Bool, true, false, cond, List, [], ◌∷◌, length, get_or, take, Some, None, Option, sym, refl, ap, ◌∙◌, subst, inl, inr, arith}
use Rattle.std.specs.List.{flat_map}
use Rattle.std.specs.Option.{option_to_list}
use Rattle.std.specs.Bool.{MatchBool}
use Rattle.std.specs.Iterator.Adapters.{option_iter_item, option_iter_done, option_iter_steps, flatten_source, flatten_front, flatten_back, flatten_done, flatten_steps}
use Rattle.std.specs.Slice.Iter.{iter_rest}
use Rattle.std.proofs.iter.Yields.{fronts}
use Rattle.std.proofs.lemmas.List.{get_or_default}
use Rattle.std.proofs.lemmas.Bool.{cases_eq, cases_lt}
use Rattle.std.proofs.lemmas.List.Concat.{get_or-flat_map}
use Rattle.std.proofs.lemmas.List.Folds.{length-flat_map-take}
use denote.Ref.{Bor}
use Rattle.std.proofs.lemmas.Iterator.{YieldsList, YieldsList-from_slice}
use Rattle.std.proofs.lemmas.Iterator.Adapters.{YieldsList-from_flatten}
use Rattle.std.proofs.lemmas.Iterator.Consumers.{YieldsList-from_shown}
use Rattle.holder.specs.declared.slots.Line.{Line}
use Rattle.holder.specs.Lines.{slot_of, overlaid, Own, Small}
use Rattle.holder.specs.Accesses.{written_down}
use Rattle.holder.proofs.Held.{Clean, clean_none, all_clean, slot_down}

abbrev pub listed : List (Option Line) → List Line
listed lines = flat_map option_to_list lines

-- a line of that list is in a slot
pub listed_at : (lines : List (Option Line)) (j : ℕ) (line : Line) → j < length (listed lines) → line ≡ get_or (listed lines) j line → (i : ℕ) × (get_or lines i None ≡ Some line)
listed_at [] j line l e = absurd (omega arith)
listed_at (None ∷ lines) j line l e = let r = listed_at lines j line l e in (suc r.0, r.1)
listed_at (Some x ∷ lines) zero line l e = (0, ap Some (sym e))
listed_at (Some x ∷ lines) (suc j) line l e = let r = listed_at lines j line (omega arith) e in (suc r.0, r.1)

-- a line in a slot is in that list
pub listed_all : (lines : List (Option Line)) (i : ℕ) (line : Line) → i < length lines → get_or lines i None ≡ Some line → (j : ℕ) × (j < length (listed lines)) × (line ≡ get_or (listed lines) j line)
listed_all lines i line l e =
    let j : ℕ = length (listed (take i lines)) in
    let one : length (option_to_list (get_or lines i None)) ≡ 1 = grind arith in
    let here : get_or (listed lines) (j + 0) line ≡ get_or (option_to_list (get_or lines i None)) 0 line = get_or-flat_map option_to_list lines i 0 None line l (omega arith) in
    let there : j + 0 ≡ j = omega arith in
    (j, omega (arith, length-flat_map-take option_to_list lines i None l), sym (rw there at here ∙ ap (λ o. get_or (option_to_list o) 0 line) e))

-- what `flatten` goes over in each slot: its line, if there is one
abbrev left : Bool → Option Line → List Line
left done o = cond done [] (option_to_list o)

left_none : (done : Bool) (o : Option Line) → MatchBool done (◌≡◌ {A = Option (Bor Line)} None None) (None ≡ o) → length (left done o) ≡ 0
left_none true o h = refl
left_none false o h = ap (λ k. length (option_to_list k)) (sym h)

left_one : (done after : Bool) (o o' : Option Line) (x : Bor Line) → after ≡ true → MatchBool done (Some x ≡ None) (Some x.now ≡ o) → left done o ≡ x.now ∷ left after o'
left_one true after o o' x e h = absurd (cc)
left_one false after o o' x e h = grind arith

slot_yields : {j : _} (o : Option Line) → option_iter_item j ≡ o → option_iter_done j ≡ false → YieldsList (option_iter_steps {A = Line}) (λ y. y.now) j (option_to_list o)
slot_yields {j} o item done =
    let e : left (option_iter_done j) (option_iter_item j) ≡ option_to_list o = ap (λ b. left b (option_iter_item j)) done ∙ ap option_to_list item in
    subst (YieldsList (option_iter_steps {A = Line}) (λ y. y.now) j) e
    (YieldsList-from_shown (option_iter_steps {A = Line}) (λ y. y.now) (λ u. left (option_iter_done u) (option_iter_item u))
    (λ u t h. left_none (option_iter_done u) (option_iter_item u) h.1)
    (λ u x t h. left_one (option_iter_done u) (option_iter_done t) (option_iter_item u) (option_iter_item t) x h.0 h.1)
    j)

-- so it goes over the lines that are held
pub slots_yield : {s : _} (becomes : Bor (Option Line) → _ → Type 0) → ((x : Bor (Option Line)) (j : _) → becomes x j → (option_iter_item j ≡ x.now) × (option_iter_done j ≡ false)) →
    (lines : List (Option Line)) → iter_rest (flatten_source s) ≡ lines → flatten_front s ≡ None → flatten_back s ≡ None → flatten_done s ≡ false →
    YieldsList (flatten_steps fronts becomes (option_iter_steps {A = Line})) (λ y. y.now) s (listed lines)
slots_yield becomes opens lines rest front back done =
    YieldsList-from_flatten becomes option_iter_steps (λ y. y.now) option_to_list (λ x j b. slot_yields x.now (opens x j b).0 (opens x j b).1) (YieldsList-from_slice lines rest) front back done

-- where the slot of each of those lines is clean, the list below is the whole
module _ (lines : List (Option Line)) (ws : List ℕ) (own : Own lines) (clean : (j : ℕ) (line : Line) → j < length (listed lines) → line ≡ get_or (listed lines) j line → Clean lines ws (slot_of (line.number * 16))) where
  each_clean : (s : ℕ) → s < length lines → (o : Option Line) → get_or lines s None ≡ o → Clean lines ws s
  each_clean s l None e = clean_none lines ws s e
  each_clean s l (Some line) e = let at = listed_all lines s line l e in subst (Clean lines ws) (own s line e) (clean at.0 line at.1 at.2)

  pub listed_clean : length lines ≡ 8 → overlaid lines ws ≡ ws
  listed_clean eight = all_clean lines ws (λ s l. each_clean s (omega arith) (get_or lines s None) refl)

-- one more of those lines is written down
module _ (lines : List (Option Line)) (ws : List ℕ) (own : Own lines) (n : ℕ) (now : Line) (l : n < length (listed lines)) (e : now ≡ get_or (listed lines) n now) where
  pub listed_small : Small lines → now.number < 2 ^ 60
  listed_small small = let at = listed_at lines n now l e in small at.0 now at.1

  pub listed_means : overlaid lines (written_down (Some now) ws) ≡ overlaid lines ws
  listed_means = let at = listed_at lines n now l e in (slot_down lines at.0 ws (Some now) at.1 (λ line is. own at.0 line (at.1 ∙ is))).1

  pub listed_more : ((j : ℕ) (line : Line) → j < n → line ≡ get_or (listed lines) j line → Clean lines ws (slot_of (line.number * 16))) →
      (j : ℕ) (line : Line) → j < n + 1 → line ≡ get_or (listed lines) j line → Clean lines (written_down (Some now) ws) (slot_of (line.number * 16))
  listed_more clean j line lj ej =
      let at = listed_at lines n now l e in
      let down = slot_down lines at.0 ws (Some now) at.1 (λ x is. own at.0 x (at.1 ∙ is)) in
      let home : slot_of (now.number * 16) ≡ at.0 = own at.0 now at.1 in
      elim (cases_lt j n) [
        | inl lt ↦ elim (cases_eq (slot_of (line.number * 16)) at.0) [
          | inl q ↦ rw q down.0
          | inr ne ↦ down.2 (slot_of (line.number * 16)) ne (clean j line lt ej)
        ]
        | inr ge ↦
            let same : j ≡ n = omega arith in
            let it : line ≡ now = ej ∙ ap (λ k. get_or (listed lines) k line) same ∙ get_or_default (listed lines) n line now l ∙ sym e in
            rw (it, home) down.0
      ]
