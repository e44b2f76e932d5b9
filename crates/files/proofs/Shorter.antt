-- Reading one record takes a file on by one call and at least one byte.
use Rattle.std.proofs.Common.{◌≡◌, ℕ, zero, suc, ◌+◌, ◌-◌, ◌<◌, ◌≤◌, List, [], ◌∷◌, ◌++◌, map, length, Some, None, Ok, Option, Result, sym, refl, ap, ◌∙◌, append_assoc, append-nil, arith}
use Rattle.board.specs.declared.Call.{Call}
use Rattle.faults.specs.declared.ReadFault.{ReadFault}
use Rattle.faults.specs.declared.RunFault.{RunFault}
use Rattle.records.specs.Records.{Read}
use Rattle.files.specs.Files.{Placed, Filed, ends, before, after_read, filed_by, end_by}

module _ (one : ℕ → List ℕ → Read) where
  -- no bytes, no records
  pub none_left : ((place : ℕ) → one place [] ≡ Ok None) → (n place : ℕ) (bs : List ℕ) → length bs ≡ 0 → filed_by one n place bs ≡ ends None
  none_left at_end zero place bs e = refl
  none_left at_end (suc n) place [] e = ap (after_read (filed_by one n) place []) (at_end place)
  none_left at_end (suc n) place (b ∷ bs) e = absurd (omega arith)

  -- Before a turn of the loop: n records are read, and bs is left of l bytes.
  module _ (l n : ℕ) (bs : List ℕ) (few : n + length bs ≤ l) (some : 0 < length bs) where
    -- by what is read of it
    pub stops : (h : Read) → one (l - length bs) bs ≡ h → filed_by one (l - n) (l - length bs) bs ≡ after_read (filed_by one (l - (n + 1))) (l - length bs) bs h
    stops h e =
        let fuel : l - n ≡ suc (l - (n + 1)) = omega arith in
        ap (λ (k : ℕ). filed_by one k (l - length bs) bs) fuel ∙ ap (after_read (filed_by one (l - (n + 1))) (l - length bs) bs) e

    -- one record more
    pub one_more : (c : Call) (t : List ℕ) → length t < length bs → one (l - length bs) bs ≡ Ok (Some (c, t)) → filed_by one (l - n) (l - length bs) bs ≡ before (record { place = l - length bs; call = c }) (filed_by one (l - (n + 1)) (l - length t) t)
    one_more c t shorter e =
        let on : (l - length bs) + (length bs - length t) ≡ l - length t = omega arith in
        stops _ e ∙ ap (λ (p : ℕ). before (record { place = l - length bs; call = c }) (filed_by one (l - (n + 1)) p t)) on

-- Parts of the records so far, and those of the rest: after one record more, and at the end.
module _ {X : Type 0} (f : Placed → X) (xs : List X) (more : Filed) (all : List X) (so_far : xs ++ map f more.records ≡ all) where
  pub items_more : (ys : List X) (p : Placed) (rest : Filed) → more ≡ before p rest → ys ≡ xs ++ (f p ∷ []) → ys ++ map f rest.records ≡ all
  items_more ys p rest is grown =
      ap (λ (zs : List X). zs ++ map f rest.records) grown ∙ append_assoc xs (f p ∷ []) (map f rest.records) ∙ ap (λ (g : Filed). xs ++ map f g.records) (sym is) ∙ so_far

  pub items_end : (e : Option ReadFault) → more ≡ ends e → xs ≡ all
  items_end e is = sym (append-nil xs) ∙ ap (λ (g : Filed). xs ++ map f g.records) (sym is) ∙ so_far

-- How many they are.
module _ (n : ℕ) (more : Filed) (end : Result ℕ RunFault) (so_far : end_by (n + length more.records) more.fault ≡ end) where
  pub count_more : (p : Placed) (rest : Filed) → more ≡ before p rest → end_by (n + 1 + length rest.records) rest.fault ≡ end
  count_more p rest is = ap (λ (k : ℕ). end_by k rest.fault) (omega arith) ∙ ap (λ (f : Filed). end_by (n + length f.records) f.fault) (sym is) ∙ so_far

  pub count_end : (e : Option ReadFault) → more ≡ ends e → end_by n e ≡ end
  count_end e is = ap (λ (k : ℕ). end_by k e) (omega arith) ∙ ap (λ (g : Filed). end_by (n + length g.records) g.fault) (sym is) ∙ so_far
