-- The lines of answered calls, where going over them ends.
use Rattle.std.proofs.Common.{◌≡◌, ℕ, List, [], ◌∷◌, map, refl, ap, ◌∙◌}
use Rattle.std.proofs.Common.{subst, None, Option, Bor}
use Rattle.std.proofs.iter.Yields.{fronts}
use Rattle.std.proofs.lemmas.Iterator.{zips}
use Rattle.std.proofs.lemmas.List.{nil_from_length}
use Rattle.std.proofs.lemmas.Slice.Zip.{either_empty_from_Zip}
use Rattle.std.specs.Iterator.Adapters.{zip_first, zip_second}
use Rattle.std.specs.Slice.Iter.{iter_rest}
use Rattle.std.specs.declared.iter.Zip.{Zip}
use Rattle.std.proofs.Common.{Iter}
use mathlib.Core.Logic.{◌⊎◌, inl, inr}
use Rattle.board.specs.declared.Answer.{Answer}
use Rattle.board.specs.declared.Call.{Call}
use Rattle.board.specs.Answers.{Reply, reply_of}
use Rattle.logs.specs.Text.{answer_lines}

-- no line where places, calls or answers are at their end
lines_none : (ps : List ℕ) (cs : List Call) → answer_lines ps cs [] ≡ []
lines_none [] cs = refl
lines_none (p ∷ ps) [] = refl
lines_none (p ∷ ps) (c ∷ cs) = refl

lines_no_call : (ps : List ℕ) (rs : List Reply) → answer_lines ps [] rs ≡ []
lines_no_call [] rs = refl
lines_no_call (p ∷ ps) rs = refl

no_place_or_call : (ps : List ℕ) (cs : List Call) (rs : List Reply) → (ps ≡ []) ⊎ (cs ≡ []) → answer_lines ps cs rs ≡ []
no_place_or_call ps cs rs (inl e) = ap (λ (k : List ℕ). answer_lines k cs rs) e
no_place_or_call ps cs rs (inr e) = ap (λ (k : List Call). answer_lines ps k rs) e ∙ lines_no_call ps rs

-- nor where going over all three has come to an end
module _ (s : Zip (Zip (Iter ℕ) (Iter Call)) (Iter Answer)) where
  over : ((u : Zip (Iter ℕ) (Iter Call)) × zips fronts fronts (zip_first s) None u) ⊎ ((u : Iter Answer) × fronts (zip_second s) None u)
      → answer_lines (iter_rest (zip_first (zip_first s))) (iter_rest (zip_second (zip_first s))) (map reply_of (iter_rest (zip_second s))) ≡ []
  over (inl a) = no_place_or_call _ _ _ (either_empty_from_Zip (zip_first s) a.0 None refl a.1)
  over (inr b) =
      ap (λ (k : List Answer). answer_lines (iter_rest (zip_first (zip_first s))) (iter_rest (zip_second (zip_first s))) (map reply_of k)) (nil_from_length _ b.1.0)
      ∙ lines_none (iter_rest (zip_first (zip_first s))) (iter_rest (zip_second (zip_first s)))

  pub lines_over : (t : Zip (Zip (Iter ℕ) (Iter Call)) (Iter Answer)) (r : Option ((Bor ℕ × Bor Call) × Bor Answer)) → r ≡ None → zips (zips fronts fronts) fronts s r t
      → answer_lines (iter_rest (zip_first (zip_first s))) (iter_rest (zip_second (zip_first s))) (map reply_of (iter_rest (zip_second s))) ≡ []
  lines_over t r e z = over (subst (λ (o : Option ((Bor ℕ × Bor Call) × Bor Answer)). zips (zips fronts fronts) fronts s o t) e z)
