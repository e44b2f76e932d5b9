-- The first place where two runs differ, from the first place that both have where they are not alike.
use Rattle.std.proofs.Common.{◌≡◌, ℕ, ◌+◌, min, Bool, not, ◌==◌, List, [], ◌∷◌, length, position, refl, arith}
use Rattle.std.proofs.lemmas.Slice.Zip.{length-zip}
use Rattle.std.proofs.lemmas.Iterator.Adapters.{position_from-zero}
use Rattle.std.proofs.lemmas.Grind.{common_steps}
use Rattle.std.specs.Bool.{then_some}
use Rattle.std.specs.List.{zip, position_from}
use Rattle.std.specs.Option.{option_or}
use Rattle.sight.specs.Places.{apart_from, first_place_apart}

-- counted from i on
apart_at : {A : Type 0} (alike : A → A → Bool) (i : ℕ) (xs ys : List A)
    → apart_from alike i xs ys ≡ option_or (position_from (λ p. not (alike p.0 p.1)) i (zip xs ys)) (then_some (not (length xs == length ys)) (i + min (length xs) (length ys)))
apart_at alike i [] [] = refl
apart_at alike i [] (y ∷ ys) = grind (arith, common_steps)
apart_at alike i (x ∷ xs) [] = grind (arith, common_steps)
apart_at alike i (x ∷ xs) (y ∷ ys) = grind (arith, common_steps, apart_at alike (i + 1) xs ys)

pub by_position : {A : Type 0} (alike : A × Bool → A × Bool → Bool) (xs : List A) (ms : List Bool) (ys : List A) (ns : List Bool)
    → first_place_apart alike xs ms ys ns
    ≡ option_or (position (λ p. not (alike p.0 p.1)) (zip (zip xs ms) (zip ys ns)))
    (then_some (not (min (length xs) (length ms) == min (length ys) (length ns))) (min (min (length xs) (length ms)) (min (length ys) (length ns))))
by_position alike xs ms ys ns = grind (arith, common_steps, apart_at alike 0 (zip xs ms) (zip ys ns), length-zip xs ms, length-zip ys ns, position_from-zero (λ p. not (alike p.0 p.1)) (zip (zip xs ms) (zip ys ns)))
