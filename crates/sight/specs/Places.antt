-- The first place at which two runs differ.
use Rattle.std.specs.Prelude.{ℕ, ◌+◌, Bool, cond, List, [], ◌∷◌, Some, None, Option}
use Rattle.std.specs.List.{zip}

-- the first place, counted from i on, where the lists are not alike or where only one goes on
abbrev pub apart_from : {A : Type 0} → (A → A → Bool) → ℕ → List A → List A → Option ℕ
apart_from alike i [] [] = None
apart_from alike i [] (y ∷ ys) = Some i
apart_from alike i (x ∷ xs) [] = Some i
apart_from alike i (x ∷ xs) (y ∷ ys) = cond (alike x y) (apart_from alike (i + 1) xs ys) (Some i)

-- of two runs, each of items with marks; a run ends where its items or its marks do
abbrev pub first_place_apart : {A : Type 0} → (A × Bool → A × Bool → Bool) → List A → List Bool → List A → List Bool → Option ℕ
first_place_apart alike xs ms ys ns = apart_from alike 0 (zip xs ms) (zip ys ns)
