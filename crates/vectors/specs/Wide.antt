-- A fold with another block length.
use Rattle.std.specs.Prelude.{ℕ, List}
use Rattle.digest.specs.Fold.{zeros, folded}
use Rattle.digest.specs.Meaning.{Meaning}

-- The fold, with a block of 34 words.
abbrev pub wide_meaning : Meaning
wide_meaning = record { State = List ℕ; first = zeros; next = folded; sum = λ lanes n. lanes; block = 34 }
