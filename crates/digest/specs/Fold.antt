-- The fold: eight lanes, each word turned into one of them.
use Rattle.std.specs.Prelude.{ℕ, ◌*◌, ◌/◌, ◌%◌, ◌^◌, List, replicate, bit_or, bit_xor, slice_index, slice_set}
use Rattle.digest.specs.Meaning.{Meaning}

-- A word of 32 bits, rotated left by one.
abbrev pub rotl1 : ℕ → ℕ
rotl1 x = bit_or ((x * 2) % 2 ^ 32) (x / 2 ^ 31)

-- The eight lanes at first.
abbrev pub zeros : List ℕ
zeros = replicate 8 0

-- The lanes after the word at place n: lane n mod 8 is rotated left by one, xor the word.
abbrev pub folded : List ℕ → ℕ → ℕ → List ℕ
folded lanes n w = slice_set lanes (n % 8) (bit_xor (rotl1 (slice_index lanes (n % 8))) w)

-- The fold as a digest: its lanes are its answer, and its block has 16 words.
abbrev pub fold_meaning : Meaning
fold_meaning = record { State = List ℕ; first = zeros; next = folded; sum = λ lanes n. lanes; block = 16 }
