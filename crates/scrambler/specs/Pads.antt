-- The pad that a scrambler stores the word of a place under. Assumes nothing.
use Rattle.std.specs.Prelude.{ℕ, ◌-◌, ◌*◌, ◌/◌, ◌%◌, ◌^◌, List, bit_or, bit_xor}
use Rattle.memory.specs.Placed.{placed}
use Rattle.scrambler.specs.declared.Scrambler.{Scrambler}

-- a word of 32 bits rotated left by n, which is below 32
abbrev pub rotated : ℕ → ℕ → ℕ
rotated w n = bit_or ((w * 2 ^ n) % 2 ^ 32) (w / 2 ^ ((32 - n) % 32))

-- the pad of a place: the key rotated left by (place mod 32), xor the low 32 bits of the place
abbrev pub pad : ℕ → ℕ → ℕ
pad key p = bit_xor (rotated key (p % 32)) (p % 2 ^ 32)

-- each word xor the pad of its place: from the words below to the words meant, and back
abbrev pub padded : ℕ → List ℕ → List ℕ
padded key ws = placed (λ p w. bit_xor w (pad key p)) ws

-- the words that a scrambler means, over a memory that means `words`
abbrev pub meant : {M : Type 0} → (M → List ℕ) → Scrambler M → List ℕ
meant words s = padded s.key (words s.below)
