-- What a digest means, what it makes of a list of words, and HMAC of RFC 2104 over it.
use Rattle.std.specs.Prelude.{◌≡◌, ℕ, ◌+◌, ◌-◌, List, [], ◌∷◌, ◌++◌, map, length, replicate, bit_xor}

-- What a digest means: its first state; the state after a word, where so many words went before;
-- the eight words that a state and a count come to; and its block length in words.
pub record Meaning : Type 1 where
  pub State : Type 0
  pub first : State
  pub next : State → ℕ → ℕ → State
  pub sum : State → ℕ → List ℕ
  pub block : ℕ

-- The state after the words ws, from the state s, where n words went before.
abbrev pub fed : (m : Meaning) → m.State → ℕ → List ℕ → m.State
fed m s n [] = s
fed m s n (w ∷ ws) = fed m (m.next s n w) (n + 1) ws

-- A cleared digest: of what it was fed nothing is left.
abbrev pub Cleared : (m : Meaning) → m.State → ℕ → Type 0
Cleared m s n = (s ≡ m.first) × (n ≡ 0)

-- The eight words of a whole list of words.
abbrev pub hash : Meaning → List ℕ → List ℕ
hash m ws = m.sum (fed m m.first 0 ws) (length ws)

-- Each word xor the mask.
abbrev pub masked : ℕ → List ℕ → List ℕ
masked mask = map (λ w. bit_xor w mask)

-- The key, filled with zeros to one block, each word xor the mask.
abbrev pub keyed : ℕ → List ℕ → ℕ → List ℕ
keyed block key mask = masked mask (key ++ replicate (block - length key) 0)

-- HMAC over a hash function H whose block has so many words: the inner pad is the byte 0x36, the outer one 0x5c.
abbrev pub hmac_of : (List ℕ → List ℕ) → ℕ → List ℕ → List ℕ → List ℕ
hmac_of H block key text = H (keyed block key 0x5c5c5c5c ++ H (keyed block key 0x36363636 ++ text))

-- HMAC over a digest.
abbrev pub hmac : Meaning → List ℕ → List ℕ → List ℕ
hmac m key text = hmac_of (hash m) m.block key text
