-- SHA-256 of a whole message of words, each four bytes, the highest first: FIPS 180-4, 5.1.1, 5.2.1 and 6.2.2.
use Rattle.std.specs.Prelude.{ℕ, zero, suc, ◌-◌, ◌*◌, ◌/◌, ◌%◌, ◌^◌, List, [], ◌∷◌, ◌++◌, length, take, drop, replicate}
use Rattle.sha256.specs.Functions.{start}
use Rattle.sha256.specs.Compression.{compressed}

-- 5.1.1: the padding of n words, i of them in the last block: the bit 1, the fewest zeros
-- that leave two words of a block, and in these the message's length in bits.
abbrev pub padding : ℕ → ℕ → List ℕ
padding i n = 0x80000000 ∷ (replicate ((29 - i) % 16) 0 ++ (n * 32 / 2 ^ 32) ∷ (n * 32 % 2 ^ 32) ∷ [])

-- 5.1.1: the padded message.
abbrev pub padded : List ℕ → List ℕ
padded words = words ++ padding (length words % 16) (length words)

-- 5.2.1 and 6.2.2: the hash value after n blocks of sixteen words.
unfoldable pub chained : ℕ → List ℕ → List ℕ → List ℕ
chained zero hash words = hash
chained (suc n) hash words = chained n (compressed hash (take 16 words)) (drop 16 words)

-- 6.2: the digest of the message.
abbrev pub sha256 : List ℕ → List ℕ
sha256 words = chained (length (padded words) / 16) start (padded words)
