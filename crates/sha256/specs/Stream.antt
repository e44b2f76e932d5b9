-- SHA-256 word by word: the hash value after the whole blocks, and the block in hand, filled with zeros.
use Rattle.std.specs.Prelude.{◌≡◌, ℕ, ◌*◌, ◌/◌, ◌%◌, ◌^◌, cond, List, replicate, ◌==◌, nat_lt, slice_set}
use Rattle.digest.specs.Meaning.{Meaning, hash}
use Rattle.sha256.specs.Functions.{start}
use Rattle.sha256.specs.Compression.{compressed}
use Rattle.sha256.specs.Message.{sha256}

-- A running hash.
pub record Running : Type 0 where
  pub chain : List ℕ
  pub part : List ℕ

-- A block with no word yet.
abbrev pub none : List ℕ
none = replicate 16 0

-- One word more, where n went before.
abbrev pub next : Running → ℕ → ℕ → Running
next s n w =
    cond (n % 16 == 15)
    (record { chain = compressed s.chain (slice_set s.part 15 w); part = none })
    (record { chain = s.chain; part = slice_set s.part (n % 16) w })

-- The last block: its last two words are the length of n words in bits.
abbrev pub ended : List ℕ → ℕ → List ℕ
ended part n = slice_set (slice_set part 14 (n * 32 / 2 ^ 32)) 15 (n * 32 % 2 ^ 32)

-- The padding behind n words: in the block in hand where two words are left for the length, else in one block more.
abbrev pub closed : Running → ℕ → List ℕ
closed s n =
    cond (nat_lt (n % 16) 14)
    (compressed s.chain (ended (slice_set s.part (n % 16) 0x80000000) n))
    (compressed (compressed s.chain (slice_set s.part (n % 16) 0x80000000)) (ended none n))

-- SHA-256 as a digest.
abbrev pub sha_meaning : Meaning
sha_meaning = record { State = Running; first = record { chain = start; part = none }; next = next; sum = closed; block = 16 }

-- Feeding word by word and asking for the result is the standard's hash of the whole message.
abbrev pub Streams : Type 0
Streams = (words : List ℕ) → hash sha_meaning words ≡ sha256 words
