-- What a list of words does to a digest's state: one word on, over two lists, and over the key's block.
use Rattle.std.proofs.Common.{◌≡◌, ℕ, ◌+◌, ◌-◌, ◌<◌, ◌≤◌, List, [], ◌∷◌, ◌++◌, length, get_or, take, replicate, sym, ap, ◌∙◌, ap₂, add-zero, zero-add, arith}
use lib.Bits.{bit_xor}
use Rattle.std.specs.Int.Bits.{xor_zero_l}
use Rattle.std.proofs.lemmas.Grind.{common_steps}
use Rattle.std.proofs.lemmas.List.{take_more, length-append, length-map, length-replicate, length-take, get_or-map}
use Rattle.digest.specs.Meaning.{Meaning, fed, hash, keyed}

-- The key's block has one block of words.
pub length_keyed : (b : ℕ) (key : List ℕ) (mask : ℕ) → length key ≤ b → length (keyed b key mask) ≡ b
length_keyed b key mask h = simp (length-map, length-append, length-replicate) (omega arith)

-- The key's block begins with the key's words.
key_word : (b : ℕ) (key : List ℕ) (mask i : ℕ) → length key ≤ b → i < length key → get_or (keyed b key mask) i 0 ≡ bit_xor (get_or key i 0) mask
key_word b key mask i h l = grind (arith, common_steps)

-- Behind the key its words are the mask.
key_zero : (b : ℕ) (key : List ℕ) (mask i : ℕ) → length key ≤ b → length key ≤ i → i < b → get_or (keyed b key mask) i 0 ≡ mask
key_zero b key mask i h k l =
    let filled = key ++ replicate (b - length key) 0 in
    let zero : get_or filled i 0 ≡ 0 = grind (arith, common_steps) in
    let within : i < length filled = simp (length-append, length-replicate) (omega arith) in
    get_or-map (λ w. bit_xor w mask) filled i 0 0 within ∙ ap (λ (w : ℕ). bit_xor w mask) zero ∙ xor_zero_l mask

module _ (m : Meaning) where
  -- Two lists are fed one after the other.
  pub fed_append : (s : m.State) (n : ℕ) (xs ys : List ℕ) → fed m s n (xs ++ ys) ≡ fed m (fed m s n xs) (n + length xs) ys
  fed_append s n [] ys = ap (λ (k : ℕ). fed m s k ys) (sym (add-zero n))
  fed_append s n (x ∷ xs) ys =
      fed_append (m.next s n x) (n + 1) xs ys
      ∙ ap (λ (k : ℕ). fed m (fed m (m.next s n x) (n + 1) xs) k ys) (omega arith)

  -- In a loop over ws: one word more.
  pub fed_take : (s : m.State) (n i : ℕ) (ws : List ℕ) → i < length ws → fed m s n (take (i + 1) ws) ≡ m.next (fed m s n (take i ws)) (n + i) (get_or ws i 0)
  fed_take s n i ws h =
      ap (fed m s n) (take_more ws i 0 h) ∙ fed_append s n (take i ws) (get_or ws i 0 ∷ [])
      ∙ ap (λ (k : ℕ). m.next (fed m s n (take i ws)) (n + k) (get_or ws i 0)) (simp length-take (omega arith))

  -- In a loop over the key, and in one over the zeros behind it: one word more of the key's block.
  pub fed_key : (s : m.State) (n i b : ℕ) (key : List ℕ) (mask : ℕ) → length key ≤ b → i < length key
      → fed m s n (take (i + 1) (keyed b key mask)) ≡ m.next (fed m s n (take i (keyed b key mask))) (n + i) (bit_xor (get_or key i 0) mask)
  fed_key s n i b key mask h l =
      fed_take s n i (keyed b key mask) (rw (length_keyed b key mask h) (omega arith))
      ∙ ap (m.next (fed m s n (take i (keyed b key mask))) (n + i)) (key_word b key mask i h l)

  pub fed_zero : (s : m.State) (n i b : ℕ) (key : List ℕ) (mask : ℕ) → length key ≤ b → length key ≤ i → i < b
      → fed m s n (take (i + 1) (keyed b key mask)) ≡ m.next (fed m s n (take i (keyed b key mask))) (n + i) mask
  fed_zero s n i b key mask h k l =
      fed_take s n i (keyed b key mask) (rw (length_keyed b key mask h) l)
      ∙ ap (m.next (fed m s n (take i (keyed b key mask))) (n + i)) (key_zero b key mask i h k l)

  -- What two lists come to, fed one after the other.
  pub hash_append : (xs ys : List ℕ) → hash m (xs ++ ys) ≡ m.sum (fed m (fed m m.first 0 xs) (length xs) ys) (length xs + length ys)
  hash_append xs ys = ap₂ m.sum (fed_append m.first 0 xs ys ∙ ap (λ (k : ℕ). fed m (fed m m.first 0 xs) k ys) (zero-add (length xs))) (length-append xs ys)

  -- What they come to with a word behind them.
  pub hash_push : (xs ys : List ℕ) (w : ℕ) → hash m (xs ++ (ys ++ w ∷ [])) ≡ m.sum (m.next (fed m (fed m m.first 0 xs) (length xs) ys) (length xs + length ys) w) (length xs + length ys + 1)
  hash_push xs ys w = hash_append xs (ys ++ w ∷ []) ∙ ap₂ m.sum (fed_append (fed m m.first 0 xs) (length xs) ys (w ∷ [])) (simp length-append (omega arith))
