-- What one block of sixteen words makes of a hash value: FIPS 180-4, 6.2.2.
use Rattle.std.specs.Prelude.{ℕ, zero, suc, ◌+◌, ◌-◌, List, [], ◌∷◌, ◌++◌, slice_index}
use Rattle.sha256.specs.declared.compression.Working.{Working}
use Rattle.sha256.specs.Functions.{plus, ch, maj, Σ0, Σ1, σ0, σ1, constants}

-- Step 1: the word of the schedule at t, from the words before it.
unfoldable pub word_at : List ℕ → ℕ → ℕ
word_at w t = plus (plus (plus (σ1 (slice_index w (t - 2))) (slice_index w (t - 7))) (σ0 (slice_index w (t - 15)))) (slice_index w (t - 16))

-- Step 1: the schedule, with n words more than the block's sixteen.
unfoldable pub schedule : ℕ → List ℕ → List ℕ
schedule zero block = block
schedule (suc n) block = schedule n block ++ word_at (schedule n block) (16 + n) ∷ []

-- Step 2: the working variables a to h begin as the hash value.
abbrev pub working : List ℕ → Working
working hash = record {
  a = slice_index hash 0;
  b = slice_index hash 1;
  c = slice_index hash 2;
  d = slice_index hash 3;
  e = slice_index hash 4;
  f = slice_index hash 5;
  g = slice_index hash 6;
  h = slice_index hash 7;
}

-- Step 3: the two sums of a round, with its constant k and its word w.
unfoldable pub t1 : Working → ℕ → ℕ → ℕ
t1 v k w = plus (plus (plus (plus v.h (Σ1 v.e)) (ch v.e v.f v.g)) k) w

unfoldable pub t2 : Working → ℕ
t2 v = plus (Σ0 v.a) (maj v.a v.b v.c)

-- Step 3: one round.
unfoldable pub round : Working → ℕ → ℕ → Working
round v k w = record {
  a = plus (t1 v k w) (t2 v);
  b = v.a;
  c = v.b;
  d = v.c;
  e = plus v.d (t1 v k w);
  f = v.e;
  g = v.f;
  h = v.g;
}

-- Step 3: the first n rounds over the schedule w.
unfoldable pub rounds : ℕ → List ℕ → Working → Working
rounds zero w v = v
rounds (suc n) w v = round (rounds n w v) (slice_index constants n) (slice_index w n)

-- Step 4: the working variables added to the hash value.
unfoldable pub added : List ℕ → Working → List ℕ
added hash v =
    plus v.a (slice_index hash 0)
    ∷ plus v.b (slice_index hash 1)
    ∷ plus v.c (slice_index hash 2)
    ∷ plus v.d (slice_index hash 3)
    ∷ plus v.e (slice_index hash 4)
    ∷ plus v.f (slice_index hash 5)
    ∷ plus v.g (slice_index hash 6)
    ∷ plus v.h (slice_index hash 7)
    ∷ []

-- The hash value after one block.
unfoldable pub compressed : List ℕ → List ℕ → List ℕ
compressed hash block = added hash (rounds 64 (schedule 48 block) (working hash))
