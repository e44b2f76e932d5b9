-- One step of the schedule and of the rounds.
use Rattle.std.proofs.Common.{◌≡◌, ℕ, zero, suc, ◌+◌, ◌-◌, ◌<◌, ◌≤◌, List, [], ◌∷◌, ◌++◌, length, get_or, take, set, sym, refl, ap, ◌∙◌, add-one, arith}
use Rattle.std.proofs.lemmas.List.{get_or_push, length-take}
use Rattle.std.proofs.lemmas.Grind.{common_steps}
use Rattle.sha256.specs.declared.compression.Working.{Working}
use Rattle.sha256.specs.Functions.{constants}
use Rattle.sha256.specs.Compression.{word_at, schedule, round, rounds}

-- No round.
pub rounds_none : (w : List ℕ) (v : Working) → rounds 0 w v ≡ v
unfolding rounds
rounds_none w v = refl

-- One round more.
pub rounds_more : (n : ℕ) (w : List ℕ) (v : Working) → rounds (n + 1) w v ≡ round (rounds n w v) (get_or constants n 0) (get_or w n 0)
unfolding rounds
rounds_more n w v = ap (λ (k : ℕ). rounds k w v) (add-one n)

-- The first n rounds read the first n words.
rounds_front : (n : ℕ) (xs ys : List ℕ) (v : Working) → n ≤ length xs → rounds n (xs ++ ys) v ≡ rounds n xs v
unfolding rounds
rounds_front zero xs ys v h = refl
rounds_front (suc n) xs ys v h = grind (arith, common_steps, rounds_front n xs ys v (omega arith))

word_at_take : (w : List ℕ) (t : ℕ) → 16 ≤ t → word_at (take t w) t ≡ word_at w t
unfolding word_at
word_at_take w t h = grind (arith, common_steps)

-- The schedule up to t, and then its word at t.
schedule_next : (w block : List ℕ) (t : ℕ) → 16 ≤ t → take t w ≡ schedule (t - 16) block → schedule (t + 1 - 16) block ≡ schedule (t - 16) block ++ word_at w t ∷ []
unfolding schedule
schedule_next w block t h e =
    let n : t + 1 - 16 ≡ suc (t - 16) = omega arith in
    let s : 16 + (t - 16) ≡ t = omega arith in
    rw n (cc (word_at_take w t h))

-- The words of the schedule, one more.
pub schedule_more : (w block : List ℕ) (t : ℕ) → 16 ≤ t → t < length w → take t w ≡ schedule (t - 16) block
    → take (t + 1) (set w t (word_at w t)) ≡ schedule (t + 1 - 16) block
schedule_more w block t h l e =
    grind (arith, common_steps, schedule_next w block t h e)

-- The round that takes the schedule's next word.
pub round_more : (w block : List ℕ) (v u : Working) (t : ℕ) → 16 ≤ t → t < length w → take t w ≡ schedule (t - 16) block → v ≡ rounds t (schedule (t - 16) block) u
    → round v (get_or constants t 0) (word_at w t) ≡ rounds (t + 1) (schedule (t + 1 - 16) block) u
round_more w block v u t h l e p =
    let next = schedule_next w block t h e in
    let long : length (schedule (t - 16) block) ≡ t = sym (ap length e) ∙ simp length-take (omega arith) in
    grind (arith, next, rounds_more t (schedule (t + 1 - 16) block) u, rounds_front t (schedule (t - 16) block), get_or_push (schedule (t - 16) block) (word_at w t) 0 t long)
