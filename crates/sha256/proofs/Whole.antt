-- The words fed one by one come to what FIPS 180-4 makes of the whole message.
use Rattle.std.proofs.Common.{◌≡◌, ℕ, suc, ◌+◌, ◌-◌, ◌/◌, ◌%◌, ◌<◌, cond, eqb, ltb, List, [], ◌∷◌, ◌++◌, length, set, replicate, sym, refl, ap, ◌∙◌, subst, ap₂, inl, inr, append_assoc, arith}
use Rattle.std.proofs.lemmas.List.{length-append, take_at, drop_at, length_push}
use Rattle.std.proofs.lemmas.Bool.{cond-true, cond-false, eq-eqb, ne_eqb, cases_eq}
use Rattle.digest.specs.Meaning.{fed, hash, keyed, hmac_of, hmac}
use Rattle.sha256.specs.Functions.{start}
use Rattle.sha256.specs.Compression.{compressed}
use Rattle.sha256.specs.Stream.{Running, none, next, ended, closed, sha_meaning, Streams}
use Rattle.sha256.specs.Message.{padding, chained, sha256}

-- The chain h, and the words q of the block in hand.
abbrev state : List ℕ → List ℕ → Running
state h q = record { chain = h; part = q ++ replicate (16 - length q) 0 }

-- One word more at the place i.
abbrev fed_at : Running → ℕ → ℕ → Running
fed_at s i w =
    cond (eqb i 15)
    (record { chain = compressed s.chain (set s.part 15 w); part = none })
    (record { chain = s.chain; part = set s.part i w })

abbrev closed_at : Running → ℕ → ℕ → List ℕ
closed_at s i n =
    cond (ltb i 14)
    (compressed s.chain (ended (set s.part i 0x80000000) n))
    (compressed (compressed s.chain (set s.part i 0x80000000)) (ended none n))

-- A list of fewer than sixteen words is one of sixteen shapes, and at each both sides compute.
step_at : (h q : List ℕ) (w : ℕ) → length q < 16
    → fed_at (state h q) (length q) w ≡ cond (eqb (length q) 15) (state (compressed h (q ++ w ∷ [])) []) (state h (q ++ w ∷ []))
step_at h [] w x = refl
step_at h (a ∷ []) w x = refl
step_at h (a ∷ b ∷ []) w x = refl
step_at h (a ∷ b ∷ c ∷ []) w x = refl
step_at h (a ∷ b ∷ c ∷ d ∷ []) w x = refl
step_at h (a ∷ b ∷ c ∷ d ∷ e ∷ []) w x = refl
step_at h (a ∷ b ∷ c ∷ d ∷ e ∷ f ∷ []) w x = refl
step_at h (a ∷ b ∷ c ∷ d ∷ e ∷ f ∷ g ∷ []) w x = refl
step_at h (a ∷ b ∷ c ∷ d ∷ e ∷ f ∷ g ∷ j ∷ []) w x = refl
step_at h (a ∷ b ∷ c ∷ d ∷ e ∷ f ∷ g ∷ j ∷ k ∷ []) w x = refl
step_at h (a ∷ b ∷ c ∷ d ∷ e ∷ f ∷ g ∷ j ∷ k ∷ l ∷ []) w x = refl
step_at h (a ∷ b ∷ c ∷ d ∷ e ∷ f ∷ g ∷ j ∷ k ∷ l ∷ m ∷ []) w x = refl
step_at h (a ∷ b ∷ c ∷ d ∷ e ∷ f ∷ g ∷ j ∷ k ∷ l ∷ m ∷ o ∷ []) w x = refl
step_at h (a ∷ b ∷ c ∷ d ∷ e ∷ f ∷ g ∷ j ∷ k ∷ l ∷ m ∷ o ∷ p ∷ []) w x = refl
step_at h (a ∷ b ∷ c ∷ d ∷ e ∷ f ∷ g ∷ j ∷ k ∷ l ∷ m ∷ o ∷ p ∷ r ∷ []) w x = refl
step_at h (a ∷ b ∷ c ∷ d ∷ e ∷ f ∷ g ∷ j ∷ k ∷ l ∷ m ∷ o ∷ p ∷ r ∷ s ∷ []) w x = refl
step_at h (a ∷ b ∷ c ∷ d ∷ e ∷ f ∷ g ∷ j ∷ k ∷ l ∷ m ∷ o ∷ p ∷ r ∷ s ∷ t ∷ q) w x = absurd (omega arith)

end_at : (h q : List ℕ) (n : ℕ) → length q < 16
    → closed_at (state h q) (length q) n ≡ chained (length (q ++ padding (length q) n) / 16) h (q ++ padding (length q) n)
unfolding chained
end_at h [] n x = refl
end_at h (a ∷ []) n x = refl
end_at h (a ∷ b ∷ []) n x = refl
end_at h (a ∷ b ∷ c ∷ []) n x = refl
end_at h (a ∷ b ∷ c ∷ d ∷ []) n x = refl
end_at h (a ∷ b ∷ c ∷ d ∷ e ∷ []) n x = refl
end_at h (a ∷ b ∷ c ∷ d ∷ e ∷ f ∷ []) n x = refl
end_at h (a ∷ b ∷ c ∷ d ∷ e ∷ f ∷ g ∷ []) n x = refl
end_at h (a ∷ b ∷ c ∷ d ∷ e ∷ f ∷ g ∷ j ∷ []) n x = refl
end_at h (a ∷ b ∷ c ∷ d ∷ e ∷ f ∷ g ∷ j ∷ k ∷ []) n x = refl
end_at h (a ∷ b ∷ c ∷ d ∷ e ∷ f ∷ g ∷ j ∷ k ∷ l ∷ []) n x = refl
end_at h (a ∷ b ∷ c ∷ d ∷ e ∷ f ∷ g ∷ j ∷ k ∷ l ∷ m ∷ []) n x = refl
end_at h (a ∷ b ∷ c ∷ d ∷ e ∷ f ∷ g ∷ j ∷ k ∷ l ∷ m ∷ o ∷ []) n x = refl
end_at h (a ∷ b ∷ c ∷ d ∷ e ∷ f ∷ g ∷ j ∷ k ∷ l ∷ m ∷ o ∷ p ∷ []) n x = refl
end_at h (a ∷ b ∷ c ∷ d ∷ e ∷ f ∷ g ∷ j ∷ k ∷ l ∷ m ∷ o ∷ p ∷ r ∷ []) n x = refl
end_at h (a ∷ b ∷ c ∷ d ∷ e ∷ f ∷ g ∷ j ∷ k ∷ l ∷ m ∷ o ∷ p ∷ r ∷ s ∷ []) n x = refl
end_at h (a ∷ b ∷ c ∷ d ∷ e ∷ f ∷ g ∷ j ∷ k ∷ l ∷ m ∷ o ∷ p ∷ r ∷ s ∷ t ∷ q) n x = absurd (omega arith)

-- The words still to come, and the padding of N words in all.
abbrev rest : List ℕ → ℕ → List ℕ
rest ws N = ws ++ padding (N % 16) N

-- A full block is taken off.
chained_block : (h b xs : List ℕ) → length b ≡ 16 → chained (length (b ++ xs) / 16) h (b ++ xs) ≡ chained (length xs / 16) (compressed h b) xs
unfolding chained
chained_block h b xs e =
    let n : length (b ++ xs) / 16 ≡ suc (length xs / 16) = simp length-append (omega arith) in
    ap (λ (k : ℕ). chained k h (b ++ xs)) n
    ∙ ap₂ (λ (y ys : List ℕ). chained (length xs / 16) (compressed h y) ys) (take_at b xs 16 e) (drop_at b xs 16 e)

-- From any place in the message on.
whole : (ws h q : List ℕ) (n N : ℕ) → length q ≡ n % 16 → n + length ws ≡ N
    → closed (fed sha_meaning (state h q) n ws) N ≡ chained (length (q ++ rest ws N) / 16) h (q ++ rest ws N)
whole [] h q n N e t =
    let same : length q ≡ N % 16 = omega arith in
    let small : length q < 16 = omega arith in
    subst (λ (i : ℕ). closed_at (state h q) i N ≡ chained (length (q ++ padding i N) / 16) h (q ++ padding i N)) same (end_at h q N small)
whole (w ∷ ws) h q n N e t =
    let small : length q < 16 = omega arith in
    let sum : n + 1 + length ws ≡ N = omega arith in
    let step : next (state h q) n w ≡ cond (eqb (length q) 15) (state (compressed h (q ++ w ∷ [])) []) (state h (q ++ w ∷ []))
    = subst (λ (i : ℕ). fed_at (state h q) i w ≡ cond (eqb (length q) 15) (state (compressed h (q ++ w ∷ [])) []) (state h (q ++ w ∷ []))) e (step_at h q w small) in
    let grown : length (q ++ w ∷ []) ≡ length q + 1 = length_push q w in
    let joined : (q ++ w ∷ []) ++ rest ws N ≡ q ++ rest (w ∷ ws) N = append_assoc q (w ∷ []) (rest ws N) in
    let goal : Type 0 = closed (fed sha_meaning (state h q) n (w ∷ ws)) N ≡ chained (length (q ++ rest (w ∷ ws) N) / 16) h (q ++ rest (w ∷ ws) N) in
    let full : length q ≡ 15 → goal = λ f.
    let one : next (state h q) n w ≡ state (compressed h (q ++ w ∷ [])) [] = step ∙ cond-true _ _ _ (eq-eqb (length q) 15 f) in
    let zeroed : length {A = ℕ} [] ≡ (n + 1) % 16 = omega arith in
    let long : length (q ++ w ∷ []) ≡ 16 = omega arith in
    ap (λ (s : Running). closed (fed sha_meaning s (n + 1) ws) N) one
    ∙ whole ws (compressed h (q ++ w ∷ [])) [] (n + 1) N zeroed sum
    ∙ sym (chained_block h (q ++ w ∷ []) (rest ws N) long)
    ∙ ap (λ (xs : List ℕ). chained (length xs / 16) h xs) joined in
    let more : (length q ≡ 15 → ⊥) → goal = λ f.
    let one : next (state h q) n w ≡ state h (q ++ w ∷ []) = step ∙ cond-false _ _ _ (ne_eqb (length q) 15 f) in
    let place : length (q ++ w ∷ []) ≡ (n + 1) % 16 = omega arith in
    ap (λ (s : Running). closed (fed sha_meaning s (n + 1) ws) N) one
    ∙ whole ws h (q ++ w ∷ []) (n + 1) N place sum
    ∙ ap (λ (xs : List ℕ). chained (length xs / 16) h xs) joined in
    elim (cases_eq (length q) 15) [ inl f ↦ full f | inr f ↦ more f ]

-- Feeding word by word is the standard's hash of the whole message.
pub streams : Streams
streams ws = whole ws start [] 0 (length ws) refl (omega arith)

-- HMAC over the running digest is HMAC over the standard's hash.
pub hmac_streams : (key text : List ℕ) → hmac sha_meaning key text ≡ hmac_of sha256 16 key text
hmac_streams key text =
    let inner = keyed 16 key 0x36363636 ++ text in
    let outer = keyed 16 key 0x5c5c5c5c in
    streams (outer ++ hash sha_meaning inner) ∙ ap (λ (xs : List ℕ). sha256 (outer ++ xs)) (streams inner)
