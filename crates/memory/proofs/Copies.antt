-- What `filled` leaves at each place.
use Rattle.std.proofs.Common.{◌≡◌, ℕ, zero, suc, ◌+◌, ◌-◌, ◌<◌, ◌≤◌, ◌⊎◌, List, length, get_or, refl, sym, ◌∙◌, inl, inr, arith}
use Rattle.std.proofs.lemmas.List.{get_or-set_same, get_or-set_other, length-set, ext_get_or, places}
use Rattle.std.proofs.lemmas.Bool.{cases_eq, cases_lt}
use borrow.Rule.Slice.PartMut.{mid_of, put_mid}
use Rattle.memory.specs.Fills.{filled}

module _ (ws : List ℕ) (a : ℕ) (f : ℕ → ℕ) where
  pub length_filled : (n : ℕ) → length (filled ws a f n) ≡ length ws
  length_filled zero = refl
  length_filled (suc n) = length-set (filled ws a f n) (a + n) (f n) ∙ length_filled n

  pub filled_outside : (n p : ℕ) → (p < a) ⊎ (a + n ≤ p) → get_or (filled ws a f n) p 0 ≡ get_or ws p 0
  filled_outside zero p h = refl
  filled_outside (suc n) p (inl below) = grind (arith, get_or-set_other, filled_outside n p (inl below))
  filled_outside (suc n) p (inr past) = grind (arith, get_or-set_other, filled_outside n p (inr (omega arith)))

  pub filled_inside : (n k : ℕ) → k < n → a + k < length ws → get_or (filled ws a f n) (a + k) 0 ≡ f k
  filled_inside zero k h l = absurd (omega arith)
  filled_inside (suc n) k h l =
      elim (cases_eq k n) [
        | inl e ↦ grind (arith, length_filled, get_or-set_same)
        | inr ne ↦ grind (arith, get_or-set_other, filled_inside n k (omega arith) l)
      ]

-- a part that is filled from its start
pub filled_part : (ws : List ℕ) (a n : ℕ) (f : ℕ → ℕ) → a + n ≤ length ws → put_mid a n ws (filled (mid_of a n ws) 0 f n) ≡ filled ws a f n
filled_part ws a n f h =
    let part : List ℕ = filled (mid_of a n ws) 0 f n in
    let whole : List ℕ = put_mid a n ws part in
    let mid : length (mid_of a n ws) ≡ n = search (arith, places) in
    let long : length part ≡ n = length_filled (mid_of a n ws) 0 f n ∙ mid in
    let same : length whole ≡ length ws = search (arith, places) in
    ext_get_or 0 whole (filled ws a f n) (same ∙ sym (length_filled ws a f n))
    (λ p l.
    elim (cases_lt p a) [
      | inl below ↦ (search (arith, places)) ∙ sym (filled_outside ws a f n p (inl below))
      | inr from ↦ elim (cases_lt (p - a) n) [
        | inl within ↦ grind (arith, places, filled_inside (mid_of a n ws) 0 f n (p - a), filled_inside ws a f n (p - a))
        | inr past ↦ (search (arith, places)) ∙ sym (filled_outside ws a f n p (inr (omega arith)))
      ]
    ])
