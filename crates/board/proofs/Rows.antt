-- Lists after a write, and the lists of questions.
use Rattle.std.proofs.Common.{◌≡◌, ℕ, zero, suc, ◌+◌, ◌-◌, ◌*◌, ◌/◌, ◌<◌, ◌≤◌, Bool, true, false, cond, eqb, List, [], ◌∷◌, length, get_or, take, drop, set, replicate, sym, refl, ap, ◌∙◌, ap₂, inl, inr, arith, length-drop, length-take, get_or-drop, get_or-take, ext_get_or}
use lib.ListN.{get_or-replicate, get_or-eq_default, get_or-append}
use Rattle.std.proofs.lemmas.List.{get_or-append_right}
use Rattle.std.proofs.lemmas.Bool.{cases_eq, cond-true, cond-false, cases_lt, ne_eqb, eq-eqb}
use Rattle.board.specs.Effects.{cleared_words, released}
use Rattle.board.specs.Measures.{page_words}
use Rattle.board.specs.Questions.{Question, first_no}

-- two lists after a write at one place: what f tells of a place
pub put : {A B : Type 0} (f : A → B) (l m : List A) (i j : ℕ) (x y d : A) → length l ≡ length m → (j ≡ i → f x ≡ f y)
    → ((j ≡ i → ⊥) → f (get_or l j d) ≡ f (get_or m j d)) → f (get_or (set l i x) j d) ≡ f (get_or (set m i y) j d)
put f [] [] i j x y d n at other = refl
put f [] (b ∷ m) i j x y d n at other = absurd (omega arith)
put f (a ∷ l) [] i j x y d n at other = absurd (omega arith)
put f (a ∷ l) (b ∷ m) zero zero x y d n at other = at refl
put f (a ∷ l) (b ∷ m) zero (suc j) x y d n at other = other (λ q. omega arith)
put f (a ∷ l) (b ∷ m) (suc i) zero x y d n at other = other (λ q. omega arith)
put f (a ∷ l) (b ∷ m) (suc i) (suc j) x y d n at other = put f l m i j x y d (omega arith) (λ q. at (ap suc q)) (λ q. other (λ p. q (omega arith)))

nothing : (b : Bool) → ◌≡◌ {A = ℕ} 0 (cond b 0 0)
nothing true = refl
nothing false = refl

one_page : (z : Bool) (ws : List ℕ) (n : ℕ) → n < 64 → get_or (cond z (replicate 64 0) (take 64 ws)) n 0 ≡ cond z 0 (get_or ws n 0)
one_page true ws n h = get_or-replicate 64 n 0 0 h
one_page false ws n h = get_or-take 64 ws n 0 h

page_length : (z : Bool) (ws : List ℕ) → 64 ≤ length ws → length (cond z (replicate 64 0) (take 64 ws)) ≡ 64
page_length true ws h = refl
page_length false ws h = simp length-take (omega arith)

pub cleared_at : (os : List ℕ) (e : ℕ) (ws : List ℕ) (n : ℕ) → length ws ≡ 64 * length os → get_or (cleared_words os e ws) n 0 ≡ cond (eqb (get_or os (n / 64) 0) e) 0 (get_or ws n 0)
cleared_at [] e ws n k = nothing (eqb 0 e) ∙ ap (λ (w : ℕ). cond (eqb 0 e) 0 w) (sym (get_or-eq_default ws 0 {n = n} (omega arith)))
cleared_at (o ∷ os) e ws n k =
    let A = cond (eqb o e) (replicate 64 0) (take 64 ws) in
    let len = page_length (eqb o e) ws (omega arith) in
    elim (cases_lt n 64) [
      | inl lo ↦
          let z : 0 ≡ n / 64 = omega arith in
          get_or-append A (cleared_words os e (drop 64 ws)) 0 n (omega arith) ∙ one_page (eqb o e) ws n lo
          ∙ ap (λ (j : ℕ). cond (eqb (get_or (o ∷ os) j 0) e) 0 (get_or ws n 0)) z
      | inr hi ↦
          let z : suc ((n - 64) / 64) ≡ n / 64 = omega arith in
          let y : 64 + (n - 64) ≡ n = omega arith in
          get_or-append_right A (cleared_words os e (drop 64 ws)) 64 n 0 len hi ∙ cleared_at os e (drop 64 ws) (n - 64) (simp length-drop (omega arith))
          ∙ ap₂ (λ (p w : ℕ). cond (eqb p e) 0 w) (ap (λ (j : ℕ). get_or (o ∷ os) j 0) z) (get_or-drop 64 ws (n - 64) 0 ∙ ap (λ (j : ℕ). get_or ws j 0) y)
    ]

-- two memories cleared asked-alike
pub cleared_same : (os : List ℕ) (e : ℕ) (ws xs : List ℕ) (n : ℕ) → length ws ≡ 64 * length os → length xs ≡ 64 * length os
    → ((get_or os (n / 64) 0 ≡ e → ⊥) → get_or ws n 0 ≡ get_or xs n 0)
    → get_or (cleared_words os e ws) n 0 ≡ get_or (cleared_words os e xs) n 0
cleared_same os e ws xs n wide long same =
    let o : ℕ = get_or os (n / 64) 0 in
    let l = cleared_at os e ws n wide in
    let r = cleared_at os e xs n long in
    elim (cases_eq o e) [
      | inl q ↦ l ∙ cond-true (eqb o e) 0 (get_or ws n 0) (eq-eqb o e q) ∙ sym (r ∙ cond-true (eqb o e) 0 (get_or xs n 0) (eq-eqb o e q))
      | inr q ↦ l ∙ cond-false (eqb o e) 0 (get_or ws n 0) (ne_eqb o e q) ∙ same q ∙ sym (r ∙ cond-false (eqb o e) 0 (get_or xs n 0) (ne_eqb o e q))
    ]

pub released_at : (os : List ℕ) (e f : ℕ) → get_or (released os e) f 0 ≡ cond (eqb (get_or os f 0) e) 0 (get_or os f 0)
released_at [] e f = nothing (eqb 0 e)
released_at (o ∷ os) e zero = refl
released_at (o ∷ os) e (suc f) = released_at os e f

-- pages with equal words
pub page_same : (ws xs : List ℕ) (f : ℕ) → length ws ≡ length xs → ((n : ℕ) → n / 64 ≡ f → get_or ws n 0 ≡ get_or xs n 0) → page_words ws f ≡ page_words xs f
page_same ws xs f n same =
    ext_get_or 0 (page_words ws f) (page_words xs f)
    (simp (length-take, length-drop, n))
    (λ i h.
    let k : i < 64 = omega (arith, simp (length-take, length-drop) at h) in
    get_or-take 64 (drop (64 * f) ws) i 0 k ∙ get_or-drop (64 * f) ws i 0
    ∙ same (64 * f + i) (omega arith)
    ∙ sym (get_or-take 64 (drop (64 * f) xs) i 0 k ∙ get_or-drop (64 * f) xs i 0))

-- ---- questions

abbrev pub AskedAlike : List Question → List Question → Type 0
AskedAlike [] [] = Unit {0}
AskedAlike [] (r ∷ rs) = ⊥
AskedAlike (q ∷ qs) [] = ⊥
AskedAlike (q ∷ qs) (r ∷ rs) = (q.number ≡ r.number) × (q.yes ≡ r.yes) × (q.yes ≡ true → AskedAlike qs rs)

pub asked_alike : (qs rs : List Question) → AskedAlike qs rs → first_no qs ≡ first_no rs
asked_alike [] [] a = refl
asked_alike [] (r ∷ rs) a = absurd a
asked_alike (q ∷ qs) [] a = absurd a
asked_alike (q ∷ qs) (r ∷ rs) a = go q.yes r.yes a.1 (λ h. asked_alike qs rs (a.2 h))
  where
    go : (b c : Bool) → b ≡ c → (b ≡ true → first_no qs ≡ first_no rs) → cond b (first_no qs) q.number ≡ cond c (first_no rs) r.number
    go true true e k = k refl
    go true false e k = let z : ◌≡◌ {A = ℕ} 0 1 = cc in absurd (omega arith)
    go false true e k = let z : ◌≡◌ {A = ℕ} 0 1 = cc in absurd (omega arith)
    go false false e k = a.0
