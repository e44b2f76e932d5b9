-- Lemmas on lists and tests that the other proofs share.
use Rattle.std.proofs.Common.{◌≡◌, ℕ, zero, suc, ◌+◌, ◌*◌, ◌<◌, ◌≤◌, Bool, true, ◌&&◌, ltb, leb, List, [], ◌∷◌, ◌++◌, length, get_or, take, drop, replicate, refl, ◌∙◌, arith, length-drop, length-take}
use Rattle.std.proofs.lemmas.Bool.{and_parts, and_from, leb-true, ltb-true, le-leb, lt-ltb}
use Rattle.board.specs.State.{makes_range, covers}

-- two lists that begin with parts of one length are equal part by part
pub append_parts : {A : Type 0} (a b x y : List A) → length a ≡ length b → a ++ x ≡ b ++ y → (a ≡ b) × (x ≡ y)
append_parts [] [] x y n e = (refl, e)
append_parts [] (b ∷ bs) x y n e = absurd (omega arith)
append_parts (a ∷ ar) [] x y n e = absurd (omega arith)
append_parts (a ∷ ar) (b ∷ bs) x y n e =
    let h : a ≡ b = cc in
    let t : ar ++ x ≡ bs ++ y = cc in
    let r = append_parts ar bs x y (omega arith) t in
    let r0 : ar ≡ bs = r.0 in
    (cc, r.1)

pub length_page : (ws : List ℕ) (f : ℕ) → length ws ≡ 4096 → f < 64 → length (take 64 (drop (64 * f) ws)) ≡ 64
length_page ws f n h = length-take 64 (drop (64 * f) ws) ∙ (let k = length-drop (64 * f) ws in omega arith)

-- the pages of a range are those from its first on, as many as it counts
pub span : (first count v : ℕ) → covers first count v ≡ true → (first ≤ v) × (v < first + count)
span first count v i =
    let p = and_parts (leb first v) (ltb v (first + count)) (and_parts (makes_range first count) (leb first v && ltb v (first + count)) i).1 in
    (leb-true first v p.0, ltb-true v (first + count) p.1)

pub in_span : (first count v : ℕ) → makes_range first count ≡ true → first ≤ v → v < first + count → covers first count v ≡ true
in_span first count v r l u =
    and_from (makes_range first count) (leb first v && ltb v (first + count)) r
    (and_from (leb first v) (ltb v (first + count)) (le-leb first v l) (lt-ltb v (first + count) u))

pub range_of : (first count v : ℕ) → covers first count v ≡ true → makes_range first count ≡ true
range_of first count v i = (and_parts (makes_range first count) (leb first v && ltb v (first + count)) i).0

-- an element of a list of one value, or what stands for none
pub replicated : {A : Type 0} (P : A → Type 0) (n i : ℕ) (a d : A) → P a → P d → P (get_or (replicate n a) i d)
replicated P zero i a d pa pd = pd
replicated P (suc n) zero a d pa pd = pa
replicated P (suc n) (suc i) a d pa pd = replicated P n i a d pa pd

-- the third of four tests
pub third : (a b c d : Bool) → (a && (b && (c && d))) ≡ true → c ≡ true
third a b c d q = (and_parts c d (and_parts b (c && d) (and_parts a (b && (c && d)) q).1).1).0
