-- Measurements tell enclaves apart.
use Rattle.std.proofs.Common.{◌≡◌, ℕ, zero, suc, ◌+◌, ◌<◌, ◌≤◌, Bool, true, false, cond, eqb, List, [], ◌∷◌, ◌++◌, length, get_or, drop, sym, refl, ap, ◌∙◌, subst, ap₂, ⊎_elim, arith}
use Rattle.std.proofs.lemmas.Bool.{cases_eq, eqb-true, eqb-false, cond-true}
use Rattle.board.specs.Measurements.{BuiltAlike}
use Rattle.board.specs.Measures.{page_words, measured_pages, measured_words}
use Rattle.board.specs.State.{State, entry_of, enclave_of, makes_range, inside}
use Rattle.board.specs.declared.Enclave.{Enclave}
use Rattle.board.proofs.Lists.{append_parts, length_page, span, in_span}

abbrev first_of : State → ℕ → ℕ
first_of s e = (enclave_of s.board e).first

abbrev count_of : State → ℕ → ℕ
count_of s e = (enclave_of s.board e).count

-- the numbers of a record, and then the words of its pages
abbrev pub measured_from : Enclave → List ℕ → List ℕ
measured_from r l = r.first ∷ (r.count ∷ (r.entrypoint ∷ l))

-- whole memory, every map's pages lie in it, and the enclave's numbers make a range
pub record Full (e : ℕ) (s : State) : Type 0 where
  pub whole : length s.words ≡ 4096
  pub frames : (p v : ℕ) → (entry_of s.board p v).frame < 64
  pub ranged : makes_range (first_of s e) (count_of s e) ≡ true

pub record SamePage (s : State) (e : ℕ) (t : State) (d : ℕ) (v : ℕ) : Type 0 where
  pub permission : (entry_of s.board e v).permission ≡ (entry_of t.board d v).permission
  pub contents : ((entry_of s.board e v).permission ≡ 0 → ⊥) → page_words s.words (entry_of s.board e v).frame ≡ page_words t.words (entry_of t.board d v).frame

-- one page's part of the measured words, over a list of what follows
part_go : (p : ℕ) (t : Bool) (a b x y : List ℕ) → eqb p 0 ≡ t → length a ≡ length b → cond t [] a ++ x ≡ cond t [] b ++ y → ((p ≡ 0 → ⊥) → a ≡ b) × (x ≡ y)
part_go p true a b x y z n e = (λ k. absurd (k (eqb-true p 0 z)), e)
part_go p false a b x y z n e = let r = append_parts a b x y n e in (λ k. r.0, r.1)

part : (p q : ℕ) (a b x y : List ℕ) → length a ≡ length b → p ∷ (cond (eqb p 0) [] a ++ x) ≡ q ∷ (cond (eqb q 0) [] b ++ y) → (p ≡ q) × ((p ≡ 0 → ⊥) → a ≡ b) × (x ≡ y)
part p q a b x y n e =
    let h : p ≡ q = ap (λ (l : List ℕ). get_or l 0 0) e in
    let r : cond (eqb p 0) [] a ++ x ≡ cond (eqb p 0) [] b ++ y = ap (λ (l : List ℕ). drop 1 l) e ∙ ap (λ (k : ℕ). cond (eqb k 0) [] b ++ y) (sym h) in
    let g = part_go p (eqb p 0) a b x y refl n r in
    (h, g.0, g.1)

same_part : (p q : ℕ) (a b : List ℕ) → p ≡ q → ((p ≡ 0 → ⊥) → a ≡ b) → p ∷ cond (eqb p 0) [] a ≡ q ∷ cond (eqb q 0) [] b
same_part p q a b e f = ap₂ (λ (k : ℕ) (l : List ℕ). k ∷ l) e (go (eqb p 0) refl ∙ ap (λ (k : ℕ). cond (eqb k 0) [] b) e)
  where
    go : (t : Bool) → eqb p 0 ≡ t → cond t [] a ≡ cond t [] b
    go true z = refl
    go false z = f (eqb-false p 0 z)

module _ (s : State) (e : ℕ) (t : State) (d : ℕ) where
  pub alike : (n v : ℕ) → ((w : ℕ) → v ≤ w → w < v + n → SamePage s e t d w) → measured_pages s e v n ≡ measured_pages t d v n
  alike zero v f = refl
  alike (suc n) v f =
      let o = f v (omega arith) (omega arith) in
      ap₂ (λ (a b : List ℕ). a ++ b) (same_part (entry_of s.board e v).permission (entry_of t.board d v).permission (page_words s.words (entry_of s.board e v).frame) (page_words t.words (entry_of t.board d v).frame) o.permission o.contents)
      (alike n (suc v) (λ w l u. f w (omega arith) (omega arith)))

  apart_at : (v w n : ℕ) → v ≤ w → w < v + suc n → SamePage s e t d v → (suc v ≤ w → w < suc v + n → SamePage s e t d w) → SamePage s e t d w
  apart_at v w n l u h k = ⊎_elim (λ (q : v ≡ w). subst (λ (x : ℕ). SamePage s e t d x) q h) (λ (q : v ≡ w → ⊥). k (omega arith) (omega arith)) (cases_eq v w)

  pub apart : Full e s → Full d t → (n v : ℕ) → measured_pages s e v n ≡ measured_pages t d v n → (w : ℕ) → v ≤ w → w < v + n → SamePage s e t d w
  apart fs ft zero v q w l u = absurd (omega arith)
  apart fs ft (suc n) v q w l u =
      let r = part (entry_of s.board e v).permission (entry_of t.board d v).permission (page_words s.words (entry_of s.board e v).frame) (page_words t.words (entry_of t.board d v).frame) (measured_pages s e (suc v) n) (measured_pages t d (suc v) n) (length_page s.words (entry_of s.board e v).frame fs.whole (fs.frames e v) ∙ sym (length_page t.words (entry_of t.board d v).frame ft.whole (ft.frames d v))) q in
      apart_at v w n l u (record { permission = r.0; contents = r.1 }) (apart fs ft n (suc v) r.2 w)

-- the measured words of a range that is one
measured_is : (e : ℕ) (s : State) → Full e s → measured_words s e ≡ first_of s e ∷ (count_of s e ∷ ((enclave_of s.board e).entrypoint ∷ measured_pages s e (first_of s e) (count_of s e)))
measured_is e s f =
    ap (λ (l : List ℕ). measured_from (enclave_of s.board e) l) (cond-true (makes_range (first_of s e) (count_of s e)) (measured_pages s e (first_of s e) (count_of s e)) [] f.ranged)

-- the law over two states that have whole memory and whose maps lie in it
module _ (s : State) (e : ℕ) (t : State) (d : ℕ) (fs : Full e s) (ft : Full d t) where
  pub same_build : measured_words s e ≡ measured_words t d → BuiltAlike e d s t
  same_build m =
      let q = sym (measured_is e s fs) ∙ m ∙ measured_is d t ft in
      let f : first_of s e ≡ first_of t d = ap (λ (l : List ℕ). get_or l 0 0) q in
      let c : count_of s e ≡ count_of t d = ap (λ (l : List ℕ). get_or l 1 0) q in
      let r : measured_pages s e (first_of s e) (count_of s e) ≡ measured_pages t d (first_of t d) (count_of t d) = ap (λ (l : List ℕ). drop 3 l) q in
      let r' : measured_pages s e (first_of s e) (count_of s e) ≡ measured_pages t d (first_of s e) (count_of s e) = r ∙ sym (ap₂ (λ (a b : ℕ). measured_pages t d a b) f c) in
      let at : (v : ℕ) → inside s.board e v ≡ true → SamePage s e t d v = λ v i. (
      let p = span (first_of s e) (count_of s e) v i in
      apart s e t d fs ft (count_of s e) (first_of s e) r' v p.0 p.1) in
      record {
        first = f;
        count = c;
        entrypoint = ap (λ (l : List ℕ). get_or l 2 0) q;
        permissions = λ v i. (at v i).permission;
        contents = λ v i k. (at v i).contents k;
      }

  pub same_words : BuiltAlike e d s t → measured_words s e ≡ measured_words t d
  same_words b =
      let r : measured_pages s e (first_of s e) (count_of s e) ≡ measured_pages t d (first_of s e) (count_of s e) =
      alike s e t d (count_of s e) (first_of s e) (λ w l u. (
      let i = in_span (first_of s e) (count_of s e) w fs.ranged l u in
      record { permission = b.permissions w i; contents = λ k. b.contents w i k })) in
      let r' = r ∙ ap₂ (λ (a c : ℕ). measured_pages t d a c) b.first b.count in
      measured_is e s fs
      ∙ ap₂ (λ (a : ℕ) (l : List ℕ). a ∷ l) b.first (ap₂ (λ (a : ℕ) (l : List ℕ). a ∷ l) b.count (ap₂ (λ (a : ℕ) (l : List ℕ). a ∷ l) b.entrypoint r'))
      ∙ sym (measured_is d t ft)
