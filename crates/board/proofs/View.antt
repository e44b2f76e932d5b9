-- All of an enclave that its own calls depend on, as one value: what it is after a call of somebody else, and the private state in it.
use Rattle.std.proofs.Common.{◌≡◌, ℕ, zero, suc, ◌+◌, ◌≤◌, Bool, true, false, cond, eqb, List, [], ◌∷◌, sym, refl, ap, ◌∙◌, subst, ap₂, arith}
use Rattle.std.proofs.lemmas.Bool.{eqb-false, cond-true, cond-false, ne_eqb}
use Rattle.board.specs.Lives.{PrivatePage, private_page, private_pages, Private, private}
use Rattle.board.specs.Measures.{page_words}
use Rattle.board.specs.State.{State, entry_of, enclave_of, makes_range, inside}
use Rattle.board.specs.declared.Context.{Context}
use Rattle.board.specs.declared.Enclave.{Enclave}
use Rattle.board.specs.declared.Entry.{Entry}
use Rattle.board.specs.declared.Phase.{Phase}
use Rattle.board.proofs.Kept.{Kept, guard_inside}
use Rattle.board.proofs.Lists.{in_span}
use Rattle.board.proofs.Phases.{in_range}
use Rattle.board.proofs.Sound.{Shape, Sound}

pub record View : Type 0 where
  pub first : ℕ
  pub count : ℕ
  pub entrypoint : ℕ
  pub phase : Phase
  pub measurement : List ℕ
  pub context : Context
  pub page : ℕ → PrivatePage

-- equal part by part
pub same_view : (V W : View) → V.first ≡ W.first → V.count ≡ W.count → V.entrypoint ≡ W.entrypoint → V.phase ≡ W.phase → V.measurement ≡ W.measurement → V.context ≡ W.context → ((v : ℕ) → V.page v ≡ W.page v) → V ≡ W
same_view V W a b c d f g h = λ i. record { first = a i; count = b i; entrypoint = c i; phase = d i; measurement = f i; context = g i; page = λ v. h v i }

abbrev pub no_page : PrivatePage
no_page = record { permission = 0; accessed = false; words = [] }

abbrev pub view : ℕ → State → View
view e s =
    record {
      first = (enclave_of s.board e).first;
      count = (enclave_of s.board e).count;
      entrypoint = (enclave_of s.board e).entrypoint;
      phase = (enclave_of s.board e).phase;
      measurement = (enclave_of s.board e).measurement;
      context = cond (eqb s.board.running e) s.board.live (enclave_of s.board e).saved;
      page = λ v. cond (inside s.board e v) (private_page s.words (entry_of s.board e v)) no_page;
    }

-- ---- the private state is in the view

tabulated : (ℕ → PrivatePage) → ℕ → ℕ → List PrivatePage
tabulated f v zero = []
tabulated f v (suc n) = f v ∷ tabulated f (suc v) n

pub private_in : View → Private
private_in V = record { first = V.first; count = V.count; pages = tabulated V.page V.first V.count; context = V.context }

module _ (e : ℕ) (s : State) (ranged : makes_range (enclave_of s.board e).first (enclave_of s.board e).count ≡ true) where
  pages_in : (n v : ℕ) → (enclave_of s.board e).first ≤ v → v + n ≤ (enclave_of s.board e).first + (enclave_of s.board e).count → private_pages s e v n ≡ tabulated (view e s).page v n
  unfolding tabulated
  pages_in zero v l u = refl
  pages_in (suc n) v l u =
      ap₂ (λ (x : PrivatePage) (y : List PrivatePage). x ∷ y)
      (sym (cond-true (inside s.board e v) (private_page s.words (entry_of s.board e v)) no_page (in_span (enclave_of s.board e).first (enclave_of s.board e).count v ranged l (omega arith))))
      (pages_in n (suc v) (omega arith) (omega arith))

  pub private_view : private e s ≡ private_in (view e s)
  unfolding private_in
  private_view = λ i. record { first = (enclave_of s.board e).first; count = (enclave_of s.board e).count; pages = pages_in (enclave_of s.board e).count (enclave_of s.board e).first (omega arith) (omega arith) i; context = (view e s).context }

pub same_private : (e d : ℕ) (s t : State) → makes_range (enclave_of s.board e).first (enclave_of s.board e).count ≡ true → view e s ≡ view d t → private e s ≡ private d t
same_private e d s t r q = private_view e s r ∙ ap private_in q ∙ sym (private_view d t (subst (λ (V : View). makes_range V.first V.count ≡ true) q r))

-- ---- a kept enclave looks the same

pub cond_same : {A : Type 0} (b c : Bool) (x y z : A) → b ≡ c → (c ≡ true → x ≡ y) → cond b x z ≡ cond c y z
cond_same b c x y z q f = ap (λ (t : Bool). cond t x z) q ∙ go c f
  where
    go : (c : Bool) → (c ≡ true → x ≡ y) → cond c x z ≡ cond c y z
    go true f = f refl
    go false f = refl

-- a page with the same entry, and the same words where there are any
pub same_page : (ws xs : List ℕ) (t u : Entry) → t.permission ≡ u.permission → t.accessed ≡ u.accessed → ((u.permission ≡ 0 → ⊥) → page_words ws t.frame ≡ page_words xs u.frame) → private_page ws t ≡ private_page xs u
same_page ws xs t u p a f = λ i. record { permission = p i; accessed = a i; words = c i }
  where
    go : (b : Bool) → eqb u.permission 0 ≡ b → cond b [] (page_words ws t.frame) ≡ cond b [] (page_words xs u.frame)
    go true q = refl
    go false q = f (eqb-false u.permission 0 q)

    c : (private_page ws t).words ≡ (private_page xs u).words
    c = ap (λ (n : ℕ). cond (eqb n 0) [] (page_words ws t.frame)) p ∙ go (eqb u.permission 0) refl

pub view_kept : (e : ℕ) (s t : State) → Kept e s t → Shape s.board → Sound e s.board → view e t ≡ view e s
view_kept e s t k i u =
    same_view (view e t) (view e s)
    (ap (λ (r : Enclave). r.first) k.enclave)
    (ap (λ (r : Enclave). r.count) k.enclave)
    (ap (λ (r : Enclave). r.entrypoint) k.enclave)
    (ap (λ (r : Enclave). r.phase) k.enclave)
    (ap (λ (r : Enclave). r.measurement) k.enclave)
    (cond-false (eqb t.board.running e) t.board.live (enclave_of t.board e).saved (ne_eqb t.board.running e k.still_asleep) ∙ ap (λ (r : Enclave). r.saved) k.enclave ∙ sym (cond-false (eqb s.board.running e) s.board.live (enclave_of s.board e).saved (ne_eqb s.board.running e k.asleep)))
    (λ v. cond_same (inside t.board e v) (inside s.board e v) _ _ no_page (ap (λ (r : Enclave). in_range r v) k.enclave) (λ h. (
    let x = k.entries v (guard_inside s.board e v h) in
    same_page t.words s.words (entry_of t.board e v) (entry_of s.board e v) (ap (λ (a : Entry). a.permission) x) (ap (λ (a : Entry). a.accessed) x)
    (λ n. ap (λ (a : Entry). page_words t.words a.frame) x ∙ k.contents (entry_of s.board e v).frame (u.owned v h n) (i.frames e v)))))
