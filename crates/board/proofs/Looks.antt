-- Two states that look the same to others: what each kind of write leaves of it.
use Rattle.std.proofs.Common.{◌≡◌, ℕ, suc, ◌+◌, ◌-◌, ◌*◌, ◌/◌, ◌≤◌, Bool, true, false, cond, eqb, leb, List, [], ◌∷◌, length, get_or, set, sym, refl, ap, ◌∙◌, subst, ap₂, inl, inr, add-zero, zero-add, arith, length-set, get_or-set_other, ext_get_or}
use lib.Seq.{set-get_or}
use Rattle.std.proofs.lemmas.Bool.{cases_eq, eqb-false, cond-true, cond-false, ne_eqb, eq-eqb, and_from, le-leb}
use Rattle.board.specs.Effects.{on_board, with_enclave, with_entry, with_owners, switched, with_saved, cleared_words, released, removed}
use Rattle.board.specs.Questions.{is_enclave_number}
use Rattle.board.specs.Sight.{seen_words, seen_entries, seen, LooksTheSame}
use Rattle.board.specs.State.{State, unmapped, blank, idle, absent, map_of, entry_of, enclave_of, owner_of, covers, inside}
use Rattle.board.specs.declared.Board.{Board}
use Rattle.board.specs.declared.Context.{Context}
use Rattle.board.specs.declared.Enclave.{Enclave}
use Rattle.board.specs.declared.Entry.{Entry}
use Rattle.board.proofs.Allowed.{from_one, up_to_eight}
use Rattle.board.proofs.Moves.{enclave_at, enclaves_with, enclave_with, enclave_other, length_cleared}
use Rattle.board.proofs.Orderly.{Orderly, enclave_after}
use Rattle.board.proofs.Phases.{in_range}
use Rattle.board.proofs.Rows.{put, cleared_same, released_at}

pub inside_same : (b c : Board) (e v : ℕ) → (enclave_of b e).first ≡ (enclave_of c e).first → (enclave_of b e).count ≡ (enclave_of c e).count → inside b e v ≡ inside c e v
inside_same b c e v f n = ap₂ (λ (x y : ℕ). covers x y v) f n

owner_same : (e : ℕ) (s t : State) → LooksTheSame e s t → (f : ℕ) → owner_of s.board f ≡ owner_of t.board f
owner_same e s t h f = ap (λ (os : List ℕ). get_or os f 0) h.owners

pub looks_refl : (e : ℕ) (s : State) → LooksTheSame e s s
looks_refl e s = search

pub looks_sym : (e : ℕ) (s t : State) → LooksTheSame e s t → LooksTheSame e t s
looks_sym e s t h =
    record {
      owners = sym h.owners;
      running = sym h.running;
      host = sym h.host;
      live = λ ne. sym (h.live (λ q. ne (sym h.running ∙ q)));
      sizes = sym h.sizes;
      words = λ n ne. sym (h.words n (λ q. ne (sym (owner_same e s t h (n / 64)) ∙ q)));
      maps = λ p ne. sym (h.maps p ne);
      outside = λ v i. sym (h.outside v (inside_same s.board t.board e v h.first h.count ∙ i));
      enclaves = λ d k ne. sym (h.enclaves d k ne);
      phase = sym h.phase;
      first = sym h.first;
      count = sym h.count;
      entrypoint = sym h.entrypoint;
      measurement = sym h.measurement;
    }

pub looks_trans : (e : ℕ) (s t u : State) → LooksTheSame e s t → LooksTheSame e t u → LooksTheSame e s u
looks_trans e s t u h k =
    record {
      owners = h.owners ∙ k.owners;
      running = h.running ∙ k.running;
      host = h.host ∙ k.host;
      live = λ ne. h.live ne ∙ k.live (λ q. ne (h.running ∙ q));
      sizes = h.sizes ∙ k.sizes;
      words = λ n ne. h.words n ne ∙ k.words n (λ q. ne (owner_same e s t h (n / 64) ∙ q));
      maps = λ p ne. h.maps p ne ∙ k.maps p ne;
      outside = λ v i. h.outside v i ∙ k.outside v (sym (inside_same s.board t.board e v h.first h.count) ∙ i);
      enclaves = λ d l ne. h.enclaves d l ne ∙ k.enclaves d l ne;
      phase = h.phase ∙ k.phase;
      first = h.first ∙ k.first;
      count = h.count ∙ k.count;
      entrypoint = h.entrypoint ∙ k.entrypoint;
      measurement = h.measurement ∙ k.measurement;
    }

-- what others see of an enclave's record
pub record Shown (x y : Enclave) : Type 0 where
  pub phase : x.phase ≡ y.phase
  pub first : x.first ≡ y.first
  pub count : x.count ≡ y.count
  pub entrypoint : x.entrypoint ≡ y.entrypoint
  pub measurement : x.measurement ≡ y.measurement

pub shown_same : (x y : Enclave) → x ≡ y → Shown x y
shown_same x y q =
    record {
      phase = ap (λ (z : Enclave). z.phase) q;
      first = ap (λ (z : Enclave). z.first) q;
      count = ap (λ (z : Enclave). z.count) q;
      entrypoint = ap (λ (z : Enclave). z.entrypoint) q;
      measurement = ap (λ (z : Enclave). z.measurement) q;
    }

-- two boards after a write to the record of enclave d: what f tells of enclave c
put_enclave : {B : Type 0} (f : Enclave → B) (b o : Board) (d c : ℕ) (x y : Enclave) → 1 ≤ d → 1 ≤ c → length b.enclaves ≡ length o.enclaves → (c ≡ d → f x ≡ f y)
    → ((c ≡ d → ⊥) → f (enclave_of b c) ≡ f (enclave_of o c)) → f (enclave_of (with_enclave b d x) c) ≡ f (enclave_of (with_enclave o d y) c)
put_enclave f b o d c x y ld lc n at other =
    ap f (enclave_with b d c x ld lc)
    ∙ put f b.enclaves o.enclaves (d - 1) (c - 1) x y absent n (λ q. at (omega arith))
    (λ q. sym (ap f (enclave_at b c lc)) ∙ other (λ r. q (ap (λ (k : ℕ). k - 1) r)) ∙ ap f (enclave_at o c lc))
    ∙ sym (ap f (enclave_with o d c y ld lc))

-- a page of the host's given away
pub looks_owner : (e : ℕ) (s t : State) → is_enclave_number e ≡ true → LooksTheSame e s t → (f d : ℕ) → owner_of s.board f ≡ 0
    → LooksTheSame e (on_board s (with_owners s.board (set s.board.owners f d))) (on_board t (with_owners t.board (set t.board.owners f d)))
looks_owner e s t is h f d o =
    let lo = from_one e is in
    let b = s.board in
    let owners = ap (λ (os : List ℕ). set os f d) h.owners in
    let words : (n : ℕ) → (get_or (set b.owners f d) (n / 64) 0 ≡ e → ⊥) → get_or s.words n 0 ≡ get_or t.words n 0 =
    λ n ne. h.words n (λ q. ne (get_or-set_other b.owners f (n / 64) d 0 (λ z. let w = ap (owner_of b) z in omega arith) ∙ q)) in
    search

-- another party runs
pub looks_switched : (e : ℕ) (s t : State) → LooksTheSame e s t → (p q : ℕ) (x y : Context) (k l : Context) → p ≡ q → ((p ≡ e → ⊥) → x ≡ y) → k ≡ l
    → LooksTheSame e (on_board s (switched s.board p x k)) (on_board t (switched t.board q y l))
looks_switched e s t h p q x y k l w live host = search

-- a word written
pub looks_word : (e : ℕ) (s t : State) → LooksTheSame e s t → (n : ℕ) (x y : ℕ) → ((owner_of s.board (n / 64) ≡ e → ⊥) → x ≡ y)
    → LooksTheSame e (record { board = s.board; words = set s.words n x }) (record { board = t.board; words = set t.words n y })
looks_word e s t h n x y same =
    let sizes = length-set s.words n x ∙ h.sizes ∙ sym (length-set t.words n y) in
    let words : (k : ℕ) → (owner_of s.board (k / 64) ≡ e → ⊥) → get_or (set s.words n x) k 0 ≡ get_or (set t.words n y) k 0 =
    λ k ne.
    put (λ z. z) s.words t.words n k x y 0 h.sizes (λ q. same (λ r. ne (ap (λ (j : ℕ). owner_of s.board (j / 64)) q ∙ r))) (λ _. h.words k ne) in
    search

-- entries and words without what is hidden
hidden_or : {A : Type 0} (b c : Bool) (z x y : A) → b ≡ c → (b ≡ false → x ≡ y) → cond b z x ≡ cond c z y
hidden_or b c z x y q f = go b f ∙ ap (λ (k : Bool). cond k z y) q
  where
    go : (b : Bool) → (b ≡ false → x ≡ y) → cond b z x ≡ cond b z y
    go true f = refl
    go false f = f refl

entries_same : (b c : Board) (e v : ℕ) (l m : List Entry) → length l ≡ length m → ((w : ℕ) → inside b e w ≡ inside c e w)
    → ((j : ℕ) → inside b e (v + j) ≡ false → get_or l j unmapped ≡ get_or m j unmapped) → seen_entries b e v l ≡ seen_entries c e v m
entries_same b c e v [] [] n i f = refl
entries_same b c e v [] (y ∷ m) n i f = absurd (omega arith)
entries_same b c e v (x ∷ l) [] n i f = absurd (omega arith)
entries_same b c e v (x ∷ l) (y ∷ m) n i f =
    ap₂ (λ (z : Entry) (k : List Entry). z ∷ k)
    (hidden_or (inside b e v) (inside c e v) unmapped x y (i v) (λ q. f 0 (ap (λ (k : ℕ). inside b e k) (add-zero v) ∙ q)))
    (entries_same b c e (suc v) l m (omega arith) i (λ j q. f (suc j) (let z : v + suc j ≡ suc v + j = omega arith in ap (λ (k : ℕ). inside b e k) z ∙ q)))

words_same : (b c : Board) (e n : ℕ) (l m : List ℕ) → length l ≡ length m → ((f : ℕ) → owner_of b f ≡ owner_of c f)
    → ((j : ℕ) → (owner_of b ((n + j) / 64) ≡ e → ⊥) → get_or l j 0 ≡ get_or m j 0) → seen_words b e n l ≡ seen_words c e n m
words_same b c e n [] [] k o f = refl
words_same b c e n [] (y ∷ m) k o f = absurd (omega arith)
words_same b c e n (x ∷ l) [] k o f = absurd (omega arith)
words_same b c e n (x ∷ l) (y ∷ m) k o f =
    ap₂ (λ (z : ℕ) (r : List ℕ). z ∷ r)
    (hidden_or (eqb (owner_of b (n / 64)) e) (eqb (owner_of c (n / 64)) e) 0 x y (ap (λ (r : ℕ). eqb r e) (o (n / 64)))
    (λ q. f 0 (λ r. eqb-false (owner_of b (n / 64)) e q (sym (ap (λ (z : ℕ). owner_of b (z / 64)) (add-zero n)) ∙ r))))
    (words_same b c e (suc n) l m (omega arith) o (λ j q. f (suc j) (λ r. q (let z : n + suc j ≡ suc n + j = omega arith in sym (ap (λ (w : ℕ). owner_of b (w / 64)) z) ∙ r))))

module _ (e : ℕ) (s t : State) (is : is_enclave_number e ≡ true) (h : LooksTheSame e s t) (hs : Orderly s.board) (ht : Orderly t.board) where
  pub shown_of : (d : ℕ) → is_enclave_number d ≡ true → Shown (enclave_of s.board d) (enclave_of t.board d)
  shown_of d k =
      elim (cases_eq d e) [
        | inl q ↦ subst (λ (c : ℕ). Shown (enclave_of s.board c) (enclave_of t.board c)) (sym q)
            (record { phase = h.phase; first = h.first; count = h.count; entrypoint = h.entrypoint; measurement = h.measurement })
        | inr q ↦ shown_same (enclave_of s.board d) (enclave_of t.board d) (h.enclaves d k q)
      ]

  -- a write to enclave d's record
  pub looks_enclave : (d : ℕ) (x y : Enclave) → is_enclave_number d ≡ true → ((d ≡ e → ⊥) → x ≡ y)
      → (d ≡ e → Shown x y × (x.first ≡ (enclave_of s.board e).first) × (x.count ≡ (enclave_of s.board e).count))
      → LooksTheSame e (on_board s (with_enclave s.board d x)) (on_board t (with_enclave t.board d y))
  looks_enclave d x y k same mine =
      let n : length s.board.enclaves ≡ length t.board.enclaves = hs.enclaves ∙ sym ht.enclaves in
      record {
        owners = h.owners;
        running = h.running;
        host = h.host;
        live = h.live;
        sizes = h.sizes;
        words = h.words;
        maps = h.maps;
        outside = λ v i.
            h.outside v
            (inside_same s.board (with_enclave s.board d x) e v
            (sym (enclave_after (λ z. z.first ≡ (enclave_of s.board e).first) s.board d e x hs.enclaves (from_one d k) (up_to_eight d k) (from_one e is) (λ q. (mine (sym q)).1) (λ _. refl)))
            (sym (enclave_after (λ z. z.count ≡ (enclave_of s.board e).count) s.board d e x hs.enclaves (from_one d k) (up_to_eight d k) (from_one e is) (λ q. (mine (sym q)).2) (λ _. refl)))
            ∙ i);
        enclaves = λ c ok ne.
            put_enclave (λ z. z) s.board t.board d c x y (from_one d k) (from_one c ok) n (λ q. same (λ r. ne (q ∙ r))) (λ _. h.enclaves c ok ne);
        phase = put_enclave (λ z. z.phase) s.board t.board d e x y (from_one d k) (from_one e is) n (λ q. (mine (sym q)).0.phase) (λ _. h.phase);
        first = put_enclave (λ z. z.first) s.board t.board d e x y (from_one d k) (from_one e is) n (λ q. (mine (sym q)).0.first) (λ _. h.first);
        count = put_enclave (λ z. z.count) s.board t.board d e x y (from_one d k) (from_one e is) n (λ q. (mine (sym q)).0.count) (λ _. h.count);
        entrypoint = put_enclave (λ z. z.entrypoint) s.board t.board d e x y (from_one d k) (from_one e is) n (λ q. (mine (sym q)).0.entrypoint) (λ _. h.entrypoint);
        measurement = put_enclave (λ z. z.measurement) s.board t.board d e x y (from_one d k) (from_one e is) n (λ q. (mine (sym q)).0.measurement) (λ _. h.measurement);
      }

  -- a write to an entry of party p's map
  pub looks_entry : (p v : ℕ) (x y : Entry) → ((p ≡ e → ⊥) → x ≡ y) → (p ≡ e → inside s.board e v ≡ false → x ≡ y)
      → LooksTheSame e (on_board s (with_entry s.board p v x)) (on_board t (with_entry t.board p v y))
  looks_entry p v x y same mine =
      let n : length s.board.maps ≡ length t.board.maps = hs.maps ∙ sym ht.maps in
      let k : length (map_of s.board p) ≡ length (map_of t.board p) = hs.pages p ∙ sym (ht.pages p) in
      let b = with_entry s.board p v x in
      let c = with_entry t.board p v y in
      let maps : (q : ℕ) → (q ≡ e → ⊥) → map_of b q ≡ map_of c q =
      λ q ne.
      put (λ z. z) s.board.maps t.board.maps p q (set (map_of s.board p) v x) (set (map_of t.board p) v y) blank n
      (λ r. let o : p ≡ e → ⊥ = λ w. ne (r ∙ w) in ap₂ (λ (m : List Entry) (z : Entry). set m v z) (h.maps p o) (same o))
      (λ _. h.maps q ne) in
      let outside : (w : ℕ) → inside b e w ≡ false → entry_of b e w ≡ entry_of c e w =
      λ w i.
      put (λ m. get_or m w unmapped) s.board.maps t.board.maps p e (set (map_of s.board p) v x) (set (map_of t.board p) v y) blank n
      (λ q.
      put (λ z. z) (map_of s.board p) (map_of t.board p) v w x y unmapped k
      (λ r. mine (sym q) (subst (λ (j : ℕ). inside s.board e j ≡ false) r i))
      (λ _. subst (λ (j : ℕ). entry_of s.board j w ≡ entry_of t.board j w) q (h.outside w i)))
      (λ _. h.outside w i) in
      search

  pages_left : length s.words ≡ 4096 → length s.words ≡ 64 * length s.board.owners
  pages_left full = let n = hs.owners in omega arith

  pages_right : length s.words ≡ 4096 → length t.words ≡ 64 * length t.board.owners
  pages_right full = let n = ht.owners in let z = h.sizes in omega arith

  cleared_alike : (d n : ℕ) → length s.words ≡ 4096 → ((owner_of s.board (n / 64) ≡ d → ⊥) → get_or s.words n 0 ≡ get_or t.words n 0)
      → get_or (cleared_words s.board.owners d s.words) n 0 ≡ get_or (cleared_words t.board.owners d t.words) n 0
  cleared_alike d n full same =
      let os = s.board.owners in
      let k : length t.words ≡ 64 * length os = let m = hs.owners in let z = h.sizes in omega arith in
      cleared_same os d s.words t.words n (pages_left full) k same ∙ ap (λ (os : List ℕ). get_or (cleared_words os d t.words) n 0) h.owners

  cleared_sizes : (d : ℕ) → length s.words ≡ 4096 → length (cleared_words s.board.owners d s.words) ≡ length (cleared_words t.board.owners d t.words)
  cleared_sizes d full =
      length_cleared s.board.owners d s.words (pages_left full) ∙ ap (λ (os : List ℕ). 64 * length os) h.owners
      ∙ sym (length_cleared t.board.owners d t.words (pages_right full))

  -- all maps, once that of the enclave is replaced; all records, once that of the enclave is
  maps_replaced : (l m : List Entry) → l ≡ m → set s.board.maps e l ≡ set t.board.maps e m
  maps_replaced l m same =
      let n : length s.board.maps ≡ length t.board.maps = hs.maps ∙ sym ht.maps in
      ext_get_or blank (set s.board.maps e l) (set t.board.maps e m) (length-set s.board.maps e l ∙ n ∙ sym (length-set t.board.maps e m))
      (λ p _. put (λ z. z) s.board.maps t.board.maps e p l m blank n (λ _. same) (λ ne. h.maps p ne))

  enclaves_replaced : (x y : Enclave) → x ≡ y → (with_enclave s.board e x).enclaves ≡ (with_enclave t.board e y).enclaves
  enclaves_replaced x y same =
      let n : length s.board.enclaves ≡ length t.board.enclaves = hs.enclaves ∙ sym ht.enclaves in
      let small = hs.enclaves in
      let lo = from_one e is in
      enclaves_with s.board e x lo
      ∙ ext_get_or absent (set s.board.enclaves (e - 1) x) (set t.board.enclaves (e - 1) y)
      (length-set s.board.enclaves (e - 1) x ∙ n ∙ sym (length-set t.board.enclaves (e - 1) y))
      (λ i low.
      put (λ z. z) s.board.enclaves t.board.enclaves (e - 1) i x y absent n (λ _. same)
      (λ ne.
      let k : suc i ≤ 8 = omega (arith, length-set s.board.enclaves (e - 1) x) in
      let j : suc i - 1 ≡ i = omega arith in
      subst (λ (x : ℕ). get_or s.board.enclaves x absent ≡ get_or t.board.enclaves x absent) j
      (sym (enclave_at s.board (suc i) (omega arith))
      ∙ h.enclaves (suc i) (and_from (leb 1 (suc i)) (leb (suc i) 8) (le-leb 1 (suc i) (omega arith)) (le-leb (suc i) 8 k)) (λ q. ne (omega arith))
      ∙ enclave_at t.board (suc i) (omega arith))))
      ∙ sym (enclaves_with t.board e y lo)

  -- the enclave itself removed: the states are equal
  pub removed_equal : length s.words ≡ 4096 → (s.board.running ≡ e → ⊥) → removed s e ≡ removed t e
  removed_equal full other =
      let owners = ap (λ (os : List ℕ). released os e) h.owners in
      let maps = maps_replaced blank blank refl in
      let enclaves = enclaves_replaced absent absent refl in
      let words =
      ext_get_or 0 (cleared_words s.board.owners e s.words) (cleared_words t.board.owners e t.words) (cleared_sizes e full)
      (λ i _. cleared_alike e i full (λ ne. h.words i ne)) in
      λ i.
      record {
        board = record { owners = owners i; running = h.running i; live = h.live other i; host = h.host i; maps = maps i; enclaves = enclaves i };
        words = words i;
      }

  -- another enclave removed
  pub looks_removed : length s.words ≡ 4096 → (d : ℕ) → is_enclave_number d ≡ true → (d ≡ e → ⊥) → LooksTheSame e (removed s d) (removed t d)
  looks_removed full d k ne =
      let n : length s.board.enclaves ≡ length t.board.enclaves = hs.enclaves ∙ sym ht.enclaves in
      let m : length s.board.maps ≡ length t.board.maps = hs.maps ∙ sym ht.maps in
      let old = enclave_other s.board d e absent (from_one d k) (from_one e is) (λ q. ne (sym q)) in
      record {
        owners = ap (λ (os : List ℕ). released os d) h.owners;
        running = h.running;
        host = h.host;
        live = h.live;
        sizes = cleared_sizes d full;
        words = λ i other.
            cleared_alike d i full
            (λ z.
            h.words i
            (λ q.
            let o = owner_of s.board (i / 64) in
            other (released_at s.board.owners d (i / 64) ∙ cond-false (eqb o d) 0 o (ne_eqb o d z) ∙ q)));
        maps = λ p o. put (λ z. z) s.board.maps t.board.maps d p blank blank blank m (λ _. refl) (λ _. h.maps p o);
        outside = λ v i.
            put (λ l. get_or l v unmapped) s.board.maps t.board.maps d e blank blank blank m (λ _. refl)
            (λ _. h.outside v (subst (λ (r : Enclave). in_range r v ≡ false) old i));
        enclaves = λ c ok o. put_enclave (λ z. z) s.board t.board d c absent absent (from_one d k) (from_one c ok) n (λ _. refl) (λ _. h.enclaves c ok o);
        phase = put_enclave (λ z. z.phase) s.board t.board d e absent absent (from_one d k) (from_one e is) n (λ _. refl) (λ _. h.phase);
        first = put_enclave (λ z. z.first) s.board t.board d e absent absent (from_one d k) (from_one e is) n (λ _. refl) (λ _. h.first);
        count = put_enclave (λ z. z.count) s.board t.board d e absent absent (from_one d k) (from_one e is) n (λ _. refl) (λ _. h.count);
        entrypoint = put_enclave (λ z. z.entrypoint) s.board t.board d e absent absent (from_one d k) (from_one e is) n (λ _. refl) (λ _. h.entrypoint);
        measurement = put_enclave (λ z. z.measurement) s.board t.board d e absent absent (from_one d k) (from_one e is) n (λ _. refl) (λ _. h.measurement);
      }

  -- what others see is equal
  pub seen_same : seen e s ≡ seen e t
  seen_same =
      let x = enclave_of s.board e in
      let y = enclave_of t.board e in
      let hidden : with_saved x x.phase idle ≡ with_saved y y.phase idle =
      λ i. record { phase = h.phase i; first = h.first i; count = h.count i; entrypoint = h.entrypoint i; measurement = h.measurement i; saved = idle } in
      let maps =
      maps_replaced (seen_entries s.board e 0 (map_of s.board e)) (seen_entries t.board e 0 (map_of t.board e))
      (entries_same s.board t.board e 0 (map_of s.board e) (map_of t.board e) (hs.pages e ∙ sym (ht.pages e))
      (λ v. inside_same s.board t.board e v h.first h.count)
      (λ v o. h.outside v (subst (λ (w : ℕ). inside s.board e w ≡ false) (zero-add v) o))) in
      let enclaves = enclaves_replaced (with_saved x x.phase idle) (with_saved y y.phase idle) hidden in
      let live : cond (eqb s.board.running e) idle s.board.live ≡ cond (eqb t.board.running e) idle t.board.live =
      elim (cases_eq s.board.running e) [
        | inl q ↦ cond-true (eqb s.board.running e) idle s.board.live (eq-eqb s.board.running e q)
            ∙ sym (cond-true (eqb t.board.running e) idle t.board.live (eq-eqb t.board.running e (sym h.running ∙ q)))
        | inr q ↦ ap₂ (λ (r : ℕ) (x : Context). cond (eqb r e) idle x) h.running (h.live q)
      ] in
      let words =
      words_same s.board t.board e 0 s.words t.words h.sizes (owner_same e s t h)
      (λ n o. h.words n (λ q. o (ap (λ (k : ℕ). owner_of s.board (k / 64)) (zero-add n) ∙ q))) in
      λ i.
      record {
        board = record { owners = h.owners i; running = h.running i; live = live i; host = h.host i; maps = maps i; enclaves = enclaves i };
        words = words i;
      }

-- ---- a write that others do not see

pub hidden_entry : (e : ℕ) (s : State) → is_enclave_number e ≡ true → Orderly s.board → (v : ℕ) (x : Entry) → inside s.board e v ≡ true
    → LooksTheSame e s (on_board s (with_entry s.board e v x))
hidden_entry e s is hs v x i =
    let b = s.board in
    let old : with_entry b e v (entry_of b e v) ≡ b =
    ap (λ (m : List (List Entry)). record { owners = b.owners; running = b.running; live = b.live; host = b.host; maps = m; enclaves = b.enclaves })
    (ap (λ (l : List Entry). set b.maps e l) (set-get_or (map_of b e) v unmapped) ∙ set-get_or b.maps e blank) in
    subst (λ (c : Board). LooksTheSame e (on_board s c) (on_board s (with_entry b e v x))) old
    (looks_entry e s s is (looks_refl e s) hs hs e v (entry_of b e v) x (λ ne. absurd (ne refl)) (λ _ o. absurd (differ (sym i ∙ o))))
  where
    differ : true ≡ false → ⊥
    differ p = let z : ◌≡◌ {A = ℕ} 0 1 = cc in omega arith

pub hidden_word : (e : ℕ) (s : State) (n w : ℕ) → owner_of s.board (n / 64) ≡ e
    → LooksTheSame e s (record { board = s.board; words = set s.words n w })
hidden_word e s n w o =
    subst (λ (ws : List ℕ). LooksTheSame e (record { board = s.board; words = ws }) (record { board = s.board; words = set s.words n w })) (set-get_or s.words n 0)
    (looks_word e s s (looks_refl e s) n (get_or s.words n 0) w (λ ne. absurd (ne o)))

pub hidden_live : (e : ℕ) (s : State) (x : Context) → s.board.running ≡ e
    → LooksTheSame e s (on_board s (switched s.board s.board.running x s.board.host))
hidden_live e s x r =
    looks_switched e s s (looks_refl e s) s.board.running s.board.running s.board.live x s.board.host s.board.host refl (λ ne. absurd (ne r)) refl
