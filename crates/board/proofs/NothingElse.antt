-- States that are seen alike are equal in all that is not hidden.
use Rattle.std.proofs.Common.{◌≡◌, ℕ, zero, suc, ◌+◌, ◌/◌, true, false, eqb, List, [], ◌∷◌, length, get_or, sym, refl, ap, ◌∙◌, add-zero, zero-add, arith, get_or-set_other, get_or-set_same}
use Rattle.std.proofs.lemmas.Bool.{cond-false, ne_eqb}
use Rattle.digest.specs.Meaning.{Meaning}
use Rattle.board.specs.Effects.{with_saved}
use Rattle.board.specs.Questions.{is_enclave_number}
use Rattle.board.specs.Sight.{seen_words, seen_entries, seen, LooksTheSame, left_by, NothingElseIsHidden}
use Rattle.board.specs.State.{State, unmapped, blank, idle, start, map_of, entry_of, enclave_of, owner_of, inside}
use Rattle.board.specs.Steps.{step, run, ended}
use Rattle.board.specs.declared.Board.{Board}
use Rattle.board.specs.declared.Call.{Call}
use Rattle.board.specs.declared.Enclave.{Enclave}
use Rattle.board.specs.declared.Entry.{Entry}
use Rattle.board.proofs.Allowed.{from_one, up_to_eight}
use Rattle.board.proofs.Looks.{inside_same, seen_same}
use Rattle.board.proofs.Moves.{enclave_new, enclave_other}
use Rattle.board.proofs.Orderly.{Orderly, orderly}
use Rattle.board.proofs.Sound.{Inv, start_inv}
use Rattle.board.proofs.Subject.{step_inv}

length_seen : (b : Board) (e n : ℕ) (ws : List ℕ) → length (seen_words b e n ws) ≡ length ws
length_seen b e n [] = refl
length_seen b e n (w ∷ ws) = ap suc (length_seen b e (suc n) ws)

-- a word of a page that is not the enclave's, and an entry outside its range, are seen as they are
word_seen : (b : Board) (e m : ℕ) (ws : List ℕ) (n : ℕ) → (owner_of b ((m + n) / 64) ≡ e → ⊥) → get_or (seen_words b e m ws) n 0 ≡ get_or ws n 0
word_seen b e m [] n o = refl
word_seen b e m (w ∷ ws) zero o = cond-false (eqb (owner_of b (m / 64)) e) 0 w (ne_eqb (owner_of b (m / 64)) e (λ q. o (ap (λ (k : ℕ). owner_of b (k / 64)) (add-zero m) ∙ q)))
word_seen b e m (w ∷ ws) (suc n) o = word_seen b e (suc m) ws n (λ q. o (let z : m + suc n ≡ suc m + n = omega arith in ap (λ (k : ℕ). owner_of b (k / 64)) z ∙ q))

entry_seen : (b : Board) (e m : ℕ) (ts : List Entry) (v : ℕ) → inside b e (m + v) ≡ false → get_or (seen_entries b e m ts) v unmapped ≡ get_or ts v unmapped
entry_seen b e m [] v o = refl
entry_seen b e m (t ∷ ts) zero o = cond-false (inside b e m) unmapped t (sym (ap (λ (k : ℕ). inside b e k) (add-zero m)) ∙ o)
entry_seen b e m (t ∷ ts) (suc v) o = entry_seen b e (suc m) ts v (let z : suc m + v ≡ m + suc v = omega arith in ap (λ (k : ℕ). inside b e k) z ∙ o)

module _ (e : ℕ) (is : is_enclave_number e ≡ true) (s : State) (o : Orderly s.board) where
  abbrev shown_record : Enclave
  shown_record = with_saved (enclave_of s.board e) (enclave_of s.board e).phase idle

  record_seen : enclave_of (seen e s).board e ≡ shown_record
  record_seen = enclave_new s.board e shown_record (from_one e is) (up_to_eight e is) o.enclaves

  other_seen : (d : ℕ) → is_enclave_number d ≡ true → (d ≡ e → ⊥) → enclave_of (seen e s).board d ≡ enclave_of s.board d
  other_seen d k n = enclave_other s.board e d shown_record (from_one e is) (from_one d k) n

  map_seen : (p : ℕ) → (p ≡ e → ⊥) → map_of (seen e s).board p ≡ map_of s.board p
  map_seen p n = get_or-set_other s.board.maps e p (seen_entries s.board e 0 (map_of s.board e)) blank n

  outside_seen : (v : ℕ) → inside s.board e v ≡ false → entry_of (seen e s).board e v ≡ entry_of s.board e v
  outside_seen v i =
      let n = o.maps in
      let u = up_to_eight e is in
      ap (λ (m : List Entry). get_or m v unmapped) (get_or-set_same s.board.maps e (seen_entries s.board e 0 (map_of s.board e)) blank (omega arith))
      ∙ entry_seen s.board e 0 (map_of s.board e) v (ap (λ (k : ℕ). inside s.board e k) (zero-add v) ∙ i)

module _ (e : ℕ) (is : is_enclave_number e ≡ true) (s t : State) (os : Orderly s.board) (ot : Orderly t.board) (q : seen e s ≡ seen e t) where
  same_record : shown_record e is s os ≡ shown_record e is t ot
  same_record = sym (record_seen e is s os) ∙ ap (λ (u : State). enclave_of u.board e) q ∙ record_seen e is t ot

  shows : LooksTheSame e s t
  shows =
      let running : s.board.running ≡ t.board.running = ap (λ (u : State). u.board.running) q in
      let owners : s.board.owners ≡ t.board.owners = ap (λ (u : State). u.board.owners) q in
      let first : (enclave_of s.board e).first ≡ (enclave_of t.board e).first = ap (λ (r : Enclave). r.first) same_record in
      let count : (enclave_of s.board e).count ≡ (enclave_of t.board e).count = ap (λ (r : Enclave). r.count) same_record in
      record {
        owners = owners;
        running = running;
        host = ap (λ (u : State). u.board.host) q;
        live = λ n.
            sym (cond-false (eqb s.board.running e) idle s.board.live (ne_eqb s.board.running e n))
            ∙ ap (λ (u : State). u.board.live) q
            ∙ cond-false (eqb t.board.running e) idle t.board.live (ne_eqb t.board.running e (λ z. n (running ∙ z)));
        sizes = sym (length_seen s.board e 0 s.words) ∙ ap (λ (u : State). length u.words) q ∙ length_seen t.board e 0 t.words;
        words = λ n o.
            sym (word_seen s.board e 0 s.words n (λ z. o (sym (ap (λ (k : ℕ). owner_of s.board (k / 64)) (zero-add n)) ∙ z)))
            ∙ ap (λ (u : State). get_or u.words n 0) q
            ∙ word_seen t.board e 0 t.words n (λ z. o (ap (λ (l : List ℕ). get_or l (n / 64) 0) owners ∙ sym (ap (λ (k : ℕ). owner_of t.board (k / 64)) (zero-add n)) ∙ z));
        maps = λ p n. sym (map_seen e is s os p n) ∙ ap (λ (u : State). map_of u.board p) q ∙ map_seen e is t ot p n;
        outside = λ v i.
            sym (outside_seen e is s os v i) ∙ ap (λ (u : State). entry_of u.board e v) q
            ∙ outside_seen e is t ot v (sym (inside_same s.board t.board e v first count) ∙ i);
        enclaves = λ d k n. sym (other_seen e is s os d k n) ∙ ap (λ (u : State). enclave_of u.board d) q ∙ other_seen e is t ot d k n;
        phase = ap (λ (r : Enclave). r.phase) same_record;
        first = first;
        count = count;
        entrypoint = ap (λ (r : Enclave). r.entrypoint) same_record;
        measurement = ap (λ (r : Enclave). r.measurement) same_record;
      }

-- the state that a run leaves keeps the invariant
ended_inv : (h : Meaning) (key : List ℕ) (cs : List Call) (s : State) → Inv s → Inv (ended s (run h key s cs))
ended_inv h key [] s i = i
ended_inv h key (c ∷ cs) s i = ended_inv h key cs (step h key c s).state (step_inv h key c s i)

pub nothing_else_is_hidden : (h : Meaning) → NothingElseIsHidden h
nothing_else_is_hidden h key other_key words others cs ds e is =
    let s = left_by h key words cs in
    let t = left_by h other_key others ds in
    let os = orderly s (ended_inv h key cs (start words) (start_inv words)) in
    let ot = orderly t (ended_inv h other_key ds (start others) (start_inv others)) in
    (λ q. shows e is s t os ot q, λ k. seen_same e s t is k os ot)
