-- One call on two states that look the same to others, of a party that is not the enclave, or of the enclave outward: the same answer, and the states still look the same.
use Rattle.std.proofs.Common.{◌≡◌, ℕ, zero, suc, ◌+◌, ◌*◌, ◌/◌, ◌%◌, ◌<◌, ◌≤◌, Bool, true, false, cond, not, ◌&&◌, ◌||◌, eqb, ltb, leb, ◌⊎◌, List, [], ◌∷◌, ◌++◌, length, get_or, set, sym, refl, ap, ◌∙◌, subst, ap₂, inl, inr, arith}
use Rattle.std.proofs.lemmas.Bool.{cases_eq, eqb-true, cond-true, false≢true, eq-eqb, cond_both, and_parts, leb-true, not-true, true≢false}
use Rattle.digest.specs.Meaning.{Meaning, hash, hmac}
use Rattle.board.specs.Answers.{bit}
use Rattle.board.specs.Effects.{Outcome, on_board, with_enclave, with_entry, switched, with_saved, marked, removed, effect}
use Rattle.board.specs.Measures.{page_words, measured_page, measured_pages, measured_words}
use Rattle.board.specs.Questions.{Question, ask, host_runs, is_enclave_number, phase_suits, in_phase_for, permits, rightful_owner, access_questions, map_questions, record_questions, questions}
use Rattle.board.specs.Sight.{outward, LooksTheSame}
use Rattle.board.specs.State.{State, unmapped, idle, absent, entry_of, enclave_of, owner_of, makes_range, covers, inside, page_of, place_of}
use Rattle.board.specs.declared.Call.{Call}
use Rattle.board.specs.declared.Call.TheVariants.{Open, Add, Finish, Abandon, Destroy, Enter, Resume, Exit, Pause, Load, Store, Fetch, ReadRegister, WriteRegister, ReadMap, WriteMap, Attest}
use Rattle.board.specs.declared.Context.{Context}
use Rattle.board.specs.declared.Enclave.{Enclave}
use Rattle.board.specs.declared.Entry.{Entry}
use Rattle.board.specs.declared.Phase.{Phase}
use Rattle.board.specs.declared.Phase.TheVariants.{Ready, Running, Paused}
use Rattle.board.proofs.Allowed.{Yes, from_one, up_to_eight, enclave_is, host_zero, guest_from_one, map_asked}
use Rattle.board.proofs.Lists.{in_span}
use Rattle.board.proofs.Looks.{inside_same, Shown, looks_owner, looks_switched, looks_word, shown_of, looks_enclave, looks_entry, removed_equal, looks_removed}
use Rattle.board.proofs.Measure.{measured_from}
use Rattle.board.proofs.Orderly.{Orderly, enclave_after}
use Rattle.board.proofs.Phases.{phase_code, phase_at, absent_row, draft_row}
use Rattle.board.proofs.Rows.{page_same, AskedAlike}

measured_pages_same : (s t : State) (d n v : ℕ) → ((k : ℕ) → v ≤ k → k < v + n → measured_page s d k ≡ measured_page t d k) → measured_pages s d v n ≡ measured_pages t d v n
measured_pages_same s t d zero v same = refl
measured_pages_same s t d (suc n) v same =
    ap₂ (λ (x y : List ℕ). x ++ y) (same v (omega arith) (omega arith)) (measured_pages_same s t d n (suc v) (λ k lo hi. same k (omega arith) (omega arith)))

-- what a call leaves of two states, and answers
pub record After (e : ℕ) (o p : Outcome) : Type 0 where
  pub reply : o.reply ≡ p.reply
  pub state : (o.state ≡ p.state) ⊎ ((2 ≤ phase_at o.state.board e) × LooksTheSame e o.state p.state)

map_alike : (z : Bool) (qs rs : List Question) → AskedAlike qs rs → AskedAlike (cond z [] qs) (cond z [] rs)
map_alike true qs rs a = tt
map_alike false qs rs a = a

module _ (e : ℕ) (s t : State) (is : is_enclave_number e ≡ true) (mid : 2 ≤ phase_at s.board e) (h : LooksTheSame e s t) (hs : Orderly s.board) (ht : Orderly t.board) where
  same_host : host_runs s.board ≡ host_runs t.board
  same_host = ap (λ (n : ℕ). eqb n 0) h.running

  shown : (d : ℕ) → is_enclave_number d ≡ true → Shown (enclave_of s.board d) (enclave_of t.board d)
  shown d k = shown_of e s t is h hs ht d k

  same_phase : (c : Call) (d : ℕ) → is_enclave_number d ≡ true → in_phase_for c s.board d ≡ in_phase_for c t.board d
  same_phase c d k = ap (λ (p : Phase). phase_suits c p) (shown d k).phase

  same_inside : (d : ℕ) → is_enclave_number d ≡ true → (v : ℕ) → inside s.board d v ≡ inside t.board d v
  same_inside d k v = inside_same s.board t.board d v (shown d k).first (shown d k).count

  -- an enclave that is absent or a draft is another one
  another : (d : ℕ) → phase_at s.board d < 2 → d ≡ e → ⊥
  another d k q = let l = subst (λ (c : ℕ). phase_at s.board c < 2) q k in omega arith

  inside_run : (v : ℕ) → inside s.board s.board.running v ≡ inside t.board t.board.running v
  inside_run v =
      elim (cases_eq s.board.running 0) [
        | inl z ↦ ap (λ (k : ℕ). inside s.board k v) z ∙ ap (λ (k : ℕ). inside t.board k v) (sym z ∙ h.running)
        | inr ne ↦ same_inside s.board.running (enclave_is s.board.running (omega arith) hs.runner) v ∙ ap (λ (k : ℕ). inside t.board k v) h.running
      ]

  entry_run : (v : ℕ) → (s.board.running ≡ e → inside s.board e v ≡ false) → entry_of s.board s.board.running v ≡ entry_of t.board t.board.running v
  entry_run v out =
      elim (cases_eq s.board.running e) [
        | inl q ↦ ap (λ (k : ℕ). entry_of s.board k v) q ∙ h.outside v (out q) ∙ ap (λ (k : ℕ). entry_of t.board k v) (sym q ∙ h.running)
        | inr ne ↦ ap (λ (m : List Entry). get_or m v unmapped) (h.maps s.board.running ne) ∙ ap (λ (k : ℕ). entry_of t.board k v) h.running
      ]

  owner_run : (a : ℕ) → rightful_owner s.board a ≡ rightful_owner t.board a
  owner_run a = ap₂ (λ (r : ℕ) (i : Bool). cond i r 0) h.running (inside_run (page_of a))

  fetches_run : (v : ℕ) → (host_runs s.board || inside s.board s.board.running v) ≡ (host_runs t.board || inside t.board t.board.running v)
  fetches_run v = ap₂ (λ (r : ℕ) (i : Bool). eqb r 0 || i) h.running (inside_run v)

  access_alike : (right a : ℕ) → (s.board.running ≡ e → inside s.board e (page_of a) ≡ false) → AskedAlike (access_questions s.board right a) (access_questions t.board right a)
  access_alike right a out =
      let x = entry_run (page_of a) out in (
        refl,
        ap (λ (z : Entry). permits right z) x,
        λ _. (refl, ap₂ (λ (o r : ℕ). eqb o r) (ap₂ (λ (os : List ℕ) (z : Entry). get_or os z.frame 0) h.owners x) (owner_run a), λ _. tt),
      )

  -- an address outside the enclave's range, or of another party
  out_of : (a : ℕ) → (s.board.running ≡ e → not (inside s.board s.board.running (page_of a)) ≡ true) → s.board.running ≡ e → inside s.board e (page_of a) ≡ false
  out_of a free q = subst (λ (k : ℕ). inside s.board k (page_of a) ≡ false) q (not-true (inside s.board s.board.running (page_of a)) (free q))

  maps_alike : (c : Call) (p v : ℕ) → p ≤ 8 → AskedAlike (map_questions c s.board p v) (map_questions c t.board p v)
  maps_alike c p v hi =
      elim (cases_eq p 0) [
        | inl z ↦ rw z tt
        | inr ne ↦
            let k = enclave_is p (omega arith) hi in
            map_alike (eqb p 0)
            (ask 4 (in_phase_for c s.board p) ∷ ask 5 (not (inside s.board p v)) ∷ [])
            (ask 4 (in_phase_for c t.board p) ∷ ask 5 (not (inside t.board p v)) ∷ [])
            (refl, same_phase c p k, λ _. (refl, ap not (same_inside p k v), λ _. tt))
      ]

  -- what a call of the host on an enclave is asked
  record_alike : (c : Call) (d : ℕ) → AskedAlike (record_questions c s.board d) (record_questions c t.board d)
  record_alike c d = (refl, same_host, λ _. (refl, refl, λ i. (refl, same_phase c d i, λ _. tt)))

  pub questions_alike : (c : Call) → (s.board.running ≡ e → outward s.board c ≡ true) → AskedAlike (questions c s.board) (questions c t.board)
  questions_alike (Open d first count entry) free = (
    refl,
    same_host,
    λ _. (
      refl,
      refl,
      λ k.
          (refl, same_phase (Open d first count entry) d (and_parts (is_enclave_number d) (covers first count (page_of entry)) k).0, λ _. tt),
    ),
  )
  questions_alike (Add d v f permission) free = (
    refl,
    same_host,
    λ _. (
      refl,
      refl,
      λ k.
          let i = (and_parts (is_enclave_number d) (ltb v 64 && (ltb f 64 && (leb 1 permission && leb permission 7))) k).0 in (
            refl,
            same_phase (Add d v f permission) d i,
            λ p.
                let w = draft_row (enclave_of s.board d).phase p in
                let x = h.maps d (another d (omega arith)) in (
                  refl,
                  same_inside d i v,
                  λ _. (
                    refl,
                    ap (λ (m : List Entry). eqb (get_or m v unmapped).permission 0) x,
                    λ _.
                        (refl, ap (λ (os : List ℕ). eqb (get_or os f 0) 0) h.owners, λ _. tt),
                  ),
                ),
          ),
    ),
  )
  questions_alike (Finish d) free = (
    refl,
    same_host,
    λ _. (
      refl,
      refl,
      λ i. (
        refl,
        same_phase (Finish d) d i,
        λ p.
            let w = draft_row (enclave_of s.board d).phase p in
            let x = h.maps d (another d (omega arith)) in
            (refl, ap₂ (λ (m : List Entry) (a : ℕ). permits 4 (get_or m (page_of a) unmapped)) x (shown d i).entrypoint, λ _. tt),
      ),
    ),
  )
  questions_alike (Abandon d) free = record_alike (Abandon d) d
  questions_alike (Destroy d) free = record_alike (Destroy d) d
  questions_alike (Enter d) free = record_alike (Enter d) d
  questions_alike (Resume d) free = record_alike (Resume d) d
  questions_alike Exit free = (refl, ap not same_host, λ _. tt)
  questions_alike Pause free = (refl, ap not same_host, λ _. tt)
  questions_alike (Load a) free = (refl, refl, λ _. access_alike 1 a (out_of a free))
  questions_alike (Store a w) free = (refl, refl, λ _. access_alike 2 a (out_of a free))
  questions_alike (Fetch a) free = (refl, refl, λ _. (refl, fetches_run (page_of a), λ _. access_alike 4 a (λ q. absurd (false≢true (free q)))))
  questions_alike (ReadRegister n) free = (refl, refl, λ _. tt)
  questions_alike (WriteRegister n w) free = (refl, refl, λ _. tt)
  questions_alike (ReadMap p v) free = (refl, same_host, λ _. (refl, refl, λ k. maps_alike (ReadMap p v) p v (leb-true p 8 (and_parts (leb p 8) (ltb v 64) k).0)))
  questions_alike (WriteMap p v f permission) free =
      (refl, same_host, λ _. (refl, refl, λ k. maps_alike (WriteMap p v f permission) p v (leb-true p 8 (and_parts (leb p 8) (ltb v 64 && (ltb f 64 && leb permission 7)) k).0)))
  questions_alike (Attest w) free = (refl, ap not same_host, λ _. tt)

  -- ---- what an accepted call answers and leaves

  owner_other : (a : ℕ) → (s.board.running ≡ e → inside s.board e (page_of a) ≡ false) → rightful_owner s.board a ≡ e → ⊥
  owner_other a out =
      let b = s.board in
      let lo = from_one e is in
      cond_both (inside b b.running (page_of a)) b.running 0 (λ x. x ≡ e → ⊥)
      (λ i q. true≢false (sym (subst (λ (k : ℕ). inside b k (page_of a) ≡ true) q i) ∙ out q))
      (λ _ q. omega arith)

  -- the word at an address that the running party may reach
  word_run : (a : ℕ) → (s.board.running ≡ e → inside s.board e (page_of a) ≡ false)
      → eqb (owner_of s.board (entry_of s.board s.board.running (page_of a)).frame) (rightful_owner s.board a) ≡ true
      → get_or s.words (place_of s.board a) 0 ≡ get_or t.words (place_of t.board a) 0
  word_run a out k =
      let b = s.board in
      let f = (entry_of b b.running (page_of a)).frame in
      let o = eqb-true (owner_of b f) (rightful_owner b a) k in
      let n : place_of b a / 64 ≡ f = omega arith in
      h.words (place_of b a) (λ q. owner_other a out (sym o ∙ sym (ap (owner_of b) n) ∙ q))
      ∙ ap (λ (x : Entry). get_or t.words (64 * x.frame + a % 64) 0) (entry_run (page_of a) out)

  looks_marked : (a : ℕ) → (s.board.running ≡ e → inside s.board e (page_of a) ≡ false)
      → LooksTheSame e (on_board s (marked s.board a)) (on_board t (marked t.board a))
  looks_marked a out =
      let x = entry_of s.board s.board.running (page_of a) in
      let y = entry_of t.board t.board.running (page_of a) in
      let z : ◌≡◌ {A = Entry} (record { frame = x.frame; permission = x.permission; accessed = true }) (record { frame = y.frame; permission = y.permission; accessed = true }) =
      ap (λ (w : Entry). record { frame = w.frame; permission = w.permission; accessed = true }) (entry_run (page_of a) out) in
      subst
      (λ (k : ℕ). LooksTheSame e (on_board s (marked s.board a)) (on_board t (with_entry t.board k (page_of a) (record { frame = y.frame; permission = y.permission; accessed = true }))))
      h.running
      (looks_entry e s t is h hs ht s.board.running (page_of a) (record { frame = x.frame; permission = x.permission; accessed = true })
      (record { frame = y.frame; permission = y.permission; accessed = true }) (λ _. z) (λ _ _. z))

  -- the enclave's phase after a write to enclave d's record
  kept : (d : ℕ) (x : Enclave) → is_enclave_number d ≡ true → (d ≡ e → 2 ≤ phase_code x.phase) → 2 ≤ phase_at (with_enclave s.board d x) e
  kept d x k mine =
      enclave_after (λ z. 2 ≤ phase_code z.phase) s.board d e x hs.enclaves (from_one d k) (up_to_eight d k) (from_one e is) (λ q. mine (sym q)) (λ _. mid)

  -- another phase and saved context
  looks_saved : (d : ℕ) → is_enclave_number d ≡ true → (p : Phase) (x y : Context) → ((d ≡ e → ⊥) → x ≡ y)
      → LooksTheSame e (on_board s (with_enclave s.board d (with_saved (enclave_of s.board d) p x))) (on_board t (with_enclave t.board d (with_saved (enclave_of t.board d) p y)))
  looks_saved d k p x y same =
      let g = shown d k in
      looks_enclave e s t is h hs ht d (with_saved (enclave_of s.board d) p x) (with_saved (enclave_of t.board d) p y) k
      (λ ne. ap₂ (λ (r : Enclave) (c : Context). with_saved r p c) (h.enclaves d k ne) (same ne))
      (λ q. (
        record { phase = refl; first = g.first; count = g.count; entrypoint = g.entrypoint; measurement = g.measurement },
        ap (λ (c : ℕ). (enclave_of s.board c).first) q,
        ap (λ (c : ℕ). (enclave_of s.board c).count) q,
      ))

  -- the running enclave stops
  looks_stopped : 1 ≤ s.board.running → (p : Phase) (x y : Context) → ((s.board.running ≡ e → ⊥) → x ≡ y)
      → LooksTheSame e (on_board s (switched (with_enclave s.board s.board.running (with_saved (enclave_of s.board s.board.running) p x)) 0 s.board.host idle))
      (on_board t (switched (with_enclave t.board t.board.running (with_saved (enclave_of t.board t.board.running) p y)) 0 t.board.host idle))
  looks_stopped lo p x y same =
      let d = s.board.running in
      subst
      (λ (k : ℕ).
      LooksTheSame e (on_board s (switched (with_enclave s.board d (with_saved (enclave_of s.board d) p x)) 0 s.board.host idle))
      (on_board t (switched (with_enclave t.board k (with_saved (enclave_of t.board k) p y)) 0 t.board.host idle)))
      h.running
      (looks_switched e (on_board s (with_enclave s.board d (with_saved (enclave_of s.board d) p x))) (on_board t (with_enclave t.board d (with_saved (enclave_of t.board d) p y)))
      (looks_saved d (enclave_is d lo hs.runner) p x y same) 0 0 s.board.host t.board.host idle idle refl (λ _. h.host) refl)

  measured_same : (d : ℕ) → is_enclave_number d ≡ true → (d ≡ e → ⊥) → makes_range (enclave_of s.board d).first (enclave_of s.board d).count ≡ true → measured_words s d ≡ measured_words t d
  measured_same d k ne ranged =
      let r = enclave_of s.board d in
      let page : (v : ℕ) → r.first ≤ v → v < r.first + r.count → measured_page s d v ≡ measured_page t d v =
      λ v lo hi.
      let x = entry_of s.board d v in
      let tail : cond (eqb x.permission 0) [] (page_words s.words x.frame) ≡ cond (eqb x.permission 0) [] (page_words t.words x.frame) =
      elim (cases_eq x.permission 0) [
        | inl z ↦ cond-true (eqb x.permission 0) [] (page_words s.words x.frame) (eq-eqb x.permission 0 z)
            ∙ sym (cond-true (eqb x.permission 0) [] (page_words t.words x.frame) (eq-eqb x.permission 0 z))
        | inr some ↦
            ap (λ (l : List ℕ). cond (eqb x.permission 0) [] l)
            (page_same s.words t.words x.frame h.sizes
            (λ n q.
            h.words n
            (λ o.
            let i = in_span r.first r.count v ranged lo hi in
            ne (sym (hs.owned d v (from_one d k) (up_to_eight d k) i some) ∙ sym (ap (owner_of s.board) q) ∙ o))))
      ] in
      ap (λ (l : List ℕ). x.permission ∷ l) tail
      ∙ ap (λ (m : List Entry). let z = get_or m v unmapped in z.permission ∷ cond (eqb z.permission 0) [] (page_words t.words z.frame)) (h.maps d ne) in
      ap (λ (l : List ℕ). measured_from r (cond (makes_range r.first r.count) l [])) (measured_pages_same s t d r.count r.first page)
      ∙ ap (λ (z : Enclave). measured_from z (cond (makes_range z.first z.count) (measured_pages t d z.first z.count) [])) (h.enclaves d k ne)

  entry_asked : (c : Call) (p v : ℕ) → Yes (map_questions c s.board p v) → entry_of s.board p v ≡ entry_of t.board p v
  entry_asked c p v a =
      elim (cases_eq p e) [
        | inl q ↦
            let lo = from_one e is in
            let k = not-true (inside s.board p v) (map_asked c s.board p v (omega arith) a).1 in
            subst (λ (c : ℕ). entry_of s.board c v ≡ entry_of t.board c v) (sym q) (h.outside v (subst (λ (c : ℕ). inside s.board c v ≡ false) q k))
        | inr ne ↦ ap (λ (m : List Entry). get_or m v unmapped) (h.maps p ne)
      ]

  -- the enclave does not run while the host does
  host_other : host_runs s.board ≡ true → s.board.running ≡ e → ⊥
  host_other k q = let lo = from_one e is in let z = host_zero s.board k in omega arith

  after_removed : length s.words ≡ 4096 → (d : ℕ) → is_enclave_number d ≡ true → (d ≡ e → ⊥) → (2 ≤ phase_at (removed s d).board e) × LooksTheSame e (removed s d) (removed t d)
  after_removed full d k ne = (kept d absent k (λ q. absurd (ne q)), looks_removed e s t is h hs ht full d k ne)

  pub effect_after : (dig : Meaning) (key : List ℕ) (c : Call) → (s.board.running ≡ e → outward s.board c ≡ true) → length s.words ≡ 4096 → Yes (questions c s.board)
      → After e (effect dig key c s) (effect dig key c t)
  effect_after dig key (Open d first count entry) free full a =
      let k = (and_parts (is_enclave_number d) (covers first count (page_of entry)) a.1.0).0 in
      let z = absent_row (enclave_of s.board d).phase a.1.1.0 in
      let ne = another d (omega arith) in
      record { reply = refl; state = inr (kept d _ k (λ q. absurd (ne q)), looks_enclave e s t is h hs ht d _ _ k (λ _. refl) (λ q. absurd (ne q))) }
  effect_after dig key (Add d v f permission) free full a =
      let z = draft_row (enclave_of s.board d).phase a.1.1.0 in
      let ne = another d (omega arith) in
      let x : Entry = record { frame = f; permission = permission; accessed = false } in
      record {
        reply = refl;
        state =
            inr (
              mid,
              looks_owner e (on_board s (with_entry s.board d v x)) (on_board t (with_entry t.board d v x)) is
                  (looks_entry e s t is h hs ht d v x x (λ _. refl) (λ _ _. refl)) f d (eqb-true (owner_of s.board f) 0 a.1.1.1.1.1.0),
            );
      }
  effect_after dig key (Finish d) free full a =
      let k = a.1.0 in
      let z = draft_row (enclave_of s.board d).phase a.1.1.0 in
      let ne = another d (omega arith) in
      record {
        reply = refl;
        state =
            inr (
              kept d _ k (λ q. absurd (ne q)),
              looks_enclave e s t is h hs ht d _ _ k
                  (λ _.
                  ap₂
                  (λ (r : Enclave) (m : List ℕ). record { phase = Ready; first = r.first; count = r.count; entrypoint = r.entrypoint; measurement = hash dig m; saved = r.saved })
                  (h.enclaves d k ne) (measured_same d k ne (hs.ranged d (from_one d k) (up_to_eight d k) (omega arith))))
                  (λ q. absurd (ne q)),
            );
      }
  effect_after dig key (Abandon d) free full a =
      let z = draft_row (enclave_of s.board d).phase a.1.1.0 in
      record { reply = refl; state = inr (after_removed full d a.1.0 (another d (omega arith))) }
  effect_after dig key (Destroy d) free full a =
      record {
        reply = refl;
        state =
            elim (cases_eq d e) [
              | inl q ↦ inl (subst (λ (c : ℕ). removed s c ≡ removed t c) (sym q) (removed_equal e s t is h hs ht full (host_other a.0)))
              | inr ne ↦ inr (after_removed full d a.1.0 ne)
            ];
      }
  effect_after dig key (Enter d) free full a =
      let k = a.1.0 in
      let r = enclave_of s.board d in
      let u = enclave_of t.board d in
      record {
        reply = refl;
        state =
            inr (
              kept d _ k (λ _. omega arith),
              looks_switched e (on_board s (with_enclave s.board d (with_saved r Running r.saved))) (on_board t (with_enclave t.board d (with_saved u Running u.saved)))
                  (looks_saved d k Running r.saved u.saved (λ ne. ap (λ (z : Enclave). z.saved) (h.enclaves d k ne)))
                  d d _ _ s.board.live t.board.live refl
                  (λ _. ap (λ (n : ℕ). record { pc = n; registers = idle.registers }) (shown d k).entrypoint)
                  (h.live (host_other a.0)),
            );
      }
  effect_after dig key (Resume d) free full a =
      let k = a.1.0 in
      let r = enclave_of s.board d in
      let u = enclave_of t.board d in
      record {
        reply = refl;
        state =
            inr (
              kept d _ k (λ _. omega arith),
              looks_switched e (on_board s (with_enclave s.board d (with_saved r Running idle))) (on_board t (with_enclave t.board d (with_saved u Running idle)))
                  (looks_saved d k Running idle idle (λ _. refl))
                  d d r.saved u.saved s.board.live t.board.live refl
                  (λ ne. ap (λ (z : Enclave). z.saved) (h.enclaves d k ne))
                  (h.live (host_other a.0)),
            );
      }
  effect_after dig key Exit free full a =
      let lo = guest_from_one s.board a.0 in
      let d = s.board.running in
      let k = enclave_is d lo hs.runner in
      record {
        reply = refl;
        state =
            inr (
              kept d _ k (λ _. omega arith),
              looks_stopped lo Ready (enclave_of s.board d).saved (enclave_of t.board t.board.running).saved
                  (λ ne. ap (λ (z : Enclave). z.saved) (h.enclaves d k ne) ∙ ap (λ (c : ℕ). (enclave_of t.board c).saved) h.running),
            );
      }
  effect_after dig key Pause free full a =
      let lo = guest_from_one s.board a.0 in
      let d = s.board.running in
      let k = enclave_is d lo hs.runner in
      record {
        reply = refl;
        state = inr (kept d _ k (λ _. omega arith), looks_stopped lo Paused s.board.live t.board.live (λ ne. h.live ne));
      }
  effect_after dig key (Load a) free full k =
      let out = out_of a free in
      record { reply = ap (λ (w : ℕ). record { number = 0; words = w ∷ [] }) (word_run a out k.1.1.0); state = inr (mid, looks_marked a out) }
  effect_after dig key (Store a w) free full k =
      let out = out_of a free in
      record {
        reply = refl;
        state =
            inr (
              mid,
              subst
                  (λ (n : ℕ). LooksTheSame e (record { board = marked s.board a; words = set s.words (place_of s.board a) w }) (record { board = marked t.board a; words = set t.words n w }))
                  (ap (λ (x : Entry). 64 * x.frame + a % 64) (entry_run (page_of a) out))
                  (looks_word e (on_board s (marked s.board a)) (on_board t (marked t.board a)) (looks_marked a out) (place_of s.board a) w w (λ _. refl)),
            );
      }
  effect_after dig key (Fetch a) free full k =
      let out : s.board.running ≡ e → inside s.board e (page_of a) ≡ false = λ q. absurd (false≢true (free q)) in
      record {
        reply = ap (λ (w : ℕ). record { number = 0; words = w ∷ [] }) (word_run a out k.1.1.1.0);
        state =
            inr (
              mid,
              looks_switched e (on_board s (marked s.board a)) (on_board t (marked t.board a)) (looks_marked a out) s.board.running t.board.running _ _ s.board.host t.board.host
                  h.running (λ ne. ap (λ (c : Context). record { pc = a; registers = c.registers }) (h.live ne)) h.host,
            );
      }
  effect_after dig key (ReadRegister n) free full a =
      record {
        reply = ap (λ (c : Context). record { number = 0; words = get_or c.registers n 0 ∷ [] }) (h.live (λ q. false≢true (free q)));
        state = inr (mid, h);
      }
  effect_after dig key (WriteRegister n w) free full a =
      record {
        reply = refl;
        state =
            inr (
              mid,
              looks_switched e s t h s.board.running t.board.running _ _ s.board.host t.board.host
                  h.running (λ ne. ap (λ (c : Context). record { pc = c.pc; registers = set c.registers n w }) (h.live ne)) h.host,
            );
      }
  effect_after dig key (ReadMap p v) free full a =
      record {
        reply = ap (λ (x : Entry). record { number = 0; words = x.frame ∷ (x.permission ∷ (bit x.accessed ∷ [])) }) (entry_asked (ReadMap p v) p v a.1.1);
        state = inr (mid, h);
      }
  effect_after dig key (WriteMap p v f permission) free full a =
      record { reply = refl; state = inr (mid, looks_entry e s t is h hs ht p v _ _ (λ _. refl) (λ _ _. refl)) }
  effect_after dig key (Attest w) free full a =
      let d = s.board.running in
      let lo = guest_from_one s.board a.0 in
      record {
        reply =
            ap (λ (m : List ℕ). record { number = 0; words = m ++ hmac dig key (m ++ (w ∷ [])) })
            (ap (λ (z : Enclave). z.measurement) (h.enclaves d (enclave_is d lo hs.runner) (λ q. false≢true (free q))) ∙ ap (λ (c : ℕ). (enclave_of t.board c).measurement) h.running);
        state = inr (mid, h);
      }
