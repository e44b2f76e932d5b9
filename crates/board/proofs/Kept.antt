-- What a call of somebody else leaves of an enclave: all of it.
use Rattle.std.proofs.Common.{◌≡◌, ℕ, ◌%◌, ◌<◌, ◌≤◌, Bool, true, not, ◌||◌, eqb, leb, List, length, sym, refl, ap, ◌∙◌, subst, ⊎_elim, arith}
use Rattle.std.proofs.lemmas.Bool.{cases_eq, eqb-true, eq-eqb, cond_both, both_ways, and_parts, or_cases, or_left, or_right, leb-true, not-true}
use Rattle.digest.specs.Meaning.{Meaning}
use Rattle.board.specs.Effects.{with_enclave, with_map, with_entry, with_owners, switched, marked, released, removed, effect}
use Rattle.board.specs.Measures.{page_words}
use Rattle.board.specs.Questions.{is_enclave_number, rightful_owner}
use Rattle.board.specs.State.{State, blank, absent, entry_of, enclave_of, owner_of, inside, page_of}
use Rattle.board.specs.declared.Board.{Board}
use Rattle.board.specs.declared.Call.{Call}
use Rattle.board.specs.declared.Call.TheVariants.{Open, Add, Finish, Abandon, Destroy, Enter, Resume, Exit, Pause, Load, Store, Fetch, ReadRegister, WriteRegister, ReadMap, WriteMap, Attest}
use Rattle.board.specs.declared.Context.{Context}
use Rattle.board.specs.declared.Enclave.{Enclave}
use Rattle.board.specs.declared.Entry.{Entry}
use Rattle.board.proofs.Allowed.{Allowed, from_one, host_not, guest_from_one, map_asked}
use Rattle.board.proofs.Moves.{at_set, entry_beside, entry_elsewhere, enclave_other, released_kept, cleared_page, stored_beside}
use Rattle.board.proofs.Phases.{phase_code, phase_at, in_range, there_row}
use Rattle.board.proofs.Sound.{Shape, Sound}

-- the pages whose entries only the enclave itself can change: all while it is absent, else those inside its range
abbrev pub guarded : Board → ℕ → ℕ → Bool
guarded b e v = eqb (phase_at b e) 0 || inside b e v

pub record Kept (e : ℕ) (s t : State) : Type 0 where
  pub enclave : enclave_of t.board e ≡ enclave_of s.board e
  pub entries : (v : ℕ) → guarded s.board e v ≡ true → entry_of t.board e v ≡ entry_of s.board e v
  pub owners : (f : ℕ) → owner_of s.board f ≡ e → owner_of t.board f ≡ e
  pub contents : (f : ℕ) → owner_of s.board f ≡ e → f < 64 → page_words t.words f ≡ page_words s.words f
  pub asleep : s.board.running ≡ e → ⊥
  pub still_asleep : t.board.running ≡ e → ⊥

pub guard_inside : (b : Board) (e v : ℕ) → inside b e v ≡ true → guarded b e v ≡ true
guard_inside b e v h = or_right (eqb (phase_at b e) 0) (inside b e v) h

pub guard_absent : (b : Board) (e v : ℕ) → phase_at b e ≡ 0 → guarded b e v ≡ true
guard_absent b e v h = or_left (eqb (phase_at b e) 0) (inside b e v) (eq-eqb (phase_at b e) 0 h)

-- ---- an enclave that is kept stays sound

module _ (e : ℕ) (s t : State) (k : Kept e s t) where
  same_inside : (v : ℕ) → inside t.board e v ≡ inside s.board e v
  same_inside v = ap (λ (r : Enclave). in_range r v) k.enclave

  same_code : phase_at t.board e ≡ phase_at s.board e
  same_code = ap (λ (r : Enclave). phase_code r.phase) k.enclave

  inner : (v : ℕ) → inside t.board e v ≡ true → entry_of t.board e v ≡ entry_of s.board e v
  inner v h = k.entries v (guard_inside s.board e v (sym (same_inside v) ∙ h))

  pub kept_sound : Sound e s.board → Sound e t.board
  kept_sound i =
      record {
        runs = λ q. absurd (k.still_asleep q);
        back = λ q. absurd (k.asleep (i.back (sym same_code ∙ q)));
        owned = λ v h n. (
            let x = inner v h in
            ap (λ (y : Entry). owner_of t.board y.frame) x ∙ k.owners (entry_of s.board e v).frame (i.owned v (sym (same_inside v) ∙ h) (λ z. n (ap (λ (y : Entry). y.permission) x ∙ z))));
        apart = λ v w h h' n n' q. (
            let x = inner v h in
            let y = inner w h' in
            i.apart v w (sym (same_inside v) ∙ h) (sym (same_inside w) ∙ h') (λ z. n (ap (λ (a : Entry). a.permission) x ∙ z)) (λ z. n' (ap (λ (a : Entry). a.permission) y ∙ z))
            (sym (ap (λ (a : Entry). a.frame) x) ∙ q ∙ ap (λ (a : Entry). a.frame) y));
        bare = λ q v. k.entries v (guard_absent s.board e v (sym same_code ∙ q)) ∙ i.bare (sym same_code ∙ q) v;
        unmarked = λ q v h. ap (λ (y : Entry). y.accessed) (inner v h) ∙ i.unmarked (sym same_code ∙ q) v (sym (same_inside v) ∙ h);
        rest = λ q. ap (λ (r : Enclave). r.saved) k.enclave ∙ i.rest (λ z. q (same_code ∙ z));
        ranged = λ q. ap (λ (r : Enclave). in_range r (page_of r.entrypoint)) k.enclave ∙ i.ranged (subst (λ (n : ℕ). 1 ≤ n) same_code q);
      }

-- ---- who a call can change

abbrev pub subject : Call → Board → ℕ
subject (Open e first count entry) b = e
subject (Add e v f permission) b = e
subject (Finish e) b = e
subject (Abandon e) b = e
subject (Destroy e) b = e
subject (Enter e) b = e
subject (Resume e) b = e
subject Exit b = b.running
subject Pause b = b.running
subject (Load a) b = b.running
subject (Store a w) b = b.running
subject (Fetch a) b = b.running
subject (ReadRegister n) b = b.running
subject (WriteRegister n w) b = b.running
subject (ReadMap p v) b = b.running
subject (WriteMap p v f permission) b = b.running
subject (Attest w) b = b.running

pub owner_either : (b : Board) (a : ℕ) (P : ℕ → Type 0) → P 0 → P b.running → P (rightful_owner b a)
owner_either b a P z r = cond_both (inside b b.running (page_of a)) b.running 0 P (λ _. r) (λ _. z)

module _ (h : Meaning) (key : List ℕ) (e : ℕ) (l : 1 ≤ e) (s : State) (i : Shape s.board) where
  -- only the record of e' changes
  kept_enclave : (e' : ℕ) (r : Enclave) → 1 ≤ e' → (e' ≡ e → ⊥) → (s.board.running ≡ e → ⊥) → Kept e s (record { board = with_enclave s.board e' r; words = s.words })
  kept_enclave e' r l' n a =
      record {
        enclave = enclave_other s.board e' e r l' l (λ q. n (sym q));
        entries = λ v g. refl;
        owners = λ f q. q;
        contents = λ f q b. refl;
        asleep = a;
        still_asleep = a;
      }

  kept_switched : (e' p : ℕ) (r : Enclave) (x y : Context) → 1 ≤ e' → (e' ≡ e → ⊥) → (s.board.running ≡ e → ⊥) → (p ≡ e → ⊥) → Kept e s (record { board = switched (with_enclave s.board e' r) p x y; words = s.words })
  kept_switched e' p r x y l' n a a' =
      record {
        enclave = enclave_other s.board e' e r l' l (λ q. n (sym q));
        entries = λ v g. refl;
        owners = λ f q. q;
        contents = λ f q b. refl;
        asleep = a;
        still_asleep = a';
      }

  kept_removed : (e' : ℕ) → length s.words ≡ 4096 → 1 ≤ e' → (e' ≡ e → ⊥) → (s.board.running ≡ e → ⊥) → Kept e s (removed s e')
  kept_removed e' w l' n a =
      record {
        enclave = enclave_other (with_map (with_owners s.board (released s.board.owners e')) e' (blank)) e' e absent l' l (λ q. n (sym q));
        entries = λ v g. entry_elsewhere (with_owners s.board (released s.board.owners e')) e' e v (blank) (λ q. n (sym q));
        owners = λ f q. released_kept s.board.owners e' f e (λ q. n (sym q)) q;
        contents = λ f q b. (let o = i.owners in let k = cleared_page s.board.owners e' s.words f (omega arith) (omega arith) (λ z. n (sym z ∙ q)) in search);
        asleep = a;
        still_asleep = a;
      }

  kept_marked : (a : ℕ) → (s.board.running ≡ e → ⊥) → Kept e s (record { board = marked s.board a; words = s.words })
  kept_marked a n =
      record {
        enclave = refl;
        entries = λ v g. entry_elsewhere s.board s.board.running e v _ (λ q. n (sym q));
        owners = λ f q. q;
        contents = λ f q b. refl;
        asleep = n;
        still_asleep = n;
      }

  kept_nothing : (x : Context) → (s.board.running ≡ e → ⊥) → Kept e s (record { board = switched s.board s.board.running x s.board.host; words = s.words })
  kept_nothing x n = record { enclave = refl; entries = λ v g. refl; owners = λ f q. q; contents = λ f q b. refl; asleep = n; still_asleep = n }

  unguarded : (p v : ℕ) → 1 ≤ phase_at s.board p → not (inside s.board p v) ≡ true → guarded s.board p v ≡ true → ⊥
  unguarded p v there out g =
      ⊎_elim
      (λ (u : eqb (phase_at s.board p) 0 ≡ true). let z = eqb-true (phase_at s.board p) 0 u in omega arith)
      (λ (u : inside s.board p v ≡ true). both_ways (inside s.board p v) (not-true (inside s.board p v) out) u)
      (or_cases (eqb (phase_at s.board p) 0) (inside s.board p v) g)

  write_elsewhere : (p v w : ℕ) (t : Entry) → p ≤ 8 → (1 ≤ p → (1 ≤ phase_at s.board p) × (not (inside s.board p v) ≡ true)) → guarded s.board e w ≡ true → entry_of (with_entry s.board p v t) e w ≡ entry_of s.board e w
  write_elsewhere p v w t b y g =
      ⊎_elim
      (λ (q : p ≡ e).
      subst (λ (x : ℕ). entry_of (with_entry s.board p v t) x w ≡ entry_of s.board x w) q
      (entry_beside s.board p v w t (let m = i.maps in omega arith) (λ z. (let k = y (omega arith) in unguarded p v k.0 k.1 (subst (λ (x : ℕ). guarded s.board x v ≡ true) (sym q) (subst (λ (x : ℕ). guarded s.board e x ≡ true) z g))))))
      (λ (n : p ≡ e → ⊥). entry_elsewhere s.board p e w _ (λ q. n (sym q)))
      (cases_eq p e)

  pub kept : (c : Call) → Allowed c s → (subject c s.board ≡ e → ⊥) → Kept e s (effect h key c s).state
  kept (Open e' first count entry) y n = kept_enclave e' _ (from_one e' (and_parts (is_enclave_number e') _ y.1.1.0).0) n (host_not s.board e l y.1.0)
  kept (Add e' v f permission) y n =
      record {
        enclave = refl;
        entries = λ w g. entry_elsewhere s.board e' e w _ (λ q. n (sym q));
        owners = λ g q. at_set (λ (o : ℕ). o ≡ e) s.board.owners f g e' 0 (λ z. absurd (let o = eqb-true (owner_of s.board f) 0 y.1.1.1.1.1.1.0 in let x : owner_of s.board g ≡ owner_of s.board f = ap (λ (m : ℕ). owner_of s.board m) z in omega arith)) q;
        contents = λ f q b. refl;
        asleep = host_not s.board e l y.1.0;
        still_asleep = host_not s.board e l y.1.0;
      }
  kept (Finish e') y n = kept_enclave e' _ (from_one e' y.1.1.0) n (host_not s.board e l y.1.0)
  kept (Abandon e') y n = kept_removed e' y.0 (from_one e' y.1.1.0) n (host_not s.board e l y.1.0)
  kept (Destroy e') y n = kept_removed e' y.0 (from_one e' y.1.1.0) n (host_not s.board e l y.1.0)
  kept (Enter e') y n = kept_switched e' e' _ _ _ (from_one e' y.1.1.0) n (host_not s.board e l y.1.0) n
  kept (Resume e') y n = kept_switched e' e' _ _ _ (from_one e' y.1.1.0) n (host_not s.board e l y.1.0) n
  kept Exit y n = kept_switched s.board.running 0 _ _ _ (guest_from_one s.board y.1.0) n n (λ q. omega arith)
  kept Pause y n = kept_switched s.board.running 0 _ _ _ (guest_from_one s.board y.1.0) n n (λ q. omega arith)
  kept (Load a) y n = kept_marked a n
  kept (Store a w) y n =
      record {
        enclave = refl;
        entries = λ v g. entry_elsewhere s.board s.board.running e v _ (λ q. n (sym q));
        owners = λ f q. q;
        contents = λ f q b. stored_beside s.words (entry_of s.board s.board.running (page_of a)).frame f (a % 64) w (omega arith) (λ z. owner_either s.board a (λ (r : ℕ). r ≡ e → ⊥) (λ u. omega arith) n (sym (eqb-true (owner_of s.board (entry_of s.board s.board.running (page_of a)).frame) (rightful_owner s.board a) y.1.1.1.0) ∙ sym (ap (λ (m : ℕ). owner_of s.board m) z) ∙ q));
        asleep = n;
        still_asleep = n;
      }
  kept (Fetch a) y n =
      record {
        enclave = refl;
        entries = λ v g. entry_elsewhere s.board s.board.running e v _ (λ q. n (sym q));
        owners = λ f q. q;
        contents = λ f q b. refl;
        asleep = n;
        still_asleep = n;
      }
  kept (ReadRegister m) y n = kept_nothing s.board.live n
  kept (WriteRegister m w) y n = kept_nothing _ n
  kept (ReadMap p v) y n = kept_nothing s.board.live n
  kept (WriteMap p v f permission) y n =
      record {
        enclave = refl;
        entries = λ w g.
            write_elsewhere p v w _ (leb-true p 8 (and_parts (leb p 8) _ y.1.1.0).0)
            (λ lo. (let k = map_asked (WriteMap p v f permission) s.board p v lo y.1.1.1 in (there_row (enclave_of s.board p).phase k.0, k.1))) g;
        owners = λ f q. q;
        contents = λ f q b. refl;
        asleep = n;
        still_asleep = n;
      }
  kept (Attest w) y n = kept_nothing s.board.live n
