-- An accepted call leaves the enclave that it is about sound; so each step keeps the invariant.
use Rattle.std.proofs.Common.{◌≡◌, ℕ, ◌<◌, ◌≤◌, true, false, ltb, ◌⊎◌, List, get_or, set, sym, refl, ap, ◌∙◌, subst, ap₂, inl, inr, ⊎_elim, arith, get_or-set_same}
use Rattle.std.proofs.lemmas.Bool.{cases_eq, eqb-true, and_parts, ltb-true}
use Rattle.digest.specs.Meaning.{Meaning}
use Rattle.board.specs.Effects.{Outcome, with_enclave, with_map, with_entry, with_owners, switched, effect}
use Rattle.board.specs.Questions.{is_enclave_number}
use Rattle.board.specs.State.{State, unmapped, blank, idle, absent, map_of, entry_of, enclave_of, owner_of, covers, inside, page_of}
use Rattle.board.specs.Steps.{step}
use Rattle.board.specs.declared.Board.{Board}
use Rattle.board.specs.declared.Call.{Call}
use Rattle.board.specs.declared.Call.TheVariants.{Open, Add, Finish, Abandon, Destroy, Enter, Resume, Exit, Pause, Load, Store, Fetch, ReadRegister, WriteRegister, ReadMap, WriteMap, Attest}
use Rattle.board.specs.declared.Context.{Context}
use Rattle.board.specs.declared.Enclave.{Enclave}
use Rattle.board.specs.declared.Entry.{Entry}
use Rattle.board.specs.declared.Phase.TheVariants.{Draft}
use Rattle.board.proofs.Allowed.{Allowed, step_cases, from_one, up_to_eight, host_zero, host_not}
use Rattle.board.proofs.Kept.{kept_sound, subject, kept}
use Rattle.board.proofs.Lists.{replicated}
use Rattle.board.proofs.Moves.{at_set, entry_new, entry_beside, enclave_new}
use Rattle.board.proofs.Phases.{phase_code, phase_at, in_range, absent_row, draft_row, ready_row, paused_row}
use Rattle.board.proofs.Shapes.{effect_shape}
use Rattle.board.proofs.Sound.{Shape, permission_of, Sound, Inv}

abbrev plus : Board → ℕ → ℕ → ℕ → ℕ → Board
plus b e v f p = with_owners (with_entry b e v (record { frame = f; permission = p; accessed = false })) (set b.owners f e)

abbrev pub mark : Entry → Entry
mark t = record { frame = t.frame; permission = t.permission; accessed = true }

module _ (b : Board) (i : Shape b) (e : ℕ) (l : 1 ≤ e) (m : e ≤ 8) (u : Sound e b) where
  -- a new phase, past the draft, with the range as it was
  rephased : (r : Enclave) (p k : ℕ) (x y : Context) → phase_code r.phase ≡ k → 2 ≤ k → r.first ≡ (enclave_of b e).first → r.count ≡ (enclave_of b e).count → r.entrypoint ≡ (enclave_of b e).entrypoint → 1 ≤ phase_at b e
      → (p ≡ e → k ≡ 3) → (k ≡ 3 → p ≡ e) → ((k ≡ 4 → ⊥) → r.saved ≡ idle) → Sound e (switched (with_enclave b e r) p x y)
  rephased r p k x y c g f n a there to back rest =
      let z : enclave_of (switched (with_enclave b e r) p x y) e ≡ r = enclave_new b e r l m i.enclaves in
      let d : phase_at (switched (with_enclave b e r) p x y) e ≡ k = ap (λ (t : Enclave). phase_code t.phase) z ∙ c in
      let j : (v : ℕ) → inside (switched (with_enclave b e r) p x y) e v ≡ inside b e v = λ v. ap (λ (t : Enclave). in_range t v) z ∙ ap₂ (λ (a o : ℕ). covers a o v) f n in
      record {
        runs = λ q. d ∙ to q;
        back = λ q. back (sym d ∙ q);
        owned = λ v h o. u.owned v (sym (j v) ∙ h) o;
        apart = λ v w h h' o o' q. u.apart v w (sym (j v) ∙ h) (sym (j w) ∙ h') o o' q;
        bare = λ q v. absurd (omega arith);
        unmarked = λ q v h. absurd (omega arith);
        rest = λ q. ap (λ (t : Enclave). t.saved) z ∙ rest (λ o. q (d ∙ o));
        ranged = λ q. ap (λ (t : Enclave). in_range t (page_of t.entrypoint)) z ∙ ap₂ (λ (a o : ℕ). covers a o (page_of r.entrypoint)) f n ∙ ap (λ (x : ℕ). inside b e (page_of x)) a ∙ u.ranged there;
      }

  begun : (r : Enclave) → r.phase ≡ Draft → r.saved ≡ idle → in_range r (page_of r.entrypoint) ≡ true → phase_at b e ≡ 0 → (b.running ≡ e → ⊥) → Sound e (with_enclave b e r)
  begun r p x g c n =
      let z : enclave_of (with_enclave b e r) e ≡ r = enclave_new b e r l m i.enclaves in
      let d : phase_at (with_enclave b e r) e ≡ 1 = ap (λ (t : Enclave). phase_code t.phase) z ∙ ap phase_code p in
      let k : (v : ℕ) → permission_of b e v ≡ 0 = λ v. ap (λ (t : Entry). t.permission) (u.bare c v) in
      record {
        runs = λ q. absurd (n q);
        back = λ q. absurd (omega arith);
        owned = λ v h o. absurd (o (k v));
        apart = λ v w h h' o o' q. absurd (o (k v));
        bare = λ q v. absurd (omega arith);
        unmarked = λ q v h. ap (λ (t : Entry). t.accessed) (u.bare c v);
        rest = λ q. ap (λ (t : Enclave). t.saved) z ∙ x;
        ranged = λ q. ap (λ (t : Enclave). in_range t (page_of t.entrypoint)) z ∙ g;
      }

  closed : (os : List ℕ) → (b.running ≡ e → ⊥) → Sound e (with_enclave (with_map (with_owners b os) e blank) e absent)
  closed os n =
      let B : Board = with_enclave (with_map (with_owners b os) e blank) e absent in
      let z : enclave_of B e ≡ absent = enclave_new (with_map (with_owners b os) e blank) e absent l m i.enclaves in
      let d : phase_at B e ≡ 0 = ap (λ (t : Enclave). phase_code t.phase) z in
      let t : (v : ℕ) → entry_of B e v ≡ unmapped = λ v. ap (λ (o : List Entry). get_or o v unmapped) (get_or-set_same b.maps e blank blank (let o = i.maps in omega arith)) ∙ replicated (λ (t : Entry). t ≡ unmapped) 64 v unmapped unmapped refl refl in
      let k : (v : ℕ) → permission_of B e v ≡ 0 = λ v. ap (λ (t : Entry). t.permission) (t v) in
      record {
        runs = λ q. absurd (n q);
        back = λ q. absurd (omega arith);
        owned = λ v h o. absurd (o (k v));
        apart = λ v w h h' o o' q. absurd (o (k v));
        bare = λ q v. t v;
        unmarked = λ q v h. absurd (omega arith);
        rest = λ q. ap (λ (t : Enclave). t.saved) z;
        ranged = λ q. absurd (omega arith);
      }

  -- the running party's context alone changes
  live_only : (x y : Context) → Sound e (switched b b.running x y)
  live_only x y = record { runs = u.runs; back = u.back; owned = u.owned; apart = u.apart; bare = u.bare; unmarked = u.unmarked; rest = u.rest; ranged = u.ranged }

  -- a page of its own is added to a draft: each page is the new one or as it was
  looked : (v f p w : ℕ) → v < 64 → (permission_of (plus b e v f p) e w ≡ 0 → ⊥)
      → ((w ≡ v) × ((entry_of (plus b e v f p) e w).frame ≡ f)) ⊎ ((permission_of b e w ≡ 0 → ⊥) × ((entry_of (plus b e v f p) e w).frame ≡ (entry_of b e w).frame))
  looked v f p w hv n =
      ⊎_elim
      (λ (q : w ≡ v).
      inl (q, ap (λ (x : ℕ). (entry_of (plus b e v f p) e x).frame) q ∙ ap (λ (t : Entry). t.frame) (entry_new b e v _ (let o = i.maps in omega arith) (let o = i.map e in omega arith))))
      (λ (q : w ≡ v → ⊥).
      let z : entry_of (plus b e v f p) e w ≡ entry_of b e w = entry_beside b e v w _ (let o = i.maps in omega arith) q in
      inr (λ o. n (ap (λ (t : Entry). t.permission) z ∙ o), ap (λ (t : Entry). t.frame) z))
      (cases_eq w v)

  added : (v f p : ℕ) → v < 64 → f < 64 → phase_at b e ≡ 1 → owner_of b f ≡ 0 → Sound e (plus b e v f p)
  added v f p hv hf c o =
      record {
        runs = u.runs;
        back = u.back;
        owned = λ w h n. ⊎_elim
            (λ (q : (w ≡ v) × ((entry_of (plus b e v f p) e w).frame ≡ f)). ap (λ (x : ℕ). get_or (set b.owners f e) x 0) q.1 ∙ get_or-set_same b.owners f e 0 (let k = i.owners in omega arith))
            (λ (q : (permission_of b e w ≡ 0 → ⊥) × ((entry_of (plus b e v f p) e w).frame ≡ (entry_of b e w).frame)).
            ap (λ (x : ℕ). get_or (set b.owners f e) x 0) q.1 ∙ at_set (λ (k : ℕ). k ≡ e) b.owners f (entry_of b e w).frame e 0 (λ _. refl) (u.owned w h q.0))
            (looked v f p w hv n);
        apart = λ w x h h' n n' q. ⊎_elim
            (λ (y : (w ≡ v) × ((entry_of (plus b e v f p) e w).frame ≡ f)). ⊎_elim
            (λ (z : (x ≡ v) × ((entry_of (plus b e v f p) e x).frame ≡ f)). y.0 ∙ sym z.0)
            (λ (z : (permission_of b e x ≡ 0 → ⊥) × ((entry_of (plus b e v f p) e x).frame ≡ (entry_of b e x).frame)).
            absurd (clash f (entry_of b e x).frame o (u.owned x h' z.0) (sym y.1 ∙ q ∙ z.1)))
            (looked v f p x hv n'))
            (λ (y : (permission_of b e w ≡ 0 → ⊥) × ((entry_of (plus b e v f p) e w).frame ≡ (entry_of b e w).frame)). ⊎_elim
            (λ (z : (x ≡ v) × ((entry_of (plus b e v f p) e x).frame ≡ f)). absurd (clash f (entry_of b e w).frame o (u.owned w h y.0) (sym z.1 ∙ sym q ∙ y.1)))
            (λ (z : (permission_of b e x ≡ 0 → ⊥) × ((entry_of (plus b e v f p) e x).frame ≡ (entry_of b e x).frame)). u.apart w x h h' y.0 z.0 (sym y.1 ∙ q ∙ z.1))
            (looked v f p x hv n'))
            (looked v f p w hv n);
        bare = λ q w. absurd (omega arith);
        unmarked = λ q w h. at_set (λ (m : List Entry). (get_or m w unmapped).accessed ≡ false) b.maps e e _ blank
            (λ _. at_set (λ (t : Entry). t.accessed ≡ false) (map_of b e) v w _ unmapped (λ _. refl) (u.unmarked q w h)) (u.unmarked q w h);
        rest = u.rest;
        ranged = u.ranged;
      }
    where
      clash : (f g : ℕ) → owner_of b f ≡ 0 → owner_of b g ≡ e → f ≡ g → ⊥
      clash f g o k q = let x : owner_of b f ≡ owner_of b g = ap (λ (n : ℕ). owner_of b n) q in omega arith

  -- an entry of its own is marked: frames and permissions stay
  mark_frame : (v w : ℕ) → (entry_of (with_entry b e v (mark (entry_of b e v))) e w).frame ≡ (entry_of b e w).frame
  mark_frame v w = at_set (λ (m : List Entry). (get_or m w unmapped).frame ≡ (entry_of b e w).frame) b.maps e e _ blank
      (λ _. at_set (λ (t : Entry). t.frame ≡ (entry_of b e w).frame) (map_of b e) v w _ unmapped (λ q. ap (λ (x : ℕ). (entry_of b e x).frame) (sym q)) refl) refl

  mark_permission : (v w : ℕ) → permission_of (with_entry b e v (mark (entry_of b e v))) e w ≡ permission_of b e w
  mark_permission v w = at_set (λ (m : List Entry). (get_or m w unmapped).permission ≡ permission_of b e w) b.maps e e _ blank
      (λ _. at_set (λ (t : Entry). t.permission ≡ permission_of b e w) (map_of b e) v w _ unmapped (λ q. ap (λ (x : ℕ). permission_of b e x) (sym q)) refl) refl

  touched : (v : ℕ) (x y : Context) → b.running ≡ e → Sound e (switched (with_entry b e v (mark (entry_of b e v))) b.running x y)
  touched v x y r =
      let c = u.runs r in
      record {
        runs = u.runs;
        back = u.back;
        owned = λ w h n. ap (λ (k : ℕ). owner_of b k) (mark_frame v w) ∙ u.owned w h (λ q. n (mark_permission v w ∙ q));
        apart = λ w z h h' n n' q. u.apart w z h h' (λ q. n (mark_permission v w ∙ q)) (λ q. n' (mark_permission v z ∙ q)) (sym (mark_frame v w) ∙ q ∙ mark_frame v z);
        bare = λ q w. absurd (omega arith);
        unmarked = λ q w h. absurd (omega arith);
        rest = u.rest;
        ranged = u.ranged;
      }

-- ---- each call

pub subject_sound : (h : Meaning) (key : List ℕ) (c : Call) (s : State) → Shape s.board → Allowed c s → is_enclave_number (subject c s.board) ≡ true → Sound (subject c s.board) s.board → Sound (subject c s.board) (effect h key c s).state.board
subject_sound h key (Open e first count entry) s i y g u =
    begun s.board i e (from_one e g) (up_to_eight e g) u _ refl refl (and_parts (is_enclave_number e) _ y.1.1.0).1 (absent_row (enclave_of s.board e).phase y.1.1.1.0) (host_not s.board e (from_one e g) y.1.0)
subject_sound h key (Add e v f permission) s i y g u =
    let a = and_parts (ltb v 64) _ (and_parts (is_enclave_number e) _ y.1.1.0).1 in
    added s.board i e (from_one e g) (up_to_eight e g) u v f permission (ltb-true v 64 a.0) (ltb-true f 64 (and_parts (ltb f 64) _ a.1).0) (draft_row (enclave_of s.board e).phase y.1.1.1.0) (eqb-true (owner_of s.board f) 0 y.1.1.1.1.1.1.0)
subject_sound h key (Finish e) s i y g u =
    let z = host_zero s.board y.1.0 in
    let o = from_one e g in
    let d : phase_at s.board e ≡ 1 = draft_row (enclave_of s.board e).phase y.1.1.1.0 in
    rephased s.board i e o (up_to_eight e g) u _ s.board.running 2 s.board.live s.board.host refl (omega arith) refl refl refl (omega arith) (λ q. absurd (omega arith)) (λ q. absurd (omega arith)) (λ _. u.rest (λ q. omega arith))
subject_sound h key (Abandon e) s i y g u = closed s.board i e (from_one e g) (up_to_eight e g) u _ (host_not s.board e (from_one e g) y.1.0)
subject_sound h key (Destroy e) s i y g u = closed s.board i e (from_one e g) (up_to_eight e g) u _ (host_not s.board e (from_one e g) y.1.0)
subject_sound h key (Enter e) s i y g u =
    let d : phase_at s.board e ≡ 2 = ready_row (enclave_of s.board e).phase y.1.1.1.0 in
    rephased s.board i e (from_one e g) (up_to_eight e g) u _ e 3 _ _ refl (omega arith) refl refl refl (omega arith) (λ q. refl) (λ q. refl) (λ _. u.rest (λ q. omega arith))
subject_sound h key (Resume e) s i y g u =
    let d : phase_at s.board e ≡ 4 = paused_row (enclave_of s.board e).phase y.1.1.1.0 in
    rephased s.board i e (from_one e g) (up_to_eight e g) u _ e 3 _ _ refl (omega arith) refl refl refl (omega arith) (λ q. refl) (λ q. refl) (λ _. refl)
subject_sound h key Exit s i y g u =
    let e = s.board.running in
    let o = from_one e g in
    let d = u.runs refl in
    rephased s.board i e o (up_to_eight e g) u _ 0 2 _ _ refl (omega arith) refl refl refl (omega arith) (λ q. absurd (omega arith)) (λ q. absurd (omega arith)) (λ _. u.rest (λ q. omega arith))
subject_sound h key Pause s i y g u =
    let e = s.board.running in
    let o = from_one e g in
    let d = u.runs refl in
    rephased s.board i e o (up_to_eight e g) u _ 0 4 _ _ refl (omega arith) refl refl refl (omega arith) (λ q. absurd (omega arith)) (λ q. absurd (omega arith)) (λ q. absurd (q refl))
subject_sound h key (Load a) s i y g u = touched s.board i s.board.running (from_one _ g) (up_to_eight _ g) u (page_of a) s.board.live s.board.host refl
subject_sound h key (Store a w) s i y g u = touched s.board i s.board.running (from_one _ g) (up_to_eight _ g) u (page_of a) s.board.live s.board.host refl
subject_sound h key (Fetch a) s i y g u = touched s.board i s.board.running (from_one _ g) (up_to_eight _ g) u (page_of a) _ _ refl
subject_sound h key (ReadRegister n) s i y g u = u
subject_sound h key (WriteRegister n w) s i y g u = live_only s.board i s.board.running (from_one _ g) (up_to_eight _ g) u _ _
subject_sound h key (ReadMap p v) s i y g u = u
subject_sound h key (WriteMap p v f permission) s i y g u = absurd (host_not s.board s.board.running (from_one _ g) y.1.0 refl)
subject_sound h key (Attest w) s i y g u = u

pub effect_inv : (h : Meaning) (key : List ℕ) (c : Call) (s : State) → Inv s → Allowed c s → Inv (effect h key c s).state
effect_inv h key c s i y =
    record {
      shape = effect_shape h key c s i.shape y;
      sound = λ e g. ⊎_elim
          (λ (q : subject c s.board ≡ e).
          subst (λ (x : ℕ). Sound x (effect h key c s).state.board) q
          (subject_sound h key c s i.shape y (ap is_enclave_number q ∙ g) (i.sound (subject c s.board) (ap is_enclave_number q ∙ g))))
          (λ (n : subject c s.board ≡ e → ⊥). kept_sound e s (effect h key c s).state (kept h key e (from_one e g) s i.shape c y n) (i.sound e g))
          (cases_eq (subject c s.board) e);
    }

pub step_inv : (h : Meaning) (key : List ℕ) (c : Call) (s : State) → Inv s → Inv (step h key c s).state
step_inv h key c s i = step_cases h key c s (λ (o : Outcome). Inv o.state) (λ y. effect_inv h key c s i y) (λ n. i)
