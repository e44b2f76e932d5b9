-- A live enclave's own calls, and what all others leave of it; so a life's own events are determined by the view at its start.
use Rattle.std.proofs.Common.{◌≡◌, ℕ, ◌≤◌, Bool, true, false, cond, ◌&&◌, ◌||◌, eqb, List, [], length, replicate, sym, refl, ap, ◌∙◌, subst, ⊎_elim, arith, length-set}
use Rattle.std.proofs.lemmas.Bool.{cases_eq, cases_Bool, eqb-true, eqb-false, cond-true, cond-false, ne_eqb, false≢true, eq-eqb, cond_both, both_ways, and_parts, and_from, or_parts}
use Rattle.digest.specs.Meaning.{Meaning}
use Rattle.board.specs.Answers.{Reply}
use Rattle.board.specs.Effects.{Outcome, with_phase, with_saved, effect}
use Rattle.board.specs.Kinds.{Kind, destroying, entering, resuming, leaving, accessing, plain, kind_of}
use Rattle.board.specs.Lives.{is_accepted, destroys, ends_life, Own, entered, resumed, made, starts, is_own, start_noted, own_call, accesses_outside, reaches_out}
use Rattle.board.specs.Questions.{is_enclave_number}
use Rattle.board.specs.State.{State, idle, enclave_of, place_of}
use Rattle.board.specs.Steps.{step, Event, event}
use Rattle.board.specs.declared.Call.{Call}
use Rattle.board.specs.declared.Call.TheVariants.{Open, Add, Finish, Abandon, Destroy, Enter, Resume, Exit, Pause, Load, Store, Fetch, ReadRegister, WriteRegister, ReadMap, WriteMap, Attest}
use Rattle.board.specs.declared.Context.{Context}
use Rattle.board.specs.declared.Phase.TheVariants.{Running}
use Rattle.board.proofs.Allowed.{Allowed, step_cases, from_one}
use Rattle.board.proofs.Kept.{subject, kept}
use Rattle.board.proofs.Moves.{length_cleared}
use Rattle.board.proofs.Phases.{phase_code, phase_at, absent_row, draft_row}
use Rattle.board.proofs.Sound.{Shape, Sound, Inv}
use Rattle.board.proofs.Subject.{step_inv}
use Rattle.board.proofs.Turn.{Turn, said, done, turn_of, re_phased, outside, number, result, turn, view_phased, running_turn}
use Rattle.board.proofs.View.{View, view, view_kept}

pub record Alive (e : ℕ) (s : State) : Type 0 where
  pub inv : Inv s
  pub whole : length s.words ≡ 4096
  pub built : 2 ≤ phase_at s.board e

-- ---- an own call as a function of the view

abbrev pub own_turn : Meaning → List ℕ → Own → View → Reply → Turn
own_turn h key entered V out = done [] (re_phased V Running (record { pc = V.entrypoint; registers = replicate 8 0 }))
own_turn h key resumed V out = done [] (re_phased V Running V.context)
own_turn h key (made c) V out = turn h key c V out

-- whether an own call touches memory outside the range
abbrev pub asks : Own → View → Bool
asks entered V = false
asks resumed V = false
asks (made c) V = outside (kind_of c) V

-- what is handed in counts only there
pub own_turn_same : (h : Meaning) (key : List ℕ) (o : Own) (V : View) (x y : Reply) → (asks o V ≡ true → x ≡ y) → own_turn h key o V x ≡ own_turn h key o V y
own_turn_same h key entered V x y f = refl
own_turn_same h key resumed V x y f = refl
own_turn_same h key (made c) V x y f = go (outside (kind_of c) V) f
  where
    go : (b : Bool) → (b ≡ true → x ≡ y) → cond b (record { reply = x; view = V }) (cond (eqb (number c V) 0) (result h key c V) (said (number c V) V)) ≡ cond b (record { reply = y; view = V }) (cond (eqb (number c V) 0) (result h key c V) (said (number c V) V))
    go true f = ap (λ (z : Reply). record { reply = z; view = V }) (f refl)
    go false f = refl

touch_is : (k : Kind) (s : State) → accesses_outside s.board k ≡ outside k (view s.board.running s)
touch_is (destroying d) s = refl
touch_is (entering d) s = refl
touch_is (resuming d) s = refl
touch_is leaving s = refl
touch_is (accessing a) s = refl
touch_is plain s = refl

-- an accepted call answers 0
effect_number : (h : Meaning) (key : List ℕ) (c : Call) (s : State) → (effect h key c s).reply.number ≡ 0
effect_number h key (Open e first count entry) s = refl
effect_number h key (Add e v f permission) s = refl
effect_number h key (Finish e) s = refl
effect_number h key (Abandon e) s = refl
effect_number h key (Destroy e) s = refl
effect_number h key (Enter e) s = refl
effect_number h key (Resume e) s = refl
effect_number h key Exit s = refl
effect_number h key Pause s = refl
effect_number h key (Load a) s = refl
effect_number h key (Store a w) s = refl
effect_number h key (Fetch a) s = refl
effect_number h key (ReadRegister n) s = refl
effect_number h key (WriteRegister n w) s = refl
effect_number h key (ReadMap p v) s = refl
effect_number h key (WriteMap p v f permission) s = refl
effect_number h key (Attest w) s = refl

-- an own call leaves the enclave built
result_built : (h : Meaning) (key : List ℕ) (c : Call) (V : View) → 2 ≤ phase_code V.phase → 2 ≤ phase_code (result h key c V).view.phase
result_built h key (Open e first count entry) V b = b
result_built h key (Add e v f permission) V b = b
result_built h key (Finish e) V b = b
result_built h key (Abandon e) V b = b
result_built h key (Destroy e) V b = b
result_built h key (Enter e) V b = b
result_built h key (Resume e) V b = b
result_built h key Exit V b = omega arith
result_built h key Pause V b = omega arith
result_built h key (Load a) V b = b
result_built h key (Store a w) V b = b
result_built h key (Fetch a) V b = b
result_built h key (ReadRegister n) V b = b
result_built h key (WriteRegister n w) V b = b
result_built h key (ReadMap p v) V b = b
result_built h key (WriteMap p v f permission) V b = b
result_built h key (Attest w) V b = b

own_turn_built : (h : Meaning) (key : List ℕ) (o : Own) (V : View) (out : Reply) → 2 ≤ phase_code V.phase → 2 ≤ phase_code (own_turn h key o V out).view.phase
own_turn_built h key entered V out b = omega arith
own_turn_built h key resumed V out b = omega arith
own_turn_built h key (made c) V out b =
    cond_both (outside (kind_of c) V) _ _ (λ (t : Turn). 2 ≤ phase_code t.view.phase) (λ _. b)
    (λ _. cond_both (eqb (number c V) 0) _ _ (λ (t : Turn). 2 ≤ phase_code t.view.phase) (λ _. result_built h key c V b) (λ _. b))

-- an own call keeps the measurement
result_measured : (h : Meaning) (key : List ℕ) (c : Call) (V : View) → (result h key c V).view.measurement ≡ V.measurement
result_measured h key (Open e first count entry) V = refl
result_measured h key (Add e v f permission) V = refl
result_measured h key (Finish e) V = refl
result_measured h key (Abandon e) V = refl
result_measured h key (Destroy e) V = refl
result_measured h key (Enter e) V = refl
result_measured h key (Resume e) V = refl
result_measured h key Exit V = refl
result_measured h key Pause V = refl
result_measured h key (Load a) V = refl
result_measured h key (Store a w) V = refl
result_measured h key (Fetch a) V = refl
result_measured h key (ReadRegister n) V = refl
result_measured h key (WriteRegister n w) V = refl
result_measured h key (ReadMap p v) V = refl
result_measured h key (WriteMap p v f permission) V = refl
result_measured h key (Attest w) V = refl

own_turn_measured : (h : Meaning) (key : List ℕ) (o : Own) (V : View) (out : Reply) → (own_turn h key o V out).view.measurement ≡ V.measurement
own_turn_measured h key entered V out = refl
own_turn_measured h key resumed V out = refl
own_turn_measured h key (made c) V out =
    cond_both (outside (kind_of c) V) _ _ (λ (t : Turn). t.view.measurement ≡ V.measurement) (λ _. refl)
    (λ _. cond_both (eqb (number c V) 0) _ _ (λ (t : Turn). t.view.measurement ≡ V.measurement) (λ _. result_measured h key c V) (λ _. refl))

-- ---- the words' length stays

effect_whole : (h : Meaning) (key : List ℕ) (c : Call) (s : State) → Shape s.board → length s.words ≡ 4096 → length (effect h key c s).state.words ≡ 4096
effect_whole h key (Open e first count entry) s i w = w
effect_whole h key (Add e v f permission) s i w = w
effect_whole h key (Finish e) s i w = w
effect_whole h key (Abandon e) s i w = let o = i.owners in length_cleared s.board.owners e s.words (omega arith) ∙ omega arith
effect_whole h key (Destroy e) s i w = let o = i.owners in length_cleared s.board.owners e s.words (omega arith) ∙ omega arith
effect_whole h key (Enter e) s i w = w
effect_whole h key (Resume e) s i w = w
effect_whole h key Exit s i w = w
effect_whole h key Pause s i w = w
effect_whole h key (Load a) s i w = w
effect_whole h key (Store a x) s i w = length-set s.words (place_of s.board a) x ∙ w
effect_whole h key (Fetch a) s i w = w
effect_whole h key (ReadRegister n) s i w = w
effect_whole h key (WriteRegister n x) s i w = w
effect_whole h key (ReadMap p v) s i w = w
effect_whole h key (WriteMap p v f permission) s i w = w
effect_whole h key (Attest x) s i w = w

pub step_whole : (h : Meaning) (key : List ℕ) (c : Call) (s : State) → Shape s.board → length s.words ≡ 4096 → length (step h key c s).state.words ≡ 4096
step_whole h key c s i w = step_cases h key c s (λ (o : Outcome). length o.state.words ≡ 4096) (λ y. effect_whole h key c s i w) (λ n. w)

-- ---- one event of a live enclave

module _ (h : Meaning) (key : List ℕ) (e : ℕ) (g : is_enclave_number e ≡ true) (s : State) (a : Alive e s) where
  u : Sound e s.board
  u = a.inv.sound e g

  abbrev x_of : Call → Event
  x_of c = event c s (step h key c s)

  -- an accepted enter or resume
  started : (c : Call) → starts e (kind_of c) ≡ true → (step h key c s).reply.number ≡ 0 → (s.board.running ≡ e → ⊥) → turn_of e (step h key c s) ≡ own_turn h key (start_noted (kind_of c) c) (view e s) (step h key c s).reply
  started (Open e' first count entry) q z n = absurd (false≢true q)
  started (Add e' v f permission) q z n = absurd (false≢true q)
  started (Finish e') q z n = absurd (false≢true q)
  started (Abandon e') q z n = absurd (false≢true q)
  started (Destroy e') q z n = absurd (false≢true q)
  started (Enter e') q z n =
      subst (λ (x : ℕ). (step h key (Enter x) s).reply.number ≡ 0 → turn_of e (step h key (Enter x) s) ≡ own_turn h key entered (view e s) (step h key (Enter x) s).reply) (sym (eqb-true e' e q))
      (step_cases h key (Enter e) s (λ (o : Outcome). o.reply.number ≡ 0 → turn_of e o ≡ own_turn h key entered (view e s) o.reply)
      (λ y _. ap (λ (V : View). done [] V) (view_phased s a.inv.shape e g (with_phase (enclave_of s.board e) Running) e _ s.board.live refl refl refl refl ∙ ap (λ (x : Context). re_phased (view e s) Running x) (cond-true (eqb e e) _ _ (eq-eqb e e refl))))
      (λ k r. absurd (k r))) z
  started (Resume e') q z n =
      subst (λ (x : ℕ). (step h key (Resume x) s).reply.number ≡ 0 → turn_of e (step h key (Resume x) s) ≡ own_turn h key resumed (view e s) (step h key (Resume x) s).reply) (sym (eqb-true e' e q))
      (step_cases h key (Resume e) s (λ (o : Outcome). o.reply.number ≡ 0 → turn_of e o ≡ own_turn h key resumed (view e s) o.reply)
      (λ y _. ap (λ (V : View). done [] V) (view_phased s a.inv.shape e g (with_saved (enclave_of s.board e) Running idle) e (enclave_of s.board e).saved s.board.live refl refl refl refl
      ∙ ap (λ (x : Context). re_phased (view e s) Running x) (cond-true (eqb e e) _ _ (eq-eqb e e refl) ∙ sym (cond-false (eqb s.board.running e) s.board.live _ (ne_eqb _ e n)))))
      (λ k r. absurd (k r))) z
  started Exit q z n = absurd (false≢true q)
  started Pause q z n = absurd (false≢true q)
  started (Load x) q z n = absurd (false≢true q)
  started (Store x w) q z n = absurd (false≢true q)
  started (Fetch x) q z n = absurd (false≢true q)
  started (ReadRegister m) q z n = absurd (false≢true q)
  started (WriteRegister m w) q z n = absurd (false≢true q)
  started (ReadMap p v) q z n = absurd (false≢true q)
  started (WriteMap p v f permission) q z n = absurd (false≢true q)
  started (Attest w) q z n = absurd (false≢true q)

  -- an own call while the enclave sleeps is an accepted start
  own_start : (c : Call) → is_own e (x_of c) ≡ true → (s.board.running ≡ e → ⊥) → (starts e (kind_of c) ≡ true) × (eqb (step h key c s).reply.number 0 ≡ true)
  own_start c o n = and_parts _ _ (sym (ap (λ (t : Bool). t || (starts e (kind_of c) && is_accepted (x_of c))) (ne_eqb s.board.running e n)) ∙ o)

  noted_running : (c : Call) → s.board.running ≡ e → own_call e (x_of c) ≡ made c
  noted_running c q = cond-true (eqb s.board.running e) (made c) (start_noted (kind_of c) c) (eq-eqb _ e q)

  noted_asleep : (c : Call) → (s.board.running ≡ e → ⊥) → own_call e (x_of c) ≡ start_noted (kind_of c) c
  noted_asleep c n = cond-false (eqb s.board.running e) (made c) (start_noted (kind_of c) c) (ne_eqb _ e n)

  pub own_turned : (c : Call) → is_own e (x_of c) ≡ true → turn_of e (step h key c s) ≡ own_turn h key (own_call e (x_of c)) (view e s) (step h key c s).reply
  own_turned c o = ⊎_elim
      (λ (q : s.board.running ≡ e).
      subst (λ (d : ℕ). turn_of d (step h key c s) ≡ turn h key c (view d s) (step h key c s).reply) q
      (running_turn h key s a.inv.shape (ap is_enclave_number q ∙ g) (a.inv.sound s.board.running (ap is_enclave_number q ∙ g)) a.whole c)
      ∙ sym (ap (λ (x : Own). own_turn h key x (view e s) (step h key c s).reply) (noted_running c q)))
      (λ (n : s.board.running ≡ e → ⊥).
      let p = own_start c o n in
      started c p.0 (eqb-true _ 0 p.1) n
      ∙ sym (ap (λ (x : Own). own_turn h key x (view e s) (step h key c s).reply) (noted_asleep c n)))
      (cases_eq s.board.running e)

  start_asks : (k : Kind) (c : Call) (V : View) → starts e k ≡ true → asks (start_noted k c) V ≡ false
  start_asks (destroying d) c V q = absurd (false≢true q)
  start_asks (entering d) c V q = refl
  start_asks (resuming d) c V q = refl
  start_asks leaving c V q = absurd (false≢true q)
  start_asks (accessing x) c V q = absurd (false≢true q)
  start_asks plain c V q = absurd (false≢true q)

  pub own_touch : (c : Call) → is_own e (x_of c) ≡ true → reaches_out e (x_of c) ≡ asks (own_call e (x_of c)) (view e s)
  own_touch c o = ⊎_elim
      (λ (q : s.board.running ≡ e).
      ap (λ (t : Bool). t && accesses_outside s.board (kind_of c)) (eq-eqb s.board.running e q) ∙ touch_is (kind_of c) s ∙ ap (λ (d : ℕ). outside (kind_of c) (view d s)) q
      ∙ sym (ap (λ (x : Own). asks x (view e s)) (noted_running c q)))
      (λ (n : s.board.running ≡ e → ⊥).
      ap (λ (t : Bool). t && accesses_outside s.board (kind_of c)) (ne_eqb s.board.running e n)
      ∙ sym (ap (λ (x : Own). asks x (view e s)) (noted_asleep c n) ∙ start_asks (kind_of c) c (view e s) (own_start c o n).0))
      (cases_eq s.board.running e)

  at_phase : (e' k : ℕ) → e' ≡ e → phase_at s.board e' ≡ k → k ≤ 1 → ⊥
  at_phase e' k q p l = let z : phase_at s.board e ≡ k = ap (λ (x : ℕ). phase_at s.board x) (sym q) ∙ p in let b = a.built in omega arith

  not_subject : (c : Call) → Allowed c s → (s.board.running ≡ e → ⊥) → (starts e (kind_of c) ≡ true → ⊥) → (destroys e (kind_of c) ≡ true → ⊥) → subject c s.board ≡ e → ⊥
  not_subject (Open e' first count entry) y r st nm q = at_phase e' 0 q (absent_row (enclave_of s.board e').phase y.1.1.1.0) (omega arith)
  not_subject (Add e' v f permission) y r st nm q = at_phase e' 1 q (draft_row (enclave_of s.board e').phase y.1.1.1.0) (omega arith)
  not_subject (Finish e') y r st nm q = at_phase e' 1 q (draft_row (enclave_of s.board e').phase y.1.1.1.0) (omega arith)
  not_subject (Abandon e') y r st nm q = at_phase e' 1 q (draft_row (enclave_of s.board e').phase y.1.1.1.0) (omega arith)
  not_subject (Destroy e') y r st nm q = nm (eq-eqb e' e q)
  not_subject (Enter e') y r st nm q = st (eq-eqb e' e q)
  not_subject (Resume e') y r st nm q = st (eq-eqb e' e q)
  not_subject Exit y r st nm q = r q
  not_subject Pause y r st nm q = r q
  not_subject (Load x) y r st nm q = r q
  not_subject (Store x w) y r st nm q = r q
  not_subject (Fetch x) y r st nm q = r q
  not_subject (ReadRegister m) y r st nm q = r q
  not_subject (WriteRegister m w) y r st nm q = r q
  not_subject (ReadMap p v) y r st nm q = r q
  not_subject (WriteMap p v f permission) y r st nm q = r q
  not_subject (Attest w) y r st nm q = r q

  -- neither its own nor its end: the view stays
  pub others_view : (c : Call) → is_own e (x_of c) ≡ false → ends_life e (x_of c) ≡ false → view e (step h key c s).state ≡ view e s
  others_view c o d =
      step_cases h key c s (λ (t : Outcome). (eqb s.board.running e || (starts e (kind_of c) && eqb t.reply.number 0)) ≡ false → (destroys e (kind_of c) && eqb t.reply.number 0) ≡ false → view e t.state ≡ view e s)
      (λ y o d. (
      let z : (effect h key c s).reply.number ≡ 0 = effect_number h key c s in
      let p : (eqb s.board.running e ≡ false) × ((starts e (kind_of c) && eqb (effect h key c s).reply.number 0) ≡ false) = or_parts _ _ o in
      view_kept e s (effect h key c s).state
      (kept h key e (from_one e g) s a.inv.shape c y
      (not_subject c y (eqb-false _ e p.0)
      (λ q. both_ways _ p.1 (and_from _ _ q (eq-eqb _ 0 z)))
      (λ q. both_ways _ d (and_from _ _ q (eq-eqb _ 0 z)))))
      a.inv.shape u))
      (λ n o d. refl) o d

  -- what both kinds of calls keep of the view
  view_next : (P : View → Type 0) → P (view e s) → ((o : Own) (out : Reply) → P (own_turn h key o (view e s) out).view) → (c : Call) → ends_life e (x_of c) ≡ false → P (view e (step h key c s).state)
  view_next P now turned c d = ⊎_elim
      (λ (o : is_own e (x_of c) ≡ true). subst (λ (t : Turn). P t.view) (sym (own_turned c o)) (turned (own_call e (x_of c)) (step h key c s).reply))
      (λ (o : is_own e (x_of c) ≡ false). subst P (sym (others_view c o d)) now)
      (cases_Bool (is_own e (x_of c)))

  pub alive_next : (c : Call) → ends_life e (x_of c) ≡ false → Alive e (step h key c s).state
  alive_next c d =
      record {
        inv = step_inv h key c s a.inv;
        whole = step_whole h key c s a.inv.shape a.whole;
        built = view_next (λ (V : View). 2 ≤ phase_code V.phase) a.built (λ o out. own_turn_built h key o (view e s) out a.built) c d;
      }

  pub measured_next : (c : Call) → ends_life e (x_of c) ≡ false → (enclave_of (step h key c s).state.board e).measurement ≡ (enclave_of s.board e).measurement
  measured_next c d = view_next (λ (V : View). V.measurement ≡ (enclave_of s.board e).measurement) refl (λ o out. own_turn_measured h key o (view e s) out) c d
