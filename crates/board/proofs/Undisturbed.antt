-- The law of lives: what is not an enclave's own leaves it alone, and equal beginnings with equal own calls are alike; and the law of attestations.
use Rattle.std.proofs.Common.{◌≡◌, ℕ, suc, Bool, true, false, cond, eqb, List, [], ◌∷◌, ◌++◌, length, get_or, drop, sym, refl, ap, ◌∙◌, subst, ap₂, inl, inr, arith}
use Rattle.std.proofs.lemmas.Bool.{eqb-true, cond-false, ne_eqb, false≢true, cond_both, or_cases, true≢false}
use Rattle.digest.specs.Meaning.{Meaning, hash, hmac}
use Rattle.board.specs.Answers.{Reply, accepting}
use Rattle.board.specs.Effects.{Outcome, finished, effect}
use Rattle.board.specs.Lives.{is_accepted, ends_life, lifetime, Life, Own, entered, is_own, own_call, own_calls, kept_if, own_events, reaches_out, outside_answers, private_page, private, private_after, Begins, Alike, StillBetween, LawOfLives, Attests, LawOfAttestations}
use Rattle.board.specs.Measurements.{BuiltAlike}
use Rattle.board.specs.Measures.{measured_words}
use Rattle.board.specs.Questions.{is_enclave_number}
use Rattle.board.specs.State.{State, idle, start, entry_of, enclave_of, makes_range, covers, inside, page_of}
use Rattle.board.specs.Steps.{step, Event, event, run, replies}
use Rattle.board.specs.declared.Call.{Call}
use Rattle.board.specs.declared.Call.TheVariants.{Finish, Attest}
use Rattle.board.specs.declared.Enclave.{Enclave}
use Rattle.board.proofs.Allowed.{Allowed, step_cases, from_one, up_to_eight, host_not}
use Rattle.board.proofs.Finishes.{begun, drafted, finish_full}
use Rattle.board.proofs.Lists.{range_of}
use Rattle.board.proofs.Measure.{same_build}
use Rattle.board.proofs.Moves.{enclave_new}
use Rattle.board.proofs.Own.{Alive, own_turn, asks, own_turn_same, own_turned, own_touch, others_view, alive_next, measured_next}
use Rattle.board.proofs.Phases.{phase_code, phase_at, in_range}
use Rattle.board.proofs.Sound.{Inv}
use Rattle.board.proofs.Subject.{effect_inv}
use Rattle.board.proofs.Turn.{Turn}
use Rattle.board.proofs.View.{View, same_view, no_page, view, same_private, cond_same, same_page}

-- ---- the rest of a run, from a state in which the enclave lives

-- an own event after the view V: what it answers and leaves is a function of V
record Owned (h : Meaning) (key : List ℕ) (e : ℕ) (V : View) (x : Event) : Type 0 where
  turned : record { reply = x.reply; view = view e x.after } ≡ own_turn h key (own_call e x) V x.reply
  touch : reaches_out e x ≡ asks (own_call e x) V
  ranged : makes_range (enclave_of x.after.board e).first (enclave_of x.after.board e).count ≡ true

abbrev Traced : Meaning → List ℕ → ℕ → View → List Event → Type 0
Traced h key e V [] = Unit {0}
Traced h key e V (x ∷ xs) = Owned h key e V x × Traced h key e (view e x.after) xs

alive_ranged : (e : ℕ) → is_enclave_number e ≡ true → (s : State) → Alive e s → makes_range (enclave_of s.board e).first (enclave_of s.board e).count ≡ true
alive_ranged e g s a =
    let r = enclave_of s.board e in
    let b = a.built in
    range_of r.first r.count (page_of r.entrypoint) ((a.inv.sound e g).ranged (omega arith))

module _ (h : Meaning) (key : List ℕ) (e : ℕ) (g : is_enclave_number e ≡ true) where
  abbrev x_of : Call → State → Event
  x_of c s = event c s (step h key c s)

  abbrev after : Call → State → State
  after c s = (step h key c s).state

  still : (cs : List Call) (s : State) → Alive e s → StillBetween e (lifetime e (run h key s cs))
  still [] s a = tt
  still (c ∷ cs) s a =
      cond_both (ends_life e (x_of c s)) [] (x_of c s ∷ lifetime e (run h key (after c s) cs)) (λ (l : List Event). StillBetween e l)
      (λ _. tt)
      (λ d. (λ o. sym (same_private e e s (after c s) (alive_ranged e g s a) (sym (others_view h key e g s a c o d))), still cs (after c s) (alive_next h key e g s a c d)))

  -- what holds of the own events that follow a state, event by event
  walked : (P : State → List Event → Type 0)
      → ((s : State) → P s [])
      → ((c : Call) (s : State) (xs : List Event) → Alive e s → ends_life e (x_of c s) ≡ false → is_own e (x_of c s) ≡ true → P (after c s) xs → P s (x_of c s ∷ xs))
      → ((c : Call) (s : State) (xs : List Event) → Alive e s → ends_life e (x_of c s) ≡ false → is_own e (x_of c s) ≡ false → P (after c s) xs → P s xs)
      → (cs : List Call) (s : State) → Alive e s → P s (kept_if (is_own e) (lifetime e (run h key s cs)))
  walked P none owned other [] s a = none s
  walked P none owned other (c ∷ cs) s a =
      let later = kept_if (is_own e) (lifetime e (run h key (after c s) cs)) in
      cond_both (ends_life e (x_of c s)) [] (x_of c s ∷ lifetime e (run h key (after c s) cs)) (λ (l : List Event). P s (kept_if (is_own e) l))
      (λ _. none s)
      (λ d.
      let rest = walked P none owned other cs (after c s) (alive_next h key e g s a c d) in
      cond_both (is_own e (x_of c s)) (x_of c s ∷ later) later (λ (l : List Event). P s l)
      (λ o. owned c s later a d o rest) (λ o. other c s later a d o rest))

  traced : (cs : List Call) (s : State) → Alive e s → Traced h key e (view e s) (kept_if (is_own e) (lifetime e (run h key s cs)))
  traced = walked (λ (s : State) (xs : List Event). Traced h key e (view e s) xs) (λ s. tt)
      (λ c s xs a d o rest. (
        record {
          turned = own_turned h key e g s a c o;
          touch = own_touch h key e g s a c o;
          ranged = alive_ranged e g (after c s) (alive_next h key e g s a c d);
        },
        rest,
      ))
      (λ c s xs a d o rest. subst (λ (V : View). Traced h key e V xs) (others_view h key e g s a c o d) rest)

  -- an attest of a running enclave
  attested : (c : Call) (s : State) (w : ℕ) → c ≡ Attest w → is_own e (x_of c s) ≡ true → is_accepted (x_of c s) ≡ true
      → (step h key c s).reply ≡ accepting ((enclave_of s.board e).measurement ++ hmac h key ((enclave_of s.board e).measurement ++ (w ∷ [])))
  attested c s w q =
      subst
      (λ (c : Call). is_own e (x_of c s) ≡ true → is_accepted (x_of c s) ≡ true
      → (step h key c s).reply ≡ accepting ((enclave_of s.board e).measurement ++ hmac h key ((enclave_of s.board e).measurement ++ (w ∷ [])))) (sym q)
      (λ o y.
      let r : s.board.running ≡ e = elim (or_cases (eqb s.board.running e) false o) [ inl k ↦ eqb-true s.board.running e k | inr k ↦ absurd (false≢true k) ] in
      step_cases h key (Attest w) s (λ (t : Outcome). t.reply.number ≡ 0 → t.reply ≡ accepting ((enclave_of s.board e).measurement ++ hmac h key ((enclave_of s.board e).measurement ++ (w ∷ []))))
      (λ _ _. ap (λ (d : ℕ). accepting ((enclave_of s.board d).measurement ++ hmac h key ((enclave_of s.board d).measurement ++ (w ∷ [])))) r)
      (λ n z. absurd (n z)) (eqb-true (step h key (Attest w) s).reply.number 0 y))

  attests : (cs : List Call) (s : State) → Alive e s → Attests h key (enclave_of s.board e).measurement (kept_if (is_own e) (lifetime e (run h key s cs)))
  attests = walked (λ (s : State) (xs : List Event). Attests h key (enclave_of s.board e).measurement xs) (λ s. tt)
      (λ c s xs a d o rest.
      (λ w q y. attested c s w q o y, subst (λ (m : List ℕ). Attests h key m xs) (measured_next h key e g s a c d) rest))
      (λ c s xs a d o rest. subst (λ (m : List ℕ). Attests h key m xs) (measured_next h key e g s a c d) rest)

-- ---- the beginning of a life

abbrev ended : Meaning → List ℕ → ℕ → State → State
ended h key e s = (effect h key (Finish e) s).state

module _ (h : Meaning) (key : List ℕ) (e : ℕ) (s : State) (i : Inv s) (y : Allowed (Finish e) s) where
  record_new : enclave_of (ended h key e s).board e ≡ finished (enclave_of s.board e) (hash h (measured_words s e))
  record_new = enclave_new s.board e _ (from_one e y.1.1.0) (up_to_eight e y.1.1.0) i.shape.enclaves

  alive_ended : Alive e (ended h key e s)
  alive_ended =
      record {
        inv = effect_inv h key (Finish e) s i y;
        whole = y.0;
        built = (let z : phase_at (ended h key e s).board e ≡ 2 = ap (λ (r : Enclave). phase_code r.phase) record_new in omega arith);
      }

  context_ended : (view e (ended h key e s)).context ≡ idle
  context_ended =
      cond-false (eqb s.board.running e) s.board.live _ (ne_eqb s.board.running e (host_not s.board e (from_one e y.1.1.0) y.1.0))
      ∙ ap (λ (r : Enclave). r.saved) record_new
      ∙ (i.sound e y.1.1.0).rest (λ q. (let d = drafted e s y in omega arith))

  inside_ended : (v : ℕ) → inside (ended h key e s).board e v ≡ inside s.board e v
  inside_ended v = ap (λ (r : Enclave). in_range r v) record_new

begin_alike : (h : Meaning) (key : List ℕ) (e d : ℕ) (s t : State) (i : Inv s) (j : Inv t) (y : Allowed (Finish e) s) (z : Allowed (Finish d) t) → measured_words s e ≡ measured_words t d → view e (ended h key e s) ≡ view d (ended h key d t)
begin_alike h key e d s t i j y z m =
    let b : BuiltAlike e d s t = same_build s e t d (finish_full e s i y) (finish_full d t j z) m in
    let rs = record_new h key e s i y in
    let rt = record_new h key d t j z in
    let n : (v : ℕ) → inside s.board e v ≡ inside t.board d v = λ v. ap₂ (λ (a o : ℕ). covers a o v) b.first b.count in
    same_view (view e (ended h key e s)) (view d (ended h key d t))
    (ap (λ (r : Enclave). r.first) rs ∙ b.first ∙ sym (ap (λ (r : Enclave). r.first) rt))
    (ap (λ (r : Enclave). r.count) rs ∙ b.count ∙ sym (ap (λ (r : Enclave). r.count) rt))
    (ap (λ (r : Enclave). r.entrypoint) rs ∙ b.entrypoint ∙ sym (ap (λ (r : Enclave). r.entrypoint) rt))
    (ap (λ (r : Enclave). r.phase) rs ∙ sym (ap (λ (r : Enclave). r.phase) rt))
    (ap (λ (r : Enclave). r.measurement) rs ∙ ap (λ (w : List ℕ). hash h w) m ∙ sym (ap (λ (r : Enclave). r.measurement) rt))
    (context_ended h key e s i y ∙ sym (context_ended h key d t j z))
    (λ v. cond_same (inside (ended h key e s).board e v) (inside (ended h key d t).board d v) (private_page s.words (entry_of s.board e v)) (private_page t.words (entry_of t.board d v)) no_page
    (inside_ended h key e s i y v ∙ n v ∙ sym (inside_ended h key d t j z v))
    (λ q. (
    let qt : inside t.board d v ≡ true = sym (inside_ended h key d t j z v) ∙ q in
    let qs : inside s.board e v ≡ true = n v ∙ qt in
    same_page s.words t.words (entry_of s.board e v) (entry_of t.board d v) (b.permissions v qs)
    ((i.sound e y.1.1.0).unmarked (drafted e s y) v qs ∙ sym ((j.sound d z.1.1.0).unmarked (drafted d t z) v qt))
    (λ k. b.contents v qs (λ x. k (sym (b.permissions v qs) ∙ x))))))

-- ---- two lives, event by event

both_touch : (b c : Bool) (x y : Event) (xs ys : List Event) (rest : List Reply) → b ≡ c → replies (cond b (x ∷ xs) xs) ++ rest ≡ replies (cond c (y ∷ ys) ys)
    → (b ≡ true → x.reply ≡ y.reply) × (replies xs ++ rest ≡ replies ys)
both_touch true true x y xs ys rest q e = (λ _. ap (λ (l : List Reply). get_or l 0 x.reply) e, ap (λ (l : List Reply). drop 1 l) e)
both_touch true false x y xs ys rest q e = absurd (true≢false q)
both_touch false true x y xs ys rest q e = absurd (false≢true q)
both_touch false false x y xs ys rest q e = (λ z. absurd (false≢true z), e)

none_more : {A : Type 0} (x : A) (xs : List A) → x ∷ xs ≡ [] → ⊥
none_more x xs e = let n : ◌≡◌ {A = ℕ} (suc (length xs)) 0 = ap (λ l. length l) e in omega arith

begins_next : {A : Type 0} (x y : A) (xs ys : List A) → x ≡ y → Begins xs ys → Begins (x ∷ xs) (y ∷ ys)
begins_next x y xs ys q b = (b.0, ap₂ (λ z l. z ∷ l) q b.1)

begins_whole : {A : Type 0} (xs ys : List A) → length xs ≡ length ys → Begins xs ys → xs ≡ ys
begins_whole [] [] n b = refl
begins_whole [] (y ∷ ys) n b = absurd (omega arith)
begins_whole (x ∷ xs) [] n b = absurd (omega arith)
begins_whole (x ∷ xs) (y ∷ ys) n b =
    ap₂ (λ z l. z ∷ l) (ap (λ l. get_or l 0 x) b.1) (begins_whole xs ys (omega arith) (b.0, ap (λ l. drop 1 l) b.1))

nothing_after : {A : Type 0} (xs : List A) → xs ++ [] ≡ xs
nothing_after [] = refl
nothing_after (x ∷ xs) = ap (λ l. x ∷ l) (nothing_after xs)

record SoFar (e d : ℕ) (xs ys : List Event) : Type 0 where
  answers : Begins (replies xs) (replies ys)
  throughout : Begins (private_after e xs) (private_after d ys)

module _ (h : Meaning) (key : List ℕ) (e d : ℕ) where
  so_far : (xs ys : List Event) (V W : View) → V ≡ W → Traced h key e V xs → Traced h key d W ys → (more : List Own) → own_calls e xs ++ more ≡ own_calls d ys
      → (rest : List Reply) → outside_answers e xs ++ rest ≡ outside_answers d ys → SoFar e d xs ys
  so_far [] ys V W q tx ty more c rest t = record { answers = (replies ys, refl); throughout = (private_after d ys, refl) }
  so_far (x ∷ xs) [] V W q tx ty more c rest t = absurd (none_more _ _ c)
  so_far (x ∷ xs) (y ∷ ys) V W q tx ty more c rest t =
      let k : own_call e x ≡ own_call d y = ap (λ (l : List Own). get_or l 0 entered) c in
      let m : reaches_out e x ≡ reaches_out d y = tx.0.touch ∙ ap₂ (λ (a : Own) (V : View). asks a V) k q ∙ sym ty.0.touch in
      let b = both_touch (reaches_out e x) (reaches_out d y) x y (kept_if (reaches_out e) xs) (kept_if (reaches_out d) ys) rest m t in
      let n : own_turn h key (own_call d y) W x.reply ≡ own_turn h key (own_call d y) W y.reply = own_turn_same h key (own_call d y) W x.reply y.reply (λ z. b.0 (m ∙ ty.0.touch ∙ z)) in
      let o : ◌≡◌ {A = Turn} (record { reply = x.reply; view = view e x.after }) (record { reply = y.reply; view = view d y.after }) =
      tx.0.turned ∙ ap₂ (λ (a : Own) (V : View). own_turn h key a V x.reply) k q ∙ n ∙ sym ty.0.turned in
      let p : view e x.after ≡ view d y.after = ap (λ (u : Turn). u.view) o in
      let r = so_far xs ys (view e x.after) (view d y.after) p tx.1 ty.1 more (ap (λ (l : List Own). drop 1 l) c) rest b.1 in
      record {
        answers = begins_next x.reply y.reply (replies xs) (replies ys) (ap (λ (u : Turn). u.reply) o) r.answers;
        throughout = begins_next (private e x.after) (private d y.after) (private_after e xs) (private_after d ys) (same_private e d x.after y.after tx.0.ranged p) r.throughout;
      }

length_own : (e : ℕ) (xs : List Event) → length (own_calls e xs) ≡ length xs
length_own e [] = refl
length_own e (x ∷ xs) = ap suc (length_own e xs)

length_replies : (xs : List Event) → length (replies xs) ≡ length xs
length_replies [] = refl
length_replies (x ∷ xs) = ap suc (length_replies xs)

length_private : (e : ℕ) (xs : List Event) → length (private_after e xs) ≡ length xs
length_private e [] = refl
length_private e (x ∷ xs) = ap suc (length_private e xs)

-- ---- the laws

module _ (h : Meaning) (key words : List ℕ) (cs : List Call) (e : ℕ) (l : Life e (run h key (start words) cs)) where
  alive_begun : Alive e l.finish.after
  alive_begun =
      let b = begun h key words cs e l in
      subst (λ (s : State). Alive e s) (sym b.left) (alive_ended h key e l.finish.before b.inv b.asked)

  named : is_enclave_number e ≡ true
  named = (begun h key words cs e l).asked.1.1.0

  life_traced : Traced h key e (view e l.finish.after) (own_events l)
  life_traced =
      let b = begun h key words cs e l in
      subst (λ (x : List Event). Traced h key e (view e l.finish.after) (kept_if (is_own e) (lifetime e x))) (sym b.goes_on) (traced h key e named b.calls l.finish.after alive_begun)

  life_still : StillBetween e (lifetime e l.later)
  life_still =
      let b = begun h key words cs e l in
      subst (λ (x : List Event). StillBetween e (lifetime e x)) (sym b.goes_on) (still h key e named b.calls l.finish.after alive_begun)

  life_attests : Attests h key (hash h (measured_words l.finish.before e)) (own_events l)
  life_attests =
      let b = begun h key words cs e l in
      let m : (enclave_of l.finish.after.board e).measurement ≡ hash h (measured_words l.finish.before e) =
      ap (λ (s : State). (enclave_of s.board e).measurement) b.left ∙ ap (λ (r : Enclave). r.measurement) (record_new h key e l.finish.before b.inv b.asked) in
      subst (λ (m : List ℕ). Attests h key m (own_events l)) m
      (subst (λ (x : List Event). Attests h key (enclave_of l.finish.after.board e).measurement (kept_if (is_own e) (lifetime e x))) (sym b.goes_on) (attests h key e named b.calls l.finish.after alive_begun))

module _ (h : Meaning) (key words others : List ℕ) (cs ds : List Call) (e d : ℕ) (l : Life e (run h key (start words) cs)) (m : Life d (run h key (start others) ds)) (w : measured_words l.finish.before e ≡ measured_words m.finish.before d) where
  same_start : view e l.finish.after ≡ view d m.finish.after
  same_start =
      let b = begun h key words cs e l in
      let k = begun h key others ds d m in
      ap (λ (s : State). view e s) b.left ∙ begin_alike h key e d l.finish.before m.finish.before b.inv k.inv b.asked k.asked w ∙ sym (ap (λ (s : State). view d s) k.left)

  same_at_finish : private e l.finish.after ≡ private d m.finish.after
  same_at_finish = same_private e d l.finish.after m.finish.after (alive_ranged e (named h key words cs e l) l.finish.after (alive_begun h key words cs e l)) same_start

  lives_so_far : (more : List Own) → own_calls e (own_events l) ++ more ≡ own_calls d (own_events m) → (rest : List Reply) → outside_answers e (own_events l) ++ rest ≡ outside_answers d (own_events m)
      → SoFar e d (own_events l) (own_events m)
  lives_so_far more c rest t =
      so_far h key e d (own_events l) (own_events m) (view e l.finish.after) (view d m.finish.after) same_start (life_traced h key words cs e l) (life_traced h key others ds d m) more c rest t

  lives_alike : own_calls e (own_events l) ≡ own_calls d (own_events m) → outside_answers e (own_events l) ≡ outside_answers d (own_events m) → Alike l m
  lives_alike c t =
      let xs = own_events l in
      let ys = own_events m in
      let r = lives_so_far [] (nothing_after (own_calls e xs) ∙ c) [] (nothing_after (outside_answers e xs) ∙ t) in
      let n : length xs ≡ length ys = sym (length_own e xs) ∙ ap (λ (k : List Own). length k) c ∙ length_own d ys in
      record {
        answers = begins_whole (replies xs) (replies ys) (length_replies xs ∙ n ∙ sym (length_replies ys)) r.answers;
        at_finish = same_at_finish;
        throughout = begins_whole (private_after e xs) (private_after d ys) (length_private e xs ∙ n ∙ sym (length_private d ys)) r.throughout;
      }

pub law_of_lives : (h : Meaning) → LawOfLives h
law_of_lives h =
    record {
      alike = λ key words others cs ds e d l m w c t. lives_alike h key words others cs ds e d l m w c t;
      so_far = λ key words others cs ds e d l m w c t. (
          let r = lives_so_far h key words others cs ds e d l m w c.0 c.1 t.0 t.1 in
          record { answers = r.answers; at_finish = same_at_finish h key words others cs ds e d l m w; throughout = r.throughout });
      still = λ key words cs e l. life_still h key words cs e l;
    }

pub law_of_attestations : (h : Meaning) → LawOfAttestations h
law_of_attestations h key words cs e l = life_attests h key words cs e l
