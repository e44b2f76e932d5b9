-- What an accepted finish says of the state before it; the law of measurements, and that of ranges.
use Rattle.std.proofs.Common.{◌≡◌, ℕ, ◌≤◌, List, [], ◌∷◌, sym, refl, ap, ◌∙◌, arith}
use Rattle.std.proofs.lemmas.Bool.{eqb-true}
use Rattle.digest.specs.Meaning.{Meaning}
use Rattle.board.specs.Effects.{Outcome, effect}
use Rattle.board.specs.Lives.{Life}
use Rattle.board.specs.Measurements.{LawOfMeasurements, RangesStayLawful, LawOfRanges}
use Rattle.board.specs.State.{State, start, enclave_of, page_of}
use Rattle.board.specs.Steps.{step, Event, event, run}
use Rattle.board.specs.declared.Call.{Call}
use Rattle.board.specs.declared.Call.TheVariants.{Finish}
use Rattle.board.proofs.Allowed.{Allowed, step_cases}
use Rattle.board.proofs.Lists.{range_of}
use Rattle.board.proofs.Measure.{Full, same_build, same_words}
use Rattle.board.proofs.Phases.{phase_at, draft_row, code_absent}
use Rattle.board.proofs.Reach.{reached}
use Rattle.board.proofs.Sound.{Inv, start_inv}
use Rattle.board.proofs.Subject.{step_inv}

pub accepted_allowed : (h : Meaning) (key : List ℕ) (c : Call) (s : State) → (step h key c s).reply.number ≡ 0 → Allowed c s
accepted_allowed h key c s = step_cases h key c s (λ (o : Outcome). o.reply.number ≡ 0 → Allowed c s) (λ y q. y) (λ n q. absurd (n q))

-- the beginning of a life: the state before it, what was asked, and what follows
pub record Begun (h : Meaning) (key : List ℕ) (e : ℕ) (s : State) (x : Event) (later : List Event) : Type 0 where
  pub inv : Inv s
  pub asked : Allowed (Finish e) s
  pub left : x.after ≡ (effect h key (Finish e) s).state
  pub calls : List Call
  pub goes_on : later ≡ run h key x.after calls

pub begun : (h : Meaning) (key words : List ℕ) (cs : List Call) (e : ℕ) (l : Life e (run h key (start words) cs)) → Begun h key e l.finish.before l.finish l.later
begun h key words cs e l =
    let s = l.finish.before in
    let r = reached h key Inv (step_inv h key) cs (start words) l.earlier l.finish l.later (start_inv words) l.whole in
    let k : l.finish ≡ event (Finish e) s (step h key (Finish e) s) = r.stepped ∙ ap (λ (c : Call). event c s (step h key c s)) l.finished.call in
    let yes : (step h key (Finish e) s).reply.number ≡ 0 = sym (ap (λ (x : Event). x.reply.number) k) ∙ eqb-true l.finish.reply.number 0 l.finished.accepted in
    record {
      inv = r.kept;
      asked = accepted_allowed h key (Finish e) s yes;
      left = ap (λ (x : Event). x.after) k
          ∙ step_cases h key (Finish e) s (λ (o : Outcome). o.reply.number ≡ 0 → o.state ≡ (effect h key (Finish e) s).state) (λ y q. refl) (λ n q. absurd (n q)) yes;
      calls = r.calls;
      goes_on = r.goes_on;
    }

pub drafted : (e : ℕ) (s : State) → Allowed (Finish e) s → phase_at s.board e ≡ 1
drafted e s y = draft_row (enclave_of s.board e).phase y.1.1.1.0

pub finish_full : (e : ℕ) (s : State) → Inv s → Allowed (Finish e) s → Full e s
finish_full e s i y =
    let d = drafted e s y in
    record {
      whole = y.0;
      frames = i.shape.frames;
      ranged = range_of (enclave_of s.board e).first (enclave_of s.board e).count (page_of (enclave_of s.board e).entrypoint) ((i.sound e y.1.1.0).ranged (omega arith));
    }

pub law_of_measurements : (h : Meaning) → LawOfMeasurements h
law_of_measurements h key other_key words others cs ds e d l m =
    let b = begun h key words cs e l in
    let k = begun h other_key others ds d m in
    let s = l.finish.before in
    let t = m.finish.before in
    let fs = finish_full e s b.inv b.asked in
    let ft = finish_full d t k.inv k.asked in
    (same_build s e t d fs ft, same_words s e t d fs ft)

-- every range that exists is lawful
ranges : (h : Meaning) (key : List ℕ) (cs : List Call) (s : State) → Inv s → RangesStayLawful (run h key s cs)
ranges h key [] s i = tt
ranges h key (c ∷ cs) s i =
    let t = (step h key c s).state in
    let j = step_inv h key c s i in (
      λ e g there.
          let r = enclave_of t.board e in
          let k = (j.sound e g).ranged (nonzero (phase_at t.board e) (λ z. there (code_absent r.phase z))) in
          (range_of r.first r.count (page_of r.entrypoint) k, k),
      ranges h key cs t j,
    )
  where
    nonzero : (n : ℕ) → (n ≡ 0 → ⊥) → 1 ≤ n
    nonzero n k = omega arith

pub law_of_ranges : (h : Meaning) → LawOfRanges h
law_of_ranges h key words cs = ranges h key cs (start words) (start_inv words)
