-- The watch agrees with the state of the bare board, and so its marks tell the inward calls of a run.
use Rattle.std.proofs.Common.{rules, tests, ◌≡◌, ℕ, Bool, true, cond, not, eqb, List, [], ◌∷◌, ◌++◌, map, sym, refl, ◌∙◌, ap₂, inl, inr, arith}
use Rattle.std.proofs.lemmas.Bool.{cases_eq}
use Rattle.digest.specs.Meaning.{Meaning}
use Rattle.board.specs.declared.Board.{Board}
use Rattle.board.specs.declared.Enclave.{Enclave}
use Rattle.board.specs.declared.Call.{Call}
use Rattle.board.specs.State.{State, fresh, start, enclave_of}
use Rattle.board.specs.Questions.{is_enclave_number}
use Rattle.board.specs.Effects.{Outcome, with_enclave, effect}
use Rattle.board.specs.Answers.{Reply}
use Rattle.board.specs.Steps.{step, event, run, replies}
use Rattle.board.specs.Kinds.{Kind, kind_of}
use Rattle.board.specs.Sight.{outward_kind, inward}
use Rattle.board.proofs.Allowed.{Allowed, step_cases, from_one, up_to_eight}
use Rattle.board.proofs.Orderly.{enclave_after}
use Rattle.board.proofs.Sound.{Shape, Inv, start_inv}
use Rattle.board.proofs.Subject.{step_inv}
use Rattle.sight.specs.declared.watch.Watch.{Watch}
use Rattle.sight.specs.Marks.{at_start, with_range, inward_kind, is_inward_to, next_of, marks_from, TellsInwardCalls}

-- the watch has the range of this record
abbrev pub Ranged : Watch → Enclave → Type 0
Ranged w r = (w.first ≡ r.first) × (w.count ≡ r.count)

-- the watch of enclave e is right about the board
abbrev pub Agrees : ℕ → Watch → Board → Type 0
Agrees e w b = (w.running ≡ b.running) × Ranged w (enclave_of b e)

pub start_agrees : (e : ℕ) → Agrees e at_start fresh
start_agrees e = search (rules, tests)

-- ---- one record replaced

module _ (e : ℕ) (w : Watch) (b : Board) (i : Shape b) (a : Agrees e w b) (d : ℕ) (l : is_enclave_number d ≡ true) (r : Enclave) where
  -- the record of e, after that of d
  after_change : (P : Enclave → Type 0) → (d ≡ e → P r) → ((d ≡ e → ⊥) → P (enclave_of b e)) → P (enclave_of (with_enclave b d r) e)
  after_change P new old =
      elim (cases_eq e 0) [
        | inl q ↦ search (rules, tests)
        | inr n ↦ enclave_after P b d e r i.enclaves (from_one d l) (up_to_eight d l) (omega arith) (λ q. new (sym q)) (λ k. old (λ q. k (sym q)))
      ]

  -- by one with the same range
  kept : r.first ≡ (enclave_of b d).first → r.count ≡ (enclave_of b d).count → Ranged w (enclave_of (with_enclave b d r) e)
  kept f n = after_change (Ranged w) (λ q. search (rules, tests)) (λ q. a.1)

  -- by one with another
  replaced : Agrees e (cond (eqb d e) (with_range w r.first r.count) w) (with_enclave b d r)
  replaced = (search (rules, tests), after_change (Ranged (cond (eqb d e) (with_range w r.first r.count) w)) (λ q. search (rules, tests)) (λ q. search (rules, tests)))

-- ---- one call

module _ (h : Meaning) (key : List ℕ) (e : ℕ) (w : Watch) (s : State) (i : Shape s.board) (a : Agrees e w s.board) where
  effect_agrees : (c : Call) → Allowed c s → Agrees e (next_of e w c (effect h key c s).reply) (effect h key c s).state.board
  effect_agrees c y = search (rules, tests, replaced, kept)

  next_agrees : (c : Call) → Agrees e (next_of e w c (step h key c s).reply) (step h key c s).state.board
  next_agrees c =
      step_cases h key c s (λ (o : Outcome). Agrees e (next_of e w c o.reply) o.state.board) (effect_agrees c) (λ n. search (rules, tests))

  not_outward : (k : Kind) → s.board.running ≡ e → inward_kind w k ≡ not (outward_kind s.board k)
  not_outward k q = search (rules, tests)

  -- the mark of a call
  tells : (c : Call) → is_inward_to e w c ≡ inward e (event c s (step h key c s))
  tells c = let h = not_outward (kind_of c) in search (rules, tests)

-- ---- a run

pub marks_tell : (h : Meaning) (key : List ℕ) (e : ℕ) (cs more : List Call) (w : Watch) (s : State) → Inv s → Agrees e w s.board
    → marks_from e w (cs ++ more) (replies (run h key s cs)) ≡ map (inward e) (run h key s cs)
marks_tell h key e [] more w s i a = refl
marks_tell h key e (c ∷ cs) more w s i a =
    ap₂ (λ (m : Bool) (ms : List Bool). m ∷ ms) (tells h key e w s i.shape a c) (marks_tell h key e cs more _ _ (step_inv h key c s i) (next_agrees h key e w s i.shape a c))

-- where no calls are left, no marks are
pub no_calls_left : (e : ℕ) (w : Watch) (rs : List Reply) → marks_from e w [] rs ≡ []
no_calls_left e w [] = refl
no_calls_left e w (r ∷ rs) = refl

pub inward_calls_told : (h : Meaning) (e : ℕ) (calls : List Call) (answers : List Reply) (marks : List Bool) → marks ≡ marks_from e at_start calls answers → TellsInwardCalls h e calls answers marks
inward_calls_told h e calls answers marks all key words cs more p q =
    all ∙ ap₂ (marks_from e at_start) p q ∙ marks_tell h key e cs more at_start (start words) (start_inv words) (start_agrees e)
