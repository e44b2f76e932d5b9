-- Two changed rules, and under each a pair of runs that tells a secret: the law of sight is false there.
use Rattle.std.specs.Prelude.{◌≡◌, ℕ, cond, List, [], ◌∷◌, replicate, ◌==◌, slice_index_or}
use Rattle.digest.specs.Fold.{fold_meaning}
use Rattle.board.specs.declared.Call.{Call}
use Rattle.board.specs.State.{State, start}
use Rattle.board.specs.Answers.{accepting, declining}
use Rattle.board.specs.Questions.{decision}
use Rattle.board.specs.Effects.{Outcome, effect, accepted, on_board, with_live, forgotten}
use Rattle.board.specs.Steps.{Event, event, replies}
use Rattle.board.specs.Kinds.{Kind, destroying, entering, resuming, leaving, accessing, plain, kind_of}
use Rattle.board.specs.Sight.{DifferOnlyInward, sightings}
use Rattle.board.specs.Examples.{zeros, secret_calls}

-- what accepted calls do, as it should be: with the fold and a key of zeros
abbrev pub lawful : Call → State → Outcome
lawful c s = effect fold_meaning (replicate 8 0) c s

-- changed: a destroyed enclave's pages go back to the host with their words
abbrev pub words_given_back : Kind → Call → State → Outcome
words_given_back (destroying e) c s = accepted [] (record { board = forgotten s.board e; words = s.words })
words_given_back (entering e) c s = lawful c s
words_given_back (resuming e) c s = lawful c s
words_given_back leaving c s = lawful c s
words_given_back (accessing a) c s = lawful c s
words_given_back plain c s = lawful c s

-- changed: an exit or a pause leaves the enclave's pc and registers live
abbrev pub registers_left : Kind → Call → State → Outcome
registers_left (destroying e) c s = lawful c s
registers_left (entering e) c s = lawful c s
registers_left (resuming e) c s = lawful c s
registers_left leaving c s =
    let o = lawful c s in
    record { reply = o.reply; state = on_board o.state (with_live o.state.board s.board.live) }
registers_left (accessing a) c s = lawful c s
registers_left plain c s = lawful c s

-- one call, and the events of a run, under such a rule
abbrev pub step_by : (Kind → Call → State → Outcome) → Call → State → Outcome
step_by rule c s = cond (decision c s == 0) (rule (kind_of c) c s) (record { reply = declining (decision c s); state = s })

abbrev pub run_by : (Kind → Call → State → Outcome) → State → List Call → List Event
run_by rule s [] = []
run_by rule s (c ∷ cs) = event c s (step_by rule c s) ∷ run_by rule (step_by rule c s).state cs

-- the runs in which enclave 1 hides a secret and the host looks
abbrev pub secret_by : (Kind → Call → State → Outcome) → ℕ → List Event
secret_by rule secret = run_by rule (start zeros) (secret_calls secret)

-- Two such runs differ only in inward calls of enclave 1, but the host is answered the secret at this place.
pub record TellsTheSecret (rule : Kind → Call → State → Outcome) (place : ℕ) : Type 0 where
  pub differ : DifferOnlyInward 1 (secret_by rule 7) (secret_by rule 9)
  pub told_seven : slice_index_or (replies (secret_by rule 7)) place (declining 0) ≡ accepting (7 ∷ [])
  pub told_nine : slice_index_or (replies (secret_by rule 9)) place (declining 0) ≡ accepting (9 ∷ [])
  pub seen_apart : sightings 1 (secret_by rule 7) ≡ sightings 1 (secret_by rule 9) → ⊥

-- by the load of its frame after the destroy; by the read of the register after the pause
pub record LeaksAreTold : Type 0 where
  pub by_words : TellsTheSecret words_given_back 14
  pub by_registers : TellsTheSecret registers_left 8
