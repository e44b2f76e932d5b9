-- One call of the bare board, and its runs.
use Rattle.std.specs.Prelude.{ℕ, cond, List, [], ◌∷◌, ◌==◌}
use Rattle.digest.specs.Meaning.{Meaning}
use Rattle.board.specs.declared.Call.{Call}
use Rattle.board.specs.State.{State}
use Rattle.board.specs.Answers.{Reply, declining}
use Rattle.board.specs.Questions.{decision}
use Rattle.board.specs.Effects.{Outcome, effect}

-- a call, with a digest of this meaning and a key: accepted, it has its effect; declined, it changes nothing
abbrev pub step : Meaning → List ℕ → Call → State → Outcome
step h key c s = cond (decision c s == 0) (effect h key c s) (record { reply = declining (decision c s); state = s })

-- one call of a run, with the state before it, its answer and the state after it
pub record Event : Type 0 where
  pub call : Call
  pub before : State
  pub reply : Reply
  pub after : State

abbrev pub event : Call → State → Outcome → Event
event c s o = record { call = c; before = s; reply = o.reply; after = o.state }

-- the events of these calls, made from state s on
abbrev pub run : Meaning → List ℕ → State → List Call → List Event
run h key s [] = []
run h key s (c ∷ cs) = event c s (step h key c s) ∷ run h key (step h key c s).state cs

-- the answers of a run, in order
abbrev pub replies : List Event → List Reply
replies [] = []
replies (x ∷ xs) = x.reply ∷ replies xs

-- the state that a run leaves, from state s on
abbrev pub ended : State → List Event → State
ended s [] = s
ended s (x ∷ xs) = ended x.after xs
