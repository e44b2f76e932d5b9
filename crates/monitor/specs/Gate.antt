-- What it is for the gate's code to keep to the bare board.
use Rattle.std.specs.Prelude.{◌≡◌, Bool, true, false, ◌≢◌}
use Rattle.memory.specs.declared.Memory
use Rattle.digest.specs.Meaning.{Meaning}
use Rattle.board.specs.declared.Call.{Call}
use Rattle.board.specs.declared.Call.TheVariants.{Open, Add, Finish, Abandon, Destroy, Enter, Resume, Exit, Pause, Load, Store, Fetch, ReadRegister, WriteRegister, ReadMap, WriteMap, Attest}
use Rattle.board.specs.State.{State}
use Rattle.board.specs.Answers.{Reply}
use Rattle.board.specs.Steps.{step}
use Rattle.monitor.specs.declared.Monitor.{Monitor}

-- the bare board's state that a monitor stands for: its board, and its memory's list of words
abbrev pub state_of : {M D : Type 0} → Memory.Ghosts M → Monitor M D → State
state_of m g = record { board = g.board; words = m.words g.memory }

-- the calls that feed the digest
abbrev pub feeds : Call → Bool
feeds (Open e first count entry) = false
feeds (Add e v f permission) = false
feeds (Finish e) = true
feeds (Abandon e) = false
feeds (Destroy e) = false
feeds (Enter e) = false
feeds (Resume e) = false
feeds Exit = false
feeds Pause = false
feeds (Load a) = false
feeds (Store a w) = false
feeds (Fetch a) = false
feeds (ReadRegister n) = false
feeds (WriteRegister n w) = false
feeds (ReadMap p v) = false
feeds (WriteMap p v f permission) = false
feeds (Attest w) = true

-- Call c, made to a monitor with a digest of this meaning, was answered r.
pub record Does {M D : Type 0} (m : Memory.Ghosts M) (meaning : Meaning) (c : Call) (before : Monitor M D) (r : Reply) (after : Monitor M D) : Type 0 where
  -- the answer and the state after are the bare board's
  pub stepped : step meaning before.key c (state_of m before) ≡ record { reply = r; state = state_of m after }
  -- a declined call leaves the whole monitor: board, memory, digest and key
  pub untouched : (r.number ≢ 0) → after ≡ before
  pub same_key : after.key ≡ before.key
  pub same_digest : feeds c ≡ false → after.digest ≡ before.digest
