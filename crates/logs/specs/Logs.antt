-- The log of a file of records, in terms of the bare board's run.
use Rattle.std.specs.Prelude.{◌≡◌, ℕ, ◌⊎◌, List, Ok, Err, string_bytes, Result, String}
use Rattle.std.specs.declared.alloc.AllocError.{AllocError}
use Rattle.std.specs.declared.alloc.Global.{Global}
use Rattle.memory.specs.declared.Memory
use Rattle.digest.specs.Meaning.{Meaning}
use Rattle.board.specs.declared.Answer.{Answer}
use Rattle.board.specs.declared.Call.{Call}
use Rattle.board.specs.Steps.{run, replies}
use Rattle.monitor.specs.declared.Monitor.{Monitor}
use Rattle.monitor.specs.Gate.{state_of}
use Rattle.files.specs.Files.{filed, calls_of}
use Rattle.runs.specs.Runs.{Ran, heeded}
use Rattle.logs.specs.Text.{log}

-- the calls of a file that are made here
abbrev pub calls_in : List ℕ → List Call
calls_in bs = heeded (calls_of (filed bs))

module _ {M D : Type 0} (m : Memory.Ghosts M) (h : Meaning) where
  -- the calls were made, with some answers
  abbrev pub Made : List ℕ → Monitor M D → Monitor M D → Type 0
  Made bs before after = (xs : List Answer) × Ran m h (calls_in bs) before xs after

  -- The file's calls were made, and the text is the log of the bare board's answers;
  -- or memory was wanting, and no call was made or all were.
  abbrev pub Logged : List ℕ → Monitor M D → Result (String Global) AllocError → Monitor M D → Type 0
  Logged bs before (Ok text) after = Made bs before after × (string_bytes text ≡ log (filed bs) (replies (run h before.key (state_of m before) (calls_in bs))))
  Logged bs before (Err e) after = (after ≡ before) ⊎ Made bs before after
