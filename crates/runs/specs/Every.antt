-- Runs of calls of all seventeen kinds, from a new monitor on.
use Rattle.std.specs.Prelude.{◌≡◌, ℕ, List, map, Vec, vec_items, MatchResult}
use Rattle.std.specs.declared.alloc.Global.{Global}
use Rattle.memory.specs.declared.Memory
use Rattle.digest.specs.declared.Digest
use Rattle.board.specs.declared.Answer.{Answer}
use Rattle.board.specs.declared.Call.{Call}
use Rattle.board.specs.State.{start}
use Rattle.board.specs.Answers.{reply_of}
use Rattle.board.specs.Steps.{Event, run, replies}
use Rattle.monitor.specs.declared.Monitor.{Monitor}
use Rattle.monitor.specs.Gate.{state_of}
use Rattle.runs.specs.Runs.{EachDoes, last_of, states}
use Rattle.runs.specs.declared.every.Ended.{Ended}

-- a new monitor over this memory, with this key
pub record IsNew {M D : Type 0} (m : Memory.Ghosts M) (key : List ℕ) (memory : M) (g : Monitor M D) : Type 0 where
  pub state : state_of m g ≡ start (m.words memory)
  pub holds : g.memory ≡ memory
  pub same_key : g.key ≡ key

-- the bare board's events of these calls, made to a new monitor over this memory
abbrev pub events : {M D : Type 0} → Memory.Ghosts M → Digest.Ghosts D → List ℕ → M → List Call → List Event
events m d key memory cs = run d.meaning key (start (m.words memory)) cs

-- These calls were made to a new monitor over this memory, with these answers, and left the memory so.
pub record RanNew {M D : Type 0} (m : Memory.Ghosts M) (d : Digest.Ghosts D) (key : List ℕ) (memory : M) (cs : List Call) (xs : List Answer) (after : M) : Type 0 where
  -- the new monitor, and the monitor after each call
  pub begun : Monitor M D
  pub monitors : List (Monitor M D)
  pub is_new : IsNew m key memory begun
  pub each : EachDoes m d.meaning begun cs xs monitors
  pub handed_over : after ≡ (last_of m d.meaning begun monitors).memory
  -- the answers, and the states after each call, are the bare board's
  pub answers : map reply_of xs ≡ replies (events m d key memory cs)
  pub states_are : map (state_of m) monitors ≡ states (events m d key memory cs)

-- the calls were made; or there was no room for their answers, and the memory is as it was
abbrev pub EndedSo : {M D : Type 0} → Memory.Ghosts M → Digest.Ghosts D → List ℕ → M → List Call → Ended M (Vec Answer Global) → Type 0
EndedSo m d key memory cs r = MatchResult r.result (λ xs. RanNew m d key memory cs (vec_items xs) r.memory) (λ e. r.memory ≡ memory)
