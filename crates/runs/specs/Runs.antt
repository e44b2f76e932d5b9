-- What it is for a run of the gate to keep to the bare board.
use Rattle.std.specs.Prelude.{◌≡◌, Bool, true, false, cond, List, [], ◌∷◌, ◌++◌, map, Some, None, Ok, Err, Option, Result}
use Rattle.std.specs.declared.alloc.AllocError.{AllocError}
use Rattle.memory.specs.declared.Memory
use Rattle.digest.specs.Meaning.{Meaning}
use Rattle.board.specs.declared.Answer.{Answer}
use Rattle.board.specs.declared.Call.{Call}
use Rattle.board.specs.declared.Call.TheVariants.{Open, Add, Finish, Abandon, Destroy, Enter, Resume, Exit, Pause, Load, Store, Fetch, ReadRegister, WriteRegister, ReadMap, WriteMap, Attest}
use Rattle.board.specs.State.{State}
use Rattle.board.specs.Answers.{reply_of}
use Rattle.board.specs.Steps.{Event, run, replies}
use Rattle.monitor.specs.declared.Monitor.{Monitor}
use Rattle.monitor.specs.Gate.{Does, state_of}

-- the calls that are made here: all but attest
abbrev pub in_gate : Call → Bool
in_gate (Open e first count entry) = true
in_gate (Add e v f permission) = true
in_gate (Finish e) = true
in_gate (Abandon e) = true
in_gate (Destroy e) = true
in_gate (Enter e) = true
in_gate (Resume e) = true
in_gate Exit = true
in_gate Pause = true
in_gate (Load a) = true
in_gate (Store a w) = true
in_gate (Fetch a) = true
in_gate (ReadRegister n) = true
in_gate (WriteRegister n w) = true
in_gate (ReadMap p v) = true
in_gate (WriteMap p v f permission) = true
in_gate (Attest w) = false

-- the calls up to the first that is not made here
abbrev pub heeded : List Call → List Call
heeded [] = []
heeded (c ∷ cs) = cond (in_gate c) (c ∷ heeded cs) []

-- the states after each event
abbrev pub states : List Event → List State
states [] = []
states (x ∷ xs) = x.after ∷ states xs

module _ {M D : Type 0} (m : Memory.Ghosts M) (h : Meaning) where
  -- a call was answered as the bare board answers it; or it is not made here, and nothing was done
  abbrev pub Answered : Call → Monitor M D → Option Answer → Monitor M D → Type 0
  Answered c before (Some a) after = (in_gate c ≡ true) × Does m h c before (reply_of a) after
  Answered c before None after = (in_gate c ≡ false) × (after ≡ before)

  -- each monitor is got from the one before by its call
  abbrev pub EachDoes : Monitor M D → List Call → List Answer → List (Monitor M D) → Type 0
  EachDoes g [] [] [] = Unit {0}
  EachDoes g [] [] (k ∷ ks) = ⊥
  EachDoes g [] (a ∷ xs) ks = ⊥
  EachDoes g (c ∷ cs) [] ks = ⊥
  EachDoes g (c ∷ cs) (a ∷ xs) [] = ⊥
  EachDoes g (c ∷ cs) (a ∷ xs) (k ∷ ks) = Does m h c g (reply_of a) k × EachDoes k cs xs ks

  abbrev pub last_of : Monitor M D → List (Monitor M D) → Monitor M D
  last_of g [] = g
  last_of g (k ∷ ks) = last_of k ks

  -- Calls made one after another, with their answers in order.
  pub record Ran (cs : List Call) (before : Monitor M D) (xs : List Answer) (after : Monitor M D) : Type 0 where
    -- the monitor after each call
    pub monitors : List (Monitor M D)
    pub each : EachDoes before cs xs monitors
    pub last : after ≡ last_of before monitors
    -- the answers, and the states after each call, are the bare board's
    pub answers : map reply_of xs ≡ replies (run h before.key (state_of m before) cs)
    pub states_are : map (state_of m) monitors ≡ states (run h before.key (state_of m before) cs)

  -- the calls were made and their answers added; or there was no room for the answers, and nothing was done
  abbrev pub AddsRun : List Call → Monitor M D → List Answer → Result (Unit {0}) AllocError → Monitor M D → List Answer → Type 0
  AddsRun cs before earlier (Ok u) after later = (xs : List Answer) × (later ≡ earlier ++ xs) × Ran cs before xs after
  AddsRun cs before earlier (Err e) after later = (later ≡ earlier) × (after ≡ before)
