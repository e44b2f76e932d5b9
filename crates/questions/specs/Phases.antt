-- How the record of an enclave moves from phase to phase.
use Rattle.std.specs.Prelude.{cond, Ok, Err, Result}
use Rattle.board.specs.declared.Enclave.{Enclave}
use Rattle.board.specs.declared.Phase.TheVariants.{Ready, Running}
use Rattle.board.specs.declared.Decline.{Decline}
use Rattle.board.specs.declared.Decline.TheVariants.{WrongPhase}
use Rattle.board.specs.declared.Call.{Call}
use Rattle.board.specs.declared.Call.TheVariants.{Open, Add, Finish, Abandon, Destroy, Enter, Resume, Exit, Pause, Load, Store, Fetch, ReadRegister, WriteRegister, ReadMap, WriteMap, Attest}
use Rattle.board.specs.State.{absent, idle}
use Rattle.board.specs.Questions.{phase_suits}
use Rattle.board.specs.Effects.{opened, with_phase, with_saved}

-- the record after a call whose phase is right; the measurement of a finish is set apart
abbrev pub moved : Call → Enclave → Enclave
moved (Open e first count entry) r = opened first count entry
moved (Add e v f permission) r = r
moved (Finish e) r = with_phase r Ready
moved (Abandon e) r = absent
moved (Destroy e) r = absent
moved (Enter e) r = with_phase r Running
moved (Resume e) r = with_saved r Running idle
moved Exit r = r
moved Pause r = r
moved (Load a) r = r
moved (Store a w) r = r
moved (Fetch a) r = r
moved (ReadRegister n) r = r
moved (WriteRegister n w) r = r
moved (ReadMap p v) r = r
moved (WriteMap p v f permission) r = r
moved (Attest w) r = r

-- the record's step: the moved record where the phase suits the call, else the decline
abbrev pub stepped : Enclave → Call → Result Enclave Decline
stepped r c = cond (phase_suits c r.phase) (Ok (moved c r)) (Err WrongPhase)
