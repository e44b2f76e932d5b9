-- The calls as the laws tell them apart.
use Rattle.std.specs.Prelude.{ℕ}
use Rattle.board.specs.declared.Call.{Call}
use Rattle.board.specs.declared.Call.TheVariants.{Open, Add, Finish, Abandon, Destroy, Enter, Resume, Exit, Pause, Load, Store, Fetch, ReadRegister, WriteRegister, ReadMap, WriteMap, Attest}

-- a destroy, an enter or a resume of an enclave; an exit or a pause; a load or a store at an address; any other call
pub data Kind : Type 0 where
  destroying : ℕ → Kind
  entering : ℕ → Kind
  resuming : ℕ → Kind
  leaving : Kind
  accessing : ℕ → Kind
  plain : Kind

abbrev pub kind_of : Call → Kind
kind_of (Open e first count entry) = plain
kind_of (Add e v f permission) = plain
kind_of (Finish e) = plain
kind_of (Abandon e) = plain
kind_of (Destroy e) = destroying e
kind_of (Enter e) = entering e
kind_of (Resume e) = resuming e
kind_of Exit = leaving
kind_of Pause = leaving
kind_of (Load a) = accessing a
kind_of (Store a w) = accessing a
kind_of (Fetch a) = plain
kind_of (ReadRegister n) = plain
kind_of (WriteRegister n w) = plain
kind_of (ReadMap p v) = plain
kind_of (WriteMap p v f permission) = plain
kind_of (Attest w) = plain
