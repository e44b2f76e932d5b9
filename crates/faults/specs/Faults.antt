-- Why a record is not read or not written: each fault's number, and what a line shows of it.
use Rattle.std.specs.Prelude.{ℕ, cond, List, length, Ok, Err, Result, nat_le}
use Rattle.faults.specs.declared.ReadFault.{ReadFault}
use Rattle.faults.specs.declared.ReadFault.TheVariants.{TooLong, UnknownKind, ShortBody}
use Rattle.faults.specs.declared.NoRoom.{NoRoom}

-- the number of the question that was answered no: the file too long, the kind not known, the body not whole
abbrev pub fault_number : ReadFault → ℕ
fault_number TooLong = 9
fault_number (UnknownKind place kind) = 10
fault_number (ShortBody place kind missing) = 11

-- the place that a line shows
abbrev pub fault_place : ReadFault → ℕ
fault_place TooLong = 0
fault_place (UnknownKind place kind) = place
fault_place (ShortBody place kind missing) = place

-- the kind that a line shows: the byte itself
abbrev pub fault_kind : ReadFault → ℕ
fault_kind TooLong = 0
fault_kind (UnknownKind place kind) = kind
fault_kind (ShortBody place kind missing) = kind

-- the writer's decline has the number of a body that is not whole
abbrev pub no_room_number : NoRoom → ℕ
no_room_number d = 11

-- a file has at most 32,768 bytes
abbrev pub admitted : List ℕ → Result (Unit {0}) ReadFault
admitted bs = cond (nat_le (length bs) 32768) (Ok tt) (Err TooLong)
