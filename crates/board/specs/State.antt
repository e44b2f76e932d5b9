-- The bare board's state: its parts, their first values, and where an address lies.
use Rattle.std.specs.Prelude.{ℕ, ◌+◌, ◌-◌, ◌*◌, ◌/◌, ◌%◌, Bool, false, cond, ◌&&◌, List, replicate, ◌==◌, nat_le, nat_lt, slice_index, slice_index_or}
use Rattle.board.specs.declared.Board.{Board}
use Rattle.board.specs.declared.Enclave.{Enclave}
use Rattle.board.specs.declared.Entry.{Entry}
use Rattle.board.specs.declared.Context.{Context}
use Rattle.board.specs.declared.Phase.TheVariants.{Absent}

-- the whole state: the board, and the words of its memory
pub record State : Type 0 where
  pub board : Board
  pub words : List ℕ

-- ---- first values

-- an entry that maps nothing
abbrev pub unmapped : Entry
unmapped = record { frame = 0; permission = 0; accessed = false }

-- a map of nothing
abbrev pub blank : List Entry
blank = replicate 64 unmapped

-- pc and registers at 0
abbrev pub idle : Context
idle = record { pc = 0; registers = replicate 8 0 }

-- the record of an enclave that is not there
abbrev pub absent : Enclave
absent = record { phase = Absent; first = 0; count = 0; entrypoint = 0; measurement = replicate 8 0; saved = idle }

-- a new board: the host runs, owns every page, and no enclave is there
abbrev pub fresh : Board
fresh = record { owners = replicate 64 0; running = 0; live = idle; host = idle; maps = replicate 9 blank; enclaves = replicate 8 absent }

-- a new monitor over a memory of these words
abbrev pub start : List ℕ → State
start ws = record { board = fresh; words = ws }

-- ---- parts

-- the map of party p
abbrev pub map_of : Board → ℕ → List Entry
map_of b p = slice_index_or b.maps p blank

-- the entry of party p for virtual page v
abbrev pub entry_of : Board → ℕ → ℕ → Entry
entry_of b p v = slice_index_or (map_of b p) v unmapped

-- the record of enclave e; there is no enclave 0
abbrev pub enclave_of : Board → ℕ → Enclave
enclave_of b e = cond (e == 0) absent (slice_index_or b.enclaves (e - 1) absent)

-- the party that owns physical page f
abbrev pub owner_of : Board → ℕ → ℕ
owner_of b f = slice_index b.owners f

-- ---- ranges and addresses

-- the numbers make a range: at least one page, and none past page 63
abbrev pub makes_range : ℕ → ℕ → Bool
makes_range first count = nat_le 1 count && nat_le (first + count) 64

-- page v is in the range of count pages from first on; where the numbers make no range, no page is
abbrev pub covers : ℕ → ℕ → ℕ → Bool
covers first count v = makes_range first count && (nat_le first v && nat_lt v (first + count))

-- page v is inside the range of enclave e
abbrev pub inside : Board → ℕ → ℕ → Bool
inside b e v = covers (enclave_of b e).first (enclave_of b e).count v

-- the virtual page of address a
abbrev pub page_of : ℕ → ℕ
page_of a = a / 64

-- where the running party's address a lies in memory
abbrev pub place_of : Board → ℕ → ℕ
place_of b a = 64 * (entry_of b b.running (page_of a)).frame + a % 64
