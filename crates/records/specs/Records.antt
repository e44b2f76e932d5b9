-- A record is one byte of kind, then a body whose length the kind fixes: what is written of a call, and what is read of bytes.
use Rattle.std.specs.Prelude.{◌≡◌, ℕ, ◌+◌, ◌-◌, ◌*◌, ◌/◌, ◌%◌, ◌<◌, cond, List, [], ◌∷◌, ◌++◌, length, drop, Some, None, Ok, Err, Option, Result, nat_le, slice_index}
use Rattle.std.specs.Borrow.{Bor}
use Rattle.board.specs.declared.Call.{Call}
use Rattle.faults.specs.declared.ReadFault.{ReadFault}
use Rattle.faults.specs.declared.ReadFault.TheVariants.{UnknownKind, ShortBody}
use Rattle.faults.specs.declared.NoRoom.{NoRoom}
use Rattle.records.specs.Kinds.{Width, byte, half, word, size, total, Maker, Row, rows, row_of, Field, layout, kind_of}

-- ---- what is written of a call

-- the bytes of a number in a field, the high byte first
abbrev pub spelled : Width → ℕ → List ℕ
spelled byte n = n ∷ []
spelled half n = (n / 256 % 256) ∷ (n % 256) ∷ []
spelled word n = (n / 16777216 % 256) ∷ (n / 65536 % 256) ∷ (n / 256 % 256) ∷ (n % 256) ∷ []

-- the bytes of fields, one after another
abbrev pub body_of : List Field → List ℕ
body_of [] = []
body_of (x ∷ fs) = spelled x.0 x.1 ++ body_of fs

-- the record of a call as bytes
abbrev pub recorded : Call → List ℕ
recorded c = kind_of c ∷ body_of (layout c).fields

-- the buffer after a write: the record at its front where it has the room, and else as it was
abbrev pub placed : List ℕ → List ℕ → List ℕ
placed bs buffer = cond (nat_le (length bs) (length buffer)) (bs ++ drop (length bs) buffer) buffer

-- the answer to a write: how many bytes the record has, or how many the buffer lacks
abbrev pub counted : List ℕ → List ℕ → Result ℕ NoRoom
counted bs buffer = cond (nat_le (length bs) (length buffer)) (Ok (length bs)) (Err (record { missing = length bs - length buffer }))

-- ---- what is read of bytes

-- the number of a field that begins at place i, the high byte first
abbrev pub number_at : Width → List ℕ → ℕ → ℕ
number_at byte bs i = slice_index bs i
number_at half bs i = slice_index bs i * 256 + slice_index bs (i + 1)
number_at word bs i = slice_index bs i * 16777216 + slice_index bs (i + 1) * 65536 + slice_index bs (i + 2) * 256 + slice_index bs (i + 3)

-- the call of the fields that begin at place i
abbrev pub call_at : (ws : List Width) → Maker ws → List ℕ → ℕ → Call
call_at [] c bs i = c
call_at (w ∷ ws) f bs i = call_at ws (f (number_at w bs i)) bs (i + size w)

-- what is read: a call with the bytes after its record, nothing at the end of the bytes, or a fault
abbrev pub Read : Type 0
Read = Result (Option (Call × List ℕ)) ReadFault

-- the fault of a record whose body has only so many bytes: the kind is not known, or its body is longer
abbrev pub lacking : ℕ → ℕ → ℕ → Option ℕ → ReadFault
lacking place k got None = UnknownKind place k
lacking place k got (Some n) = ShortBody place k (n - got)

-- what is read of a body by the row of its kind
abbrev pub by_row : ℕ → ℕ → List ℕ → Option Row → Read
by_row place k body None = Err (lacking place k (length body) None)
by_row place k body (Some r) =
    let n = total r.widths in
    cond (nat_le n (length body))
    (Ok (Some (call_at r.widths r.call body 0, drop n body)))
    (Err (lacking place k (length body) (Some n)))

-- what is read of the bytes from a place of the file on
abbrev pub parse : ℕ → List ℕ → Read
parse place [] = Ok None
parse place (k ∷ body) = by_row place k body (row_of k rows)

-- what the reader's answer shows
abbrev pub seen : Result (Option (Call × Bor (List ℕ))) ReadFault → Read
seen (Ok None) = Ok None
seen (Ok (Some p)) = Ok (Some (p.0, p.1.now))
seen (Err f) = Err f

-- ---- reading undoes writing, and writing undoes reading

-- the numbers of a field are below this
abbrev pub limit : Width → ℕ
limit byte = 256
limit half = 65536
limit word = 4294967296

-- each number fits its field
abbrev pub Fit : List Field → Type 0
Fit [] = Unit {0}
Fit (x ∷ fs) = (x.1 < limit x.0) × Fit fs

-- the numbers of a call fit their fields
abbrev pub Fits : Call → Type 0
Fits c = Fit (layout c).fields

-- a record that is read writes back as its bytes; nothing is read only at the end
abbrev pub Back : List ℕ → Read → Type 0
Back bs (Ok None) = bs ≡ []
Back bs (Ok (Some p)) = bs ≡ recorded p.0 ++ p.1
Back bs (Err f) = Unit {0}
