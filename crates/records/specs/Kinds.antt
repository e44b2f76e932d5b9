-- The table of kinds: which byte a record of each call begins with, and which fields its body has, in their order.
use Rattle.std.specs.Prelude.{ℕ, ◌+◌, cond, List, [], ◌∷◌, Some, None, Option, ◌==◌}
use Rattle.board.specs.declared.Call.{Call}
use Rattle.board.specs.declared.Call.TheVariants.{Open, Add, Finish, Abandon, Destroy, Enter, Resume, Exit, Pause, Load, Store, Fetch, ReadRegister, WriteRegister, ReadMap, WriteMap, Attest}

-- ---- fields

-- a field has one byte, two or four
pub data Width : Type 0 where
  byte : Width
  half : Width
  word : Width

abbrev pub size : Width → ℕ
size byte = 1
size half = 2
size word = 4

-- how many bytes fields of these widths take
abbrev pub total : List Width → ℕ
total [] = 0
total (w ∷ ws) = size w + total ws

-- ---- from a kind to a call

-- what makes a call of fields of these widths
abbrev pub Maker : List Width → Type 0
Maker [] = Call
Maker (w ∷ ws) = ℕ → Maker ws

-- a row of the table: the kind, the widths of the body's fields, and the call that the fields make
pub record Row : Type 0 where
  pub kind : ℕ
  pub widths : List Width
  pub call : Maker widths

abbrev pub row : ℕ → (ws : List Width) → Maker ws → Row
row k ws f = record { kind = k; widths = ws; call = f }

-- the table, one row for each kind; the length of a body is the total of its widths
abbrev pub rows : List Row
rows =
    row 1 (byte ∷ byte ∷ byte ∷ half ∷ []) Open
    ∷ row 2 (byte ∷ byte ∷ byte ∷ byte ∷ []) Add
    ∷ row 3 (byte ∷ []) Finish
    ∷ row 4 (byte ∷ []) Abandon
    ∷ row 5 (byte ∷ []) Destroy
    ∷ row 6 (byte ∷ []) Enter
    ∷ row 7 (byte ∷ []) Resume
    ∷ row 8 [] Exit
    ∷ row 9 [] Pause
    ∷ row 10 (half ∷ []) Load
    ∷ row 11 (half ∷ word ∷ []) Store
    ∷ row 12 (half ∷ []) Fetch
    ∷ row 13 (byte ∷ []) ReadRegister
    ∷ row 14 (byte ∷ word ∷ []) WriteRegister
    ∷ row 15 (byte ∷ byte ∷ []) ReadMap
    ∷ row 16 (byte ∷ byte ∷ byte ∷ byte ∷ []) WriteMap
    ∷ row 17 (word ∷ []) Attest
    ∷ []

-- the row of a kind, if the kind is known
abbrev pub row_of : ℕ → List Row → Option Row
row_of k [] = None
row_of k (r ∷ rs) = cond (k == r.kind) (Some r) (row_of k rs)

-- how many bytes the body of a kind has, if the kind is known
abbrev pub length_by : Option Row → Option ℕ
length_by None = None
length_by (Some r) = Some (total r.widths)

abbrev pub length_of_body : ℕ → Option ℕ
length_of_body k = length_by (row_of k rows)

-- ---- from a call to its kind and fields

-- a field with the number that it holds
abbrev pub Field : Type 0
Field = Width × ℕ

-- a record before it is spelled out: its kind and its fields
pub record Layout : Type 0 where
  pub kind : ℕ
  pub fields : List Field

abbrev pub of_kind : ℕ → List Field → Layout
of_kind k fs = record { kind = k; fields = fs }

-- the kind and the fields of each call
abbrev pub layout : Call → Layout
layout (Open enclave first count entrypoint) = of_kind 1 ((byte, enclave) ∷ (byte, first) ∷ (byte, count) ∷ (half, entrypoint) ∷ [])
layout (Add enclave page frame permission) = of_kind 2 ((byte, enclave) ∷ (byte, page) ∷ (byte, frame) ∷ (byte, permission) ∷ [])
layout (Finish enclave) = of_kind 3 ((byte, enclave) ∷ [])
layout (Abandon enclave) = of_kind 4 ((byte, enclave) ∷ [])
layout (Destroy enclave) = of_kind 5 ((byte, enclave) ∷ [])
layout (Enter enclave) = of_kind 6 ((byte, enclave) ∷ [])
layout (Resume enclave) = of_kind 7 ((byte, enclave) ∷ [])
layout Exit = of_kind 8 []
layout Pause = of_kind 9 []
layout (Load address) = of_kind 10 ((half, address) ∷ [])
layout (Store address value) = of_kind 11 ((half, address) ∷ (word, value) ∷ [])
layout (Fetch address) = of_kind 12 ((half, address) ∷ [])
layout (ReadRegister number) = of_kind 13 ((byte, number) ∷ [])
layout (WriteRegister number value) = of_kind 14 ((byte, number) ∷ (word, value) ∷ [])
layout (ReadMap party page) = of_kind 15 ((byte, party) ∷ (byte, page) ∷ [])
layout (WriteMap party page frame permission) = of_kind 16 ((byte, party) ∷ (byte, page) ∷ (byte, frame) ∷ (byte, permission) ∷ [])
layout (Attest value) = of_kind 17 ((word, value) ∷ [])

-- the byte of kind of a call
abbrev pub kind_of : Call → ℕ
kind_of c = (layout c).kind
