-- What is written reads back: by one step over the fields, whatever their widths.
use Rattle.std.proofs.Common.{◌≡◌, ℕ, ◌+◌, ◌*◌, ◌/◌, ◌%◌, ◌<◌, ◌≤◌, true, false, leb, List, [], ◌∷◌, ◌++◌, length, drop, Some, Ok, sym, refl, ◌∙◌, ⊎_elim, append_assoc, add-zero, zero-add, arith, length-append}
use native.Mathlib.Nat.{div-div-eq-div-mul}
use lib.Seq.{drop-append_seam}
use Rattle.std.proofs.lemmas.Bool.{cases_Bool}
use Rattle.board.specs.declared.Call.{Call}
use Rattle.board.specs.declared.Call.TheVariants.{Open, Add, Finish, Abandon, Destroy, Enter, Resume, Exit, Pause, Load, Store, Fetch, ReadRegister, WriteRegister, ReadMap, WriteMap, Attest}
use Rattle.records.specs.Kinds.{Width, byte, half, word, size, total, Maker, row, Field, layout, kind_of}
use Rattle.records.specs.Records.{spelled, body_of, recorded, placed, counted, number_at, call_at, by_row, parse, limit, Fit, Fits}
use Rattle.records.proofs.Arms.{call_drop, whole_row}

-- the widths of fields
abbrev widths : List Field → List Width
widths [] = []
widths (x ∷ fs) = x.0 ∷ widths fs

-- the call that fields make
abbrev applied : (fs : List Field) → Maker (widths fs) → Call
applied [] c = c
applied (x ∷ fs) f = applied fs (f x.1)

-- a number of four bytes, by one quotient after another
bytes_of_word : (a u v w : ℕ) → u ≡ a / 256 → v ≡ u / 256 → w ≡ v / 256 → a < 4294967296 → (w % 256) * 16777216 + (v % 256) * 65536 + (u % 256) * 256 + a % 256 ≡ a
bytes_of_word a u v w p q r h = omega arith

-- a number that fits is read of its bytes
number_again : (w : Width) (n : ℕ) (t : List ℕ) → n < limit w → number_at w (spelled w n ++ t) 0 ≡ n
number_again byte n t h = refl
number_again half n t h = omega arith
number_again word n t h =
    let e1 : n / 65536 ≡ n / 256 / 256 = sym (div-div-eq-div-mul n 256 256) in
    let e2 : n / 16777216 ≡ n / 65536 / 256 = sym (div-div-eq-div-mul n 65536 256) in
    rw (e2, e1) (bytes_of_word n (n / 256) (n / 256 / 256) (n / 256 / 256 / 256) refl refl refl h)

-- the bytes of a number are as many as its field has
past_spelled : (w : Width) (n : ℕ) (t : List ℕ) → drop (size w) (spelled w n ++ t) ≡ t
past_spelled byte n t = refl
past_spelled half n t = refl
past_spelled word n t = refl

length_spelled : (w : Width) (n : ℕ) → length (spelled w n) ≡ size w
length_spelled byte n = refl
length_spelled half n = refl
length_spelled word n = refl

length_body : (fs : List Field) → length (body_of fs) ≡ total (widths fs)
length_body [] = refl
length_body (x ∷ fs) = simp (length-append, length_spelled, length_body fs)

-- a first field is read, and the others of the bytes after it
field_again : (w : Width) (ws : List Width) (f : ℕ → Maker ws) (n : ℕ) (t : List ℕ) → n < limit w → call_at (w ∷ ws) f (spelled w n ++ t) 0 ≡ call_at ws (f n) t 0
field_again w ws f n t h =
    let bs = spelled w n ++ t in
    rw (number_again w n t h, zero-add (size w), ← add-zero (size w), ← call_drop ws (f n) bs (size w) 0, past_spelled w n t)

-- the call is read of the bytes of its fields
call_again : (fs : List Field) (f : Maker (widths fs)) (t : List ℕ) → Fit fs → call_at (widths fs) f (body_of fs ++ t) 0 ≡ applied fs f
call_again [] c t h = refl
call_again (x ∷ fs) f t h = rw append_assoc (field_again x.0 (widths fs) f x.1 (body_of fs ++ t) h.0 ∙ call_again fs (f x.1) t h.1)

-- the record of a call whose fields fit, by the row that makes a call of such fields
written : (place : ℕ) (c : Call) (f : Maker (widths (layout c).fields)) (t : List ℕ) → Fits c → by_row place (kind_of c) (body_of (layout c).fields ++ t) (Some (row (kind_of c) (widths (layout c).fields) f)) ≡ Ok (Some (applied (layout c).fields f, t))
written place c f t h =
    let fs = (layout c).fields in
    let room : total (widths fs) ≤ length (body_of fs ++ t) = simp length-append (omega (arith, length_body fs)) in
    whole_row place (kind_of c) (row (kind_of c) (widths fs) f) (body_of fs ++ t) room ∙ rw (call_again fs f t h, ← length_body fs, drop-append_seam (body_of fs) t)

-- a call that is written is read as that call, with the bytes after its record
pub again : (place : ℕ) (c : Call) (t : List ℕ) → Fits c → parse place (recorded c ++ t) ≡ Ok (Some (c, t))
again place (Open a b c d) = written place (Open a b c d) Open
again place (Add a b c d) = written place (Add a b c d) Add
again place (Finish a) = written place (Finish a) Finish
again place (Abandon a) = written place (Abandon a) Abandon
again place (Destroy a) = written place (Destroy a) Destroy
again place (Enter a) = written place (Enter a) Enter
again place (Resume a) = written place (Resume a) Resume
again place Exit = written place Exit Exit
again place Pause = written place Pause Pause
again place (Load a) = written place (Load a) Load
again place (Store a b) = written place (Store a b) Store
again place (Fetch a) = written place (Fetch a) Fetch
again place (ReadRegister a) = written place (ReadRegister a) ReadRegister
again place (WriteRegister a b) = written place (WriteRegister a b) WriteRegister
again place (ReadMap a b) = written place (ReadMap a b) ReadMap
again place (WriteMap a b c d) = written place (WriteMap a b c d) WriteMap
again place (Attest a) = written place (Attest a) Attest

-- a buffer that a call was written to reads as that call, with the bytes past its record
pub reread : (place n : ℕ) (c : Call) (buffer : List ℕ) → Fits c → counted (recorded c) buffer ≡ Ok n → parse place (placed (recorded c) buffer) ≡ Ok (Some (c, drop n buffer))
reread place n c buffer fits e =
    ⊎_elim
    (λ (h : leb (length (recorded c)) (length buffer) ≡ true).
    let e1 = rw h at e in
    let same : length (recorded c) ≡ n = cc in
    rw (h, ← same) (again place c (drop (length (recorded c)) buffer) fits))
    (λ (h : leb (length (recorded c)) (length buffer) ≡ false).
    let e1 = rw h at e in
    let z : ◌≡◌ {A = ℕ} 0 1 = cc in
    absurd (omega arith))
    (cases_Bool (leb (length (recorded c)) (length buffer)))
