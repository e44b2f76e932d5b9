-- What a file of records comes to: its calls with their places, and the fault that ends it, if any.
use Rattle.std.specs.Prelude.{◌≡◌, ℕ, zero, suc, ◌+◌, ◌-◌, ◌*◌, ◌<◌, cond, List, [], ◌∷◌, map, length, take, drop, Some, None, Ok, Err, vec_items, Option, Result, ◌==◌, nat_le, slice_index}
use Rattle.std.specs.Borrow.{Bor}
use Rattle.board.specs.declared.Call.{Call}
use Rattle.faults.specs.declared.ReadFault.{ReadFault}
use Rattle.faults.specs.declared.ReadFault.TheVariants.{TooLong, UnknownKind}
use Rattle.faults.specs.declared.RunFault.{RunFault}
use Rattle.records.specs.Records.{Read, parse}
use Rattle.files.specs.declared.File.{File}
use Rattle.files.specs.declared.CutShort.{CutShort}
use Rattle.files.specs.declared.CutShort.TheVariants.{First, Second}

-- what is heard of bytes that begin at a place: kind 17 is not known here
abbrev pub heard : ℕ → List ℕ → Read
heard place [] = Ok None
heard place (k ∷ body) = cond (k == 17) (Err (UnknownKind place k)) (parse place (k ∷ body))

-- a call, and the place of its record's first byte
pub record Placed : Type 0 where
  pub place : ℕ
  pub call : Call

-- the records of a file, and the fault that ends it
pub record Filed : Type 0 where
  pub records : List Placed
  pub fault : Option ReadFault

abbrev pub ends : Option ReadFault → Filed
ends f = record { records = []; fault = f }

-- a record before those of the rest
abbrev pub before : Placed → Filed → Filed
before p f = record { records = p ∷ f.records; fault = f.fault }

-- by what is heard; `more` is what the rest of the bytes comes to
abbrev pub after_read : (ℕ → List ℕ → Filed) → ℕ → List ℕ → Read → Filed
after_read more place bs (Ok None) = ends None
after_read more place bs (Ok (Some t)) = before (record { place = place; call = t.0 }) (more (place + (length bs - length t.1)) t.1)
after_read more place bs (Err f) = ends (Some f)

-- the bytes from a place on, of at most n records, where one record is read so
abbrev pub filed_by : (ℕ → List ℕ → Read) → ℕ → ℕ → List ℕ → Filed
filed_by one zero place bs = ends None
filed_by one (suc n) place bs = after_read (filed_by one n) place bs (one place bs)

-- a whole file: each record has at least one byte, and a file too long has none
abbrev pub file_by : (ℕ → List ℕ → Read) → List ℕ → Filed
file_by one bs = cond (nat_le (length bs) 32768) (filed_by one (length bs) 0 bs) (ends (Some TooLong))

-- a file in which kind 17 is not known
abbrev pub filed : List ℕ → Filed
filed = file_by heard

-- a file of records of all seventeen kinds
abbrev pub all_filed : List ℕ → Filed
all_filed = file_by parse

-- a record that is read leaves fewer bytes
abbrev pub Shortens : List ℕ → Read → Type 0
Shortens bs x = (c : Call) (t : List ℕ) → x ≡ Ok (Some (c, t)) → length t < length bs

-- how a run of the file ends: how many calls it has, or its fault with the calls before it
abbrev pub end_by : ℕ → Option ReadFault → Result ℕ RunFault
end_by n None = Ok n
end_by n (Some f) = Err (record { fault = f; done = n })

abbrev pub ended : Filed → Result ℕ RunFault
ended f = end_by (length f.records) f.fault

abbrev pub places_of : Filed → List ℕ
places_of f = map (λ (p : Placed). p.place) f.records

abbrev pub calls_of : Filed → List Call
calls_of f = map (λ (p : Placed). p.call) f.records

-- the file that was read
pub record IsFiled (f : File) (x : Filed) : Type 0 where
  pub places : vec_items f.places ≡ places_of x
  pub calls : vec_items f.calls ≡ calls_of x
  pub end : f.end ≡ ended x

-- ---- runs one after another

-- n bytes and the bytes after them, if there are so many
abbrev pub cut_off : ℕ → List ℕ → Option (List ℕ × List ℕ)
cut_off n bs = cond (nat_le n (length bs)) (Some (take n bs, drop n bs)) None

-- a run after its length in two big-endian bytes, and the bytes after the run
abbrev pub run_off : List ℕ → Option (List ℕ × List ℕ)
run_off bs = cond (nat_le 2 (length bs)) (cut_off (256 * slice_index bs 0 + slice_index bs 1) (drop 2 bs)) None

-- what is lent of the bytes
abbrev pub lent : Option (Bor (List ℕ) × Bor (List ℕ)) → Option (List ℕ × List ℕ)
lent None = None
lent (Some p) = Some (p.0.now, p.1.now)

-- two runs one after the other, or the first of them that the bytes do not have whole
abbrev pub TakesTwoRuns : List ℕ → Result (Bor (List ℕ) × Bor (List ℕ)) CutShort → Type 0
TakesTwoRuns bs (Ok p) = (rest after : List ℕ) × (run_off bs ≡ Some (p.0.now, rest)) × (run_off rest ≡ Some (p.1.now, after))
TakesTwoRuns bs (Err First) = run_off bs ≡ None
TakesTwoRuns bs (Err Second) = (left rest : List ℕ) × (run_off bs ≡ Some (left, rest)) × (run_off rest ≡ None)
