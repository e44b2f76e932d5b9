-- The lines that a holder keeps, and what they mean over the list below. Assumes nothing.
use Rattle.std.specs.Prelude.{◌≡◌, ℕ, ◌+◌, ◌*◌, ◌/◌, ◌%◌, ◌^◌, ◌<◌, ◌≤◌, Bool, false, cond, List, map, length, Some, None, Option, ◌==◌, nat_le, slice_index, slice_index_or, slice_set}
use Rattle.memory.specs.Placed.{placed}
use Rattle.holder.specs.declared.slots.Line.{Line}

-- the line of a place
abbrev pub line_of : ℕ → ℕ
line_of p = p / 16

-- the slot of a place
abbrev pub slot_of : ℕ → ℕ
slot_of p = p / 64 % 8

-- whether the line of a place lies below the size whole
abbrev pub whole : ℕ → ℕ → Bool
whole size p = nat_le (line_of p * 16 + 16) size

-- which line each slot holds after an access to a place, by which it held before and the size:
-- the access takes its line in, but a line that would pass the end is not held
abbrev pub held_next : List (Option ℕ) → ℕ → ℕ → List (Option ℕ)
held_next held size p = cond (whole size p) (slice_set held (slot_of p) (Some (line_of p))) held

-- every line that is held lies below the size whole
abbrev pub Within : ℕ → List (Option ℕ) → Type 0
Within size held = (s n : ℕ) → slice_index_or held s None ≡ Some n → n * 16 + 16 ≤ size

-- the number of the line in a slot
abbrev pub number_in : Option Line → Option ℕ
number_in None = None
number_in (Some line) = Some line.number

-- which line each slot holds
abbrev pub held_lines : List (Option Line) → List (Option ℕ)
held_lines lines = map number_in lines

-- whether a slot holds the line n
abbrev pub is_line : Option Line → ℕ → Bool
is_line None n = false
is_line (Some line) n = line.number == n

-- whether the line of a place is held
abbrev pub holds : List (Option Line) → ℕ → Bool
holds lines p = is_line (slice_index_or lines (slot_of p) None) (line_of p)

-- the k-th word of the line in a slot
abbrev pub word_in : Option Line → ℕ → ℕ
word_in None k = 0
word_in (Some line) k = slice_index line.words k

-- the word at a place where the list below has w: the held line's, else w
abbrev pub laid : List (Option Line) → ℕ → ℕ → ℕ
laid lines p w = cond (holds lines p) (word_in (slice_index_or lines (slot_of p) None) (p % 16)) w

-- the words that a holder means: the list below with the held lines laid over it
abbrev pub overlaid : List (Option Line) → List ℕ → List ℕ
overlaid lines ws = placed (laid lines) ws

-- each held line belongs to its slot
abbrev pub Own : List (Option Line) → Type 0
Own lines = (i : ℕ) (line : Line) → slice_index_or lines i None ≡ Some line → slot_of (line.number * 16) ≡ i

-- its places are numbers of 64 bits
abbrev pub Small : List (Option Line) → Type 0
Small lines = (i : ℕ) (line : Line) → slice_index_or lines i None ≡ Some line → line.number < 2 ^ 60

-- and it has 16 words
abbrev pub Full : List (Option Line) → Type 0
Full lines = (i : ℕ) (line : Line) → slice_index_or lines i None ≡ Some line → length line.words ≡ 16

-- all three
pub record Sound (lines : List (Option Line)) : Type 0 where
  pub own : Own lines
  pub small : Small lines
  pub full : Full lines
