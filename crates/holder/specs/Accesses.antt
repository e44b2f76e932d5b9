-- What the slots hold and what the list below is after each access to a holder. Assumes nothing.
use Rattle.std.specs.Prelude.{ℕ, ◌*◌, ◌%◌, Bool, false, cond, List, length, take, drop, Some, None, Option, nat_lt, slice_index, slice_index_or, slice_set}
use Rattle.memory.specs.Fills.{filled}
use Rattle.holder.specs.declared.slots.Line.{Line}
use Rattle.holder.specs.Lines.{line_of, slot_of, whole, holds}

-- the line n as a list has it
abbrev pub line_at : List ℕ → ℕ → Line
line_at ws n = record { number = n; words = take 16 (drop (n * 16) ws) }

-- the list below once all 16 words of a slot's line are written down, changed or not
abbrev pub written_down : Option Line → List ℕ → List ℕ
written_down None ws = ws
written_down (Some line) ws = filled ws (line.number * 16) (λ k. slice_index line.words k) 16

-- whether an access takes the line of its place in: it is not held yet, and does not pass the end
abbrev pub takes : List (Option Line) → ℕ → ℕ → Bool
takes lines size p = cond (holds lines p) false (whole size p)

-- the list below once the line of a place is taken in: the line that was in the slot is written down
abbrev pub below_next : List (Option Line) → List ℕ → ℕ → List ℕ
below_next lines ws p = cond (takes lines (length ws) p) (written_down (slice_index_or lines (slot_of p) None) ws) ws

-- the slots once the line of a place is taken in
abbrev pub slots_next : List (Option Line) → List ℕ → ℕ → List (Option Line)
slots_next lines ws p =
    cond (takes lines (length ws) p) (slice_set lines (slot_of p) (Some (line_at (written_down (slice_index_or lines (slot_of p) None) ws) (line_of p)))) lines

-- what a slot holds after the k-th word of its line is replaced
abbrev pub put_in : Option Line → ℕ → ℕ → Option Line
put_in None k w = None
put_in (Some line) k w = Some (record { number = line.number; words = slice_set line.words k w })

-- the slots after a word is put at a place: it goes to the line, where that is held
abbrev pub put : List (Option Line) → ℕ → ℕ → List (Option Line)
put lines p w = cond (holds lines p) (slice_set lines (slot_of p) (put_in (slice_index_or lines (slot_of p) None) (p % 16) w)) lines

-- the slots after a write, which takes the line in and then puts the word
abbrev pub slots_written : List (Option Line) → List ℕ → ℕ → ℕ → List (Option Line)
slots_written lines ws p w = cond (nat_lt p (length ws)) (put (slots_next lines ws p) p w) lines

-- the list below after a write: where the line is held the word stays in the slot, else it goes straight below
abbrev pub below_written : List (Option Line) → List ℕ → ℕ → ℕ → List ℕ
below_written lines ws p w = cond (holds (slots_next lines ws p) p) (below_next lines ws p) (slice_set (below_next lines ws p) p w)
