-- What one slot holds after an access to a line, and what it lends. Assumes nothing.
use Rattle.std.specs.Prelude.{ℕ, ◌+◌, ◌*◌, Bool, false, cond, List, length, Some, None, Option, nat_le}
use Rattle.std.specs.Borrow.{LendsIf, MutBor, Fml}
use Rattle.std.specs.contracts.option.Option.{the_row as option_row}
use Rattle.holder.specs.declared.slots.Line.{Line}
use Rattle.holder.specs.contracts.slots.Line.{the_row as line_row}
use Rattle.holder.specs.Lines.{is_line}
use Rattle.holder.specs.Accesses.{line_at, written_down}

-- whether the line n is taken into a slot: it is not there yet, and does not pass the end
abbrev pub takes_line : Option Line → ℕ → ℕ → Bool
takes_line o size n = cond (is_line o n) false (nat_le (n * 16 + 16) size)

-- the line n in its slot after that, if it is there
abbrev pub line_next : Option Line → List ℕ → ℕ → Option Line
line_next o ws n = cond (is_line o n) o (cond (nat_le (n * 16 + 16) (length ws)) (Some (line_at (written_down o ws) n)) None)

-- once the line r is let go of, the slot s has it, and with no line it stays as it was
abbrev pub lends_line : MutBor (Option Line) → Option (MutBor Line) → Fml
lends_line s r = LendsIf (option_row line_row) line_row s r (λ line. Some line) s.now
