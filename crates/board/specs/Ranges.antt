-- The range type: what its maker answers.
use Rattle.std.specs.Prelude.{◌≡◌, ℕ, true, false, Some, None, Option}
use Rattle.board.specs.State.{makes_range}
use Rattle.board.specs.declared.range.Range.{Range}

-- the range of these numbers where they make one, and nothing where they do not
abbrev pub Made : ℕ → ℕ → Option Range → Type 0
Made first count (Some r) = (makes_range first count ≡ true) × (r.first ≡ first) × (r.count ≡ count)
Made first count None = makes_range first count ≡ false
