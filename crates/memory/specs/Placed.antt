-- A list of words, each changed by a rule that knows its place. Assumes nothing.
use Rattle.std.specs.Prelude.{ℕ, List, map, length, slice_index}
use Rattle.std.specs.List.{range_with_len}

-- the list whose word at each place p is f p of the word there
unfoldable pub placed : (ℕ → ℕ → ℕ) → List ℕ → List ℕ
placed f ws = map (λ p. f p (slice_index ws p)) (range_with_len 0 (length ws))
