use Rattle.std.proofs.Common.{◌≡◌, ℕ, ◌+◌, ◌*◌, ◌<◌, length, get_or}
use Rattle.holder.proofs.slots.Line.take_in.Given as goal

abbrev pub invariant-loop-k : goal.invariant-loop-k
invariant-loop-k g l = record {
  below : g.M.Memory.words l.below ≡ g.M.Memory.words l.initial.below;
  length : length l.word-items ≡ 16;
  read : (j : ℕ) → j < l.k → get_or l.word-items j 0 ≡ get_or (g.M.Memory.words l.initial.below) (l.number * 16 + j) 0;
}
