use Rattle.std.proofs.Common.{◌≡◌, ◌*◌, get_or}
use Rattle.memory.specs.Fills.{filled}
use Rattle.holder.proofs.slots.Line.write_down.Given as goal

abbrev pub invariant-loop-k : goal.invariant-loop-k
invariant-loop-k g l = g.M.Memory.words l.below ≡ filled (g.M.Memory.words l.initial.below) (l.self.number * 16) (λ k. get_or l.self.words k 0) l.k
