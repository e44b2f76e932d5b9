use Rattle.std.proofs.Common.{◌≡◌, ◌*◌, replicate}
use lib.Seq.{paste}
use Rattle.pages.proofs.clear.clear_page.Given as goal

abbrev pub invariant-loop-offset : goal.invariant-loop-offset
invariant-loop-offset g l = g.M.Memory.words l.memory ≡ paste (g.M.Memory.words l.initial.memory) (64 * l.frame) (replicate l.offset 0) l.offset
