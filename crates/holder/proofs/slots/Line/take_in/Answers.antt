use Rattle.std.proofs.Common.{arith}
use Rattle.holder.proofs.Steps.{line_read}
use Rattle.holder.proofs.slots.Line.take_in.Goals as goal

pub returns-clause-line : goal.returns-clause-line
returns-clause-line g c = line_read (g.M.Memory.words c.args.below.now) c.loop-k.word-items c.args.number c.loop-k.k (omega arith) (omega arith) c.loop-k.invariant.length c.loop-k.invariant.read
