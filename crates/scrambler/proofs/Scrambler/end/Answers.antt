use Rattle.std.proofs.Common.{sym}
use Rattle.scrambler.proofs.Under.{padded_twice}
use Rattle.scrambler.proofs.Scrambler.end.Goals as goal

pub returns-clause-words : goal.returns-clause-words
returns-clause-words g c = sym (padded_twice c.args.self.key (g.M.Memory.words c.args.self.below))
