use Rattle.std.proofs.Common.{arith}
use Rattle.memory.proofs.Places.{length_placed, stored_placed}
use Rattle.scrambler.proofs.Under.{padded_set}
use Rattle.scrambler.proofs.ScramblerMemory.write.Goals as goal

pub returns-clause-answer : goal.returns-clause-answer
returns-clause-answer g c = grind (arith, stored_placed)

pub returns-clause-after : goal.returns-clause-after
returns-clause-after g c =
    rw (c.write.ensures.after, c.pad_of.ensures) (padded_set c.args.self.now.key (g.M.Memory.words c.args.self.now.below) c.args.place c.args.word)

pub returns-clause-declined : goal.returns-clause-declined
returns-clause-declined g c = λ l. grind (arith, length_placed)
