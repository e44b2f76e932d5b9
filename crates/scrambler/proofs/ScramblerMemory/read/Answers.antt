use Rattle.std.proofs.Common.{arith}
use lib.Bits.{bit_xor}
use Rattle.std.proofs.lemmas.Grind.{common_steps}
use Rattle.scrambler.specs.Pads.{pad}
use Rattle.memory.proofs.Places.{length_placed, fetched_placed, fetched_declined}
use Rattle.scrambler.proofs.ScramblerMemory.read.Goals as goal

pub returns-in_err-word-clause-answer : goal.returns-in_err-word-clause-answer
returns-in_err-word-clause-answer g c = grind (arith, common_steps, fetched_declined)

pub returns-clause-answer : goal.returns-clause-answer
returns-clause-answer g c =
    let key = c.args.self.now.key in
    rw c.pad_of.ensures (fetched_placed (λ p w. bit_xor w (pad key p)) (g.M.Memory.words c.args.self.now.below) c.args.place _ c.in_ok-word.ensures.answer)

pub returns-clause-declined : goal.returns-clause-declined
returns-clause-declined g c = λ l. grind (arith, length_placed)
