use Rattle.std.proofs.Common.{arith}
use Rattle.memory.proofs.Pictures.{fetched_there, fetched_here}
use Rattle.memory.proofs.image.ImageMemoryMemory.read.Goals as goal

pub returns-then-self-place-clause-answer : goal.returns-then-self-place-clause-answer
returns-then-self-place-clause-answer c = grind (arith, fetched_there)

pub returns-else-self-place-clause-answer : goal.returns-else-self-place-clause-answer
returns-else-self-place-clause-answer c = grind (arith, fetched_here)
