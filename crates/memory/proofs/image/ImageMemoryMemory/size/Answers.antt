use Rattle.std.proofs.Common.{arith}
use Rattle.memory.proofs.Pictures.{length_pictured}
use Rattle.memory.proofs.image.ImageMemoryMemory.size.Goals as goal

pub returns-clause-value : goal.returns-clause-value
returns-clause-value c = omega (arith, length_pictured)
