use Rattle.std.proofs.Common.{arith}
use Rattle.memory.proofs.Copies.{filled_part}
use Rattle.memory.proofs.image.copy_words.Goals as goal

pub returns : goal.returns
returns c = grind (arith, filled_part)
