use Rattle.memory.proofs.Places.{length_placed}
use Rattle.holder.proofs.LineHolderMemory.size.Goals as goal

pub returns : goal.returns
returns g c = rw length_placed c.size.ensures
