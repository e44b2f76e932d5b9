use Rattle.memory.proofs.Pictures.{area_holds}
use Rattle.memory.proofs.image.ImageMemory.into_area.Goals as goal

pub returns-clause-words : goal.returns-clause-words
returns-clause-words c = area_holds c.args.self.image.now c.args.self.area.now c.args.self.copied
