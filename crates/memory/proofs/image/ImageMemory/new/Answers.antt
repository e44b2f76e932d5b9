use Rattle.memory.proofs.Pictures.{uncopied_means}
use Rattle.memory.proofs.image.ImageMemory.new.Goals as goal

pub returns-clause-means : goal.returns-clause-means
returns-clause-means c = uncopied_means c.args.image.now c.args.area.now
