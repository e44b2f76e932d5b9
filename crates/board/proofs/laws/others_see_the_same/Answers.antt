use Rattle.board.proofs.Secret.{law_of_sight}
use Rattle.board.proofs.laws.others_see_the_same.Goals as goal

pub returns : goal.returns
returns g c = law_of_sight g.D.Digest.meaning
