use Rattle.board.proofs.Finishes.{law_of_ranges}
use Rattle.board.proofs.laws.ranges_stay_lawful.Goals as goal

pub returns : goal.returns
returns g c = law_of_ranges g.D.Digest.meaning
