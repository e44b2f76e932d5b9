use Rattle.board.proofs.Proved.{laws}
use Rattle.board.proofs.laws.laws_hold.Goals as goal

pub returns : goal.returns
returns g c = laws g.D.Digest.meaning
