use Rattle.board.proofs.NothingElse.{nothing_else_is_hidden}
use Rattle.board.proofs.laws.nothing_else_is_hidden.Goals as goal

pub returns : goal.returns
returns g c = nothing_else_is_hidden g.D.Digest.meaning
