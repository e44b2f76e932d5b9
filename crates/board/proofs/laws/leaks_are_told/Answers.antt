use Rattle.board.proofs.Leaks.{leaks}
use Rattle.board.proofs.laws.leaks_are_told.Goals as goal

pub returns : goal.returns
returns c = leaks
