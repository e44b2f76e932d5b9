use Rattle.board.proofs.Examples.{cut_short}
use Rattle.board.proofs.laws.a_life_is_cut_short.Goals as goal

pub returns : goal.returns
returns c = cut_short
