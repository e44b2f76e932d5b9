use Rattle.board.proofs.Examples.{hosts_choose}
use Rattle.board.proofs.laws.hosts_choose_alike.Goals as goal

pub returns : goal.returns
returns c = hosts_choose
