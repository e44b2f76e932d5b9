use Rattle.board.proofs.Examples.{two_secrets}
use Rattle.board.proofs.laws.two_secrets_look_alike.Goals as goal

pub returns : goal.returns
returns c = two_secrets
