use Rattle.board.proofs.Secret.{law_of_choosing_hosts}
use Rattle.board.proofs.laws.a_choosing_host_cannot_tell.Goals as goal

pub returns : goal.returns
returns g c = law_of_choosing_hosts g.D.Digest.meaning
