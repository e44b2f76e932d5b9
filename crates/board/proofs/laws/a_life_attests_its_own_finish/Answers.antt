use Rattle.board.proofs.Undisturbed.{law_of_attestations}
use Rattle.board.proofs.laws.a_life_attests_its_own_finish.Goals as goal

pub returns : goal.returns
returns g c = law_of_attestations g.D.Digest.meaning
