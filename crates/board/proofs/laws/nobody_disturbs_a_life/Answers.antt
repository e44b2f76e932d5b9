use Rattle.board.proofs.Undisturbed.{law_of_lives}
use Rattle.board.proofs.laws.nobody_disturbs_a_life.Goals as goal

pub returns : goal.returns
returns g c = law_of_lives g.D.Digest.meaning
