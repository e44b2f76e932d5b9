use Rattle.board.proofs.Finishes.{law_of_measurements}
use Rattle.board.proofs.laws.measured_words_tell_enclaves_apart.Goals as goal

pub returns : goal.returns
returns g c = law_of_measurements g.D.Digest.meaning
