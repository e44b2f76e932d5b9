-- All laws, of all runs.
use Rattle.digest.specs.Meaning.{Meaning}
use Rattle.board.specs.Laws.{Laws}
use Rattle.board.proofs.Finishes.{law_of_measurements, law_of_ranges}
use Rattle.board.proofs.Secret.{law_of_sight, law_of_choosing_hosts}
use Rattle.board.proofs.Undisturbed.{law_of_lives, law_of_attestations}

pub laws : (h : Meaning) → Laws h
laws h =
    record {
      sight = law_of_sight h;
      choosing_hosts = law_of_choosing_hosts h;
      lives = law_of_lives h;
      measurements = law_of_measurements h;
      attestations = law_of_attestations h;
      ranges = law_of_ranges h;
    }
