-- All laws over whole runs of the bare board, with a digest of one meaning.
use Rattle.digest.specs.Meaning.{Meaning}
use Rattle.board.specs.Sight.{LawOfSight, LawOfChoosingHosts}
use Rattle.board.specs.Lives.{LawOfLives, LawOfAttestations}
use Rattle.board.specs.Measurements.{LawOfMeasurements, LawOfRanges}

pub record Laws (h : Meaning) : Type 0 where
  -- what an enclave does inward, nobody else can tell
  pub sight : LawOfSight h
  -- nor a host that looks and then chooses
  pub choosing_hosts : LawOfChoosingHosts h
  -- what is not an enclave's own call does not disturb its life
  pub lives : LawOfLives h
  -- equal measured words are equal enclaves, and the other way round
  pub measurements : LawOfMeasurements h
  -- what a life attests is the measurement of its own finish
  pub attestations : LawOfAttestations h
  -- every range that exists is lawful
  pub ranges : LawOfRanges h
