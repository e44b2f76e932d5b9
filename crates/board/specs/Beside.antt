-- What the laws say of two runs side by side, with one digest and one key.
use Rattle.std.specs.Prelude.{◌≡◌, ℕ, true, List}
use Rattle.digest.specs.Meaning.{Meaning}
use Rattle.board.specs.Questions.{is_enclave_number}
use Rattle.board.specs.Steps.{Event}
use Rattle.board.specs.Sight.{OthersSeeTheSame, APickingHostNoticesTheSame, ACountingHostSeesTheSame, GoUnseen}
use Rattle.board.specs.Lives.{EqualLivesAreAlike, AShorterLifeIsAlikeSoFar, NothingChangesBetweenOwnCalls, ALifeAttestsItsOwnFinish}
use Rattle.board.specs.Measurements.{MeasuredWordsTellEnclavesApart, RangesStayLawful}

-- what others see of two runs that began on equal words
pub record OthersCannotTell (xs ys : List Event) : Type 0 where
  -- if they differ only in an enclave's inward calls, all other answers, and after each call all that others see, are equal
  pub sight : OthersSeeTheSame xs ys
  -- nor can a host tell that looks and then picks its calls
  pub picking : APickingHostNoticesTheSame xs ys
  -- or that counts the enclave's calls too
  pub counting : ACountingHostSeesTheSame xs ys

-- the lives in two runs, which may be one and the same
pub record LivesAgree (xs ys : List Event) : Type 0 where
  -- equal measured words, own calls and outside answers give equal answers and equal private states throughout
  pub alike : EqualLivesAreAlike xs ys
  -- and as far as the shorter goes, if it is a beginning of the other
  pub so_far : AShorterLifeIsAlikeSoFar xs ys
  -- the finishes feed the digest equal words exactly when range, entry address, permissions and page contents are equal
  pub measured : MeasuredWordsTellEnclavesApart xs ys

-- one run by itself
pub record EachRunKeeps (h : Meaning) (key : List ℕ) (xs : List Event) : Type 0 where
  -- an enclave's inward calls leave what others see as it was
  pub unseen : (e : ℕ) → is_enclave_number e ≡ true → GoUnseen e xs
  -- a private state does not change between own calls
  pub still : NothingChangesBetweenOwnCalls xs
  -- an accepted attest in a life answers that life's measurement, and its tag
  pub attested : ALifeAttestsItsOwnFinish h key xs
  -- every range that exists is lawful
  pub ranges : RangesStayLawful xs

-- one of two runs
pub data Side : Type 0 where
  left : Side
  right : Side

abbrev pub of_side : Side → List Event → List Event → List Event
of_side left xs ys = xs
of_side right xs ys = ys

-- All of it, of a run begun on some words and one begun on others.
pub record KeptApart (h : Meaning) (key words others : List ℕ) (xs ys : List Event) : Type 0 where
  pub sight : words ≡ others → OthersCannotTell xs ys
  -- in either run or across both
  pub lives : (a b : Side) → LivesAgree (of_side a xs ys) (of_side b xs ys)
  pub each : (a : Side) → EachRunKeeps h key (of_side a xs ys)
