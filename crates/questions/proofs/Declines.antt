-- A decline is never numbered 0.
use Rattle.std.proofs.Common.{◌≡◌, ℕ, ◌≤◌, Bool, true, false, [], ◌∷◌, Err, refl, arith}
use Rattle.board.specs.declared.Decline.{Decline}
use Rattle.board.specs.declared.Decline.TheVariants.{WrongMemory, WrongParty, OutOfLimits, WrongPhase, WrongSide, NotPermitted, NotEmpty, WrongOwner}
use Rattle.board.specs.Answers.{decline_number}
use Rattle.board.specs.Questions.{ask}
use Rattle.questions.specs.Ruled.{Ruled}

pub at_least_one : (d : Decline) → 1 ≤ decline_number d
at_least_one WrongMemory = omega arith
at_least_one WrongParty = omega arith
at_least_one OutOfLimits = omega arith
at_least_one WrongPhase = omega arith
at_least_one WrongSide = omega arith
at_least_one NotPermitted = omega arith
at_least_one NotEmpty = omega arith
at_least_one WrongOwner = omega arith

-- a decline at one question says that its answer was no
pub was_no : {A : Type 0} (n : ℕ) (yes : Bool) (x : A) (d : Decline) → Ruled (ask n yes ∷ []) x (Err d) → (yes ≡ false) × (decline_number d ≡ n)
was_no n true x d r = absurd (omega (arith, at_least_one d, r.number))
was_no n false x d r = (refl, r.number)
