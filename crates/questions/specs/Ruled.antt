-- What the code that puts the questions answers.
use Rattle.std.specs.Prelude.{◌≡◌, List, IfOk, Result}
use Rattle.board.specs.declared.Decline.{Decline}
use Rattle.board.specs.Answers.{code}
use Rattle.board.specs.Questions.{Question, first_no}

-- x if every question is answered yes, else the decline of the first no
pub record Ruled {A : Type 0} (qs : List Question) (x : A) (r : Result A Decline) : Type 0 where
  pub number : code r ≡ first_no qs
  pub value : IfOk r (λ y. y ≡ x)
