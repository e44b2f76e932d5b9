-- What the answers with drafts stand for, and which draft comes with them.
use Rattle.std.specs.Prelude.{◌≡◌, ℕ, List, [], Ok, Err, Result}
use Rattle.board.specs.declared.Decline.{Decline}
use Rattle.board.specs.Answers.{Reply, accepting, declining, decline_number}
use Rattle.drafts.specs.declared.Draft.{Draft}

-- the answered words of an open: none
abbrev pub draft_words : Draft → List ℕ
draft_words d = []

-- an accepted open hands out the draft of its enclave
abbrev pub HandsOut : ℕ → Result Draft Decline → Type 0
HandsOut e (Ok d) = d.number ≡ e
HandsOut e (Err x) = Unit {0}

-- what the answer to a finish stands for
abbrev pub finish_reply : Result (Unit {0}) (Draft × Decline) → Reply
finish_reply (Ok u) = accepting []
finish_reply (Err (d, x)) = declining (decline_number x)

-- a declined finish gives the draft back
abbrev pub GivesBack : Draft → Result (Unit {0}) (Draft × Decline) → Type 0
GivesBack d (Ok u) = Unit {0}
GivesBack d (Err (back, x)) = back ≡ d
