-- Answers compared as others than an enclave get them.
use Rattle.std.specs.Prelude.{◌≡◌, ℕ, Bool, cond, not, ◌&&◌, ◌↔◌, List, map, None, Option, ◌==◌}
use Rattle.std.specs.Str.{bytes_eq as same_numbers}
use Rattle.board.specs.declared.Answer.{Answer}
use Rattle.board.specs.Answers.{Reply, reply_of}
use Rattle.board.specs.Steps.{Event, replies}
use Rattle.board.specs.Sight.{inward, sightings}

-- the same number and the same words
abbrev pub same_reply : Reply → Reply → Bool
same_reply r s = r.number == s.number && same_numbers r.words s.words

-- two answers with their marks: both marked, or neither and the same
abbrev pub same_told : Answer × Bool → Answer × Bool → Bool
same_told a b = cond a.1 b.1 (not b.1 && same_reply (reply_of a.0) (reply_of b.0))

-- the answers of these events, marked where they answer inward calls of e
abbrev pub MarkedAnswers : ℕ → List Event → List Answer → List Bool → Type 0
MarkedAnswers e xs answers marks = (map reply_of answers ≡ replies xs) × (marks ≡ map (inward e) xs)

-- what others than e are answered, call by call
abbrev pub told : ℕ → List Event → List (List Reply)
told e xs = map (λ s. s.answered) (sightings e xs)

-- of any two lists of events that have these answers and marks: no place was found exactly when others are answered the same
abbrev pub TellsAnswersApart : List Answer → List Bool → List Answer → List Bool → Option ℕ → Type 0
TellsAnswersApart left ms right ns found =
    (e : ℕ) (xs ys : List Event)
    → MarkedAnswers e xs left ms
    → MarkedAnswers e ys right ns
    → (found ≡ None) ↔ (told e xs ≡ told e ys)
