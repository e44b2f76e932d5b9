-- Calls compared.
use Rattle.std.specs.Prelude.{◌≡◌, ℕ, Bool, ◌&&◌, ◌||◌, ◌↔◌, List, ◌++◌, map, take, replicate, None, Option, ◌==◌}
use Rattle.std.specs.Str.{bytes_eq as same_numbers}
use Rattle.board.specs.declared.Call.{Call}
use Rattle.board.specs.Steps.{Event}
use Rattle.board.specs.Sight.{inward, DifferOnlyInward}
use Rattle.records.specs.Kinds.{layout, kind_of}

-- the fields of a call in order, then zeros: four numbers
abbrev pub fields_in_order : Call → List ℕ
fields_in_order c = take 4 (map (λ f. f.1) (layout c).fields ++ replicate 4 0)

-- the calls are equal: of one kind, with equal fields
abbrev pub same_call : Call → Call → Bool
same_call c d = kind_of c == kind_of d && same_numbers (fields_in_order c) (fields_in_order d)

-- two calls with their marks: equal, or both marked
abbrev pub same_or_inward : Call × Bool → Call × Bool → Bool
same_or_inward c d = same_call c.0 d.0 || (c.1 && d.1)

-- the calls of these events, marked where they are inward calls of e
abbrev pub MarkedCalls : ℕ → List Event → List Call → List Bool → Type 0
MarkedCalls e xs calls marks = (calls ≡ map (λ x. x.call) xs) × (marks ≡ map (inward e) xs)

-- of any two lists of events that have these calls and marks: no place was found exactly when they differ only in inward calls
abbrev pub TellsOtherCalls : List Call → List Bool → List Call → List Bool → Option ℕ → Type 0
TellsOtherCalls left ms right ns found =
    (e : ℕ) (xs ys : List Event)
    → MarkedCalls e xs left ms
    → MarkedCalls e ys right ns
    → (found ≡ None) ↔ DifferOnlyInward e xs ys
