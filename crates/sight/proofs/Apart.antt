-- The first place where two runs differ, in terms of their events.
use Rattle.std.proofs.Common.{◌≡◌, ℕ, ◌+◌, Bool, true, cond, ◌⊎◌, ◌↔◌, List, [], ◌∷◌, map, Some, None, Decides, Option, rules, tests}
use Rattle.std.specs.List.{zip}
use Rattle.board.specs.declared.Answer.{Answer}
use Rattle.board.specs.declared.Call.{Call}
use Rattle.board.specs.Answers.{Reply, reply_of}
use Rattle.board.specs.Steps.{Event, replies}
use Rattle.board.specs.Sight.{inward, DifferOnlyInward}
use Rattle.sight.specs.Places.{apart_from, first_place_apart}
use Rattle.sight.specs.Calls.{same_or_inward, TellsOtherCalls}
use Rattle.sight.specs.Answers.{same_told, told, TellsAnswersApart}

-- no place is found exactly where the first are alike and none is found after them
none_both : {P Q : Type 0} (b : Bool) (o : Option ℕ) (i : ℕ) → Decides b P → (o ≡ None) ↔ Q → (cond b o (Some i) ≡ None) ↔ (P × Q)
none_both b o i d k = search (rules, tests)

-- ---- calls

same_or_inward_decides : (c d : Call) (m n : Bool) → Decides (same_or_inward (c, m) (d, n)) ((c ≡ d) ⊎ ((m ≡ true) × (n ≡ true)))
same_or_inward_decides c d m n = search (rules, tests)

only_inward : (e i : ℕ) (xs ys : List Event) → (apart_from same_or_inward i (zip (map (λ x. x.call) xs) (map (inward e) xs)) (zip (map (λ y. y.call) ys) (map (inward e) ys)) ≡ None) ↔ DifferOnlyInward e xs ys
only_inward e i [] [] = search (rules, tests)
only_inward e i [] (y ∷ ys) = search (rules, tests)
only_inward e i (x ∷ xs) [] = search (rules, tests)
only_inward e i (x ∷ xs) (y ∷ ys) =
    none_both _ _ i (same_or_inward_decides x.call y.call (inward e x) (inward e y)) (only_inward e (i + 1) xs ys)

pub other_calls_told : (left : List Call) (ms : List Bool) (right : List Call) (ns : List Bool) (r : Option ℕ) → r ≡ first_place_apart same_or_inward left ms right ns → TellsOtherCalls left ms right ns r
other_calls_told left ms right ns r q e xs ys p p' =
    rw (q, p.0, p.1, p'.0, p'.1) (only_inward e 0 xs ys)

-- ---- answers

-- what others are answered to one call
abbrev told_once : Bool → Reply → List Reply
told_once m r = cond m [] (r ∷ [])

same_told_decides : (m n : Bool) (a b : Answer) → Decides (same_told (a, m) (b, n)) (told_once m (reply_of a) ≡ told_once n (reply_of b))
same_told_decides m n a b = search (rules, tests)

-- what others are answered, from answers with marks
abbrev told_by : List (Answer × Bool) → List (List Reply)
told_by [] = []
told_by (p ∷ ps) = told_once p.1 (reply_of p.0) ∷ told_by ps

told_of : (e : ℕ) (answers : List Answer) (xs : List Event) → map reply_of answers ≡ replies xs → told_by (zip answers (map (inward e) xs)) ≡ told e xs
told_of e [] [] q = search (rules, tests)
told_of e [] (x ∷ xs) q = search (rules, tests)
told_of e (a ∷ rest) [] q = search (rules, tests)
told_of e (a ∷ rest) (x ∷ xs) q = let h : told_by (zip rest (map (inward e) xs)) ≡ told e xs = told_of e rest xs (cc) in search (rules, tests)

told_alike : (i : ℕ) (ps qs : List (Answer × Bool)) → (apart_from same_told i ps qs ≡ None) ↔ (told_by ps ≡ told_by qs)
told_alike i [] [] = search (rules, tests)
told_alike i [] (q ∷ qs) = search (rules, tests)
told_alike i (p ∷ ps) [] = search (rules, tests)
told_alike i (p ∷ ps) (q ∷ qs) = let h = none_both _ _ i (same_told_decides p.1 q.1 p.0 q.0) (told_alike (i + 1) ps qs) in search (rules, tests)

pub answers_told : (left : List Answer) (ms : List Bool) (right : List Answer) (ns : List Bool) (r : Option ℕ) → r ≡ first_place_apart same_told left ms right ns → TellsAnswersApart left ms right ns r
answers_told left ms right ns r q e xs ys p p' =
    rw (q, p.1, p'.1, ← told_of e left xs p.0, ← told_of e right ys p'.0) (told_alike 0 (zip left (map (inward e) xs)) (zip right (map (inward e) ys)))
