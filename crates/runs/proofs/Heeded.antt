-- The calls that are heeded are those before the first that is not made.
use Rattle.std.proofs.Common.{◌≡◌, ℕ, ◌<◌, true, false, cond, List, [], ◌∷◌, length, take, Option, refl, ap, MatchOption, arith}
use Rattle.std.specs.List.{AllWithin, HoldsAt}
use Rattle.std.specs.Option.{unwrap_or}
use Rattle.std.proofs.lemmas.Iterator.{index_from_first}
use Rattle.board.specs.declared.Call.{Call}
use Rattle.runs.specs.Runs.{in_gate, heeded}

front : (cs : List Call) → take (length (heeded cs)) cs ≡ heeded cs
front [] = refl
front (c ∷ cs) = elim (in_gate c) as (λ b. take (length (cond b (c ∷ heeded cs) [])) (c ∷ cs) ≡ cond b (c ∷ heeded cs) []) [ true ↦ ap (λ (ds : List Call). c ∷ ds) (front cs) | false ↦ refl ]

pub heeded_is : (cs : List Call) (r : Option ℕ) → MatchOption r (AllWithin (λ c. in_gate c ≡ true) cs 0 (length cs)) (λ i. (i < length cs) × HoldsAt (λ c. in_gate c ≡ false) cs i × AllWithin (λ c. in_gate c ≡ true) cs 0 i) → take (unwrap_or r (length cs)) cs ≡ heeded cs
heeded_is cs r first =
    let n : length (heeded cs) ≡ unwrap_or r (length cs) =
    index_from_first (λ ds. length (heeded ds)) (λ c. in_gate c ≡ false) (λ c. in_gate c ≡ true) refl (λ x xs e. rw e refl) (λ x xs e. rw e (omega arith)) cs r first in
    rw (← n) (front cs)
