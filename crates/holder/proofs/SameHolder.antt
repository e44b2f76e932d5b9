-- Two holders with the same fields are one: the facts of their slots have at most one proof each.
use Rattle.std.proofs.Common.{◌≡◌, List, Option, ap, ◌∙◌}
use Rattle.std.proofs.Props.{props}
use Rattle.holder.specs.declared.slots.Line.{Line}
use Rattle.holder.specs.Lines.{Own, Small, Full}

pub same_facts : {X : Type 0} (lines : List (Option Line)) (make : Own lines → Small lines → Full lines → X) (o o' : Own lines) (s s' : Small lines) (f f' : Full lines) → make o s f ≡ make o' s' f'
same_facts lines make o o' s s' f f' =
    let own : IsProp (Own lines) = hlevel props in
    let small : IsProp (Small lines) = hlevel props in
    let full : IsProp (Full lines) = hlevel props in
    ap (λ x. make x s f) (own o o') ∙ ap (λ x. make o' x f) (small s s') ∙ ap (λ x. make o' s' x) (full f f')
