use Rattle.std.proofs.Common.{List, ◌++◌, ℕ, string_bytes, sym, ap, ◌∙◌, append-nil}
use Rattle.logs.proofs.Ends.{lines_over}
use Rattle.logs.proofs.push_answers.Goals as goal

pub returns : goal.returns
returns c =
    let over = lines_over c.loop-place.place-iterator c.next.new.self _ c.in-None.is c.next.ensures.steps in
    sym (append-nil _) ∙ ap (λ (t : List ℕ). string_bytes c.loop-place.text ++ t) (sym over) ∙ c.loop-place.invariant
