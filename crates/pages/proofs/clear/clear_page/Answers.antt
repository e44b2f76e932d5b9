use Rattle.std.proofs.Common.{ℕ, ◌+◌, ◌*◌, ◌<◌, List, length, set, ap, ◌∙◌, arith}
use Rattle.std.proofs.lemmas.List.Edits.{fill_from_more}
use Rattle.pages.proofs.clear.clear_page.Goals as goal

pub loop-offset-preserved : goal.loop-offset-preserved
loop-offset-preserved g c =
    let ws = g.M.Memory.words c.args.memory.now in
    let i = c.loop-offset.offset in
    let h : 64 * c.args.frame + i < length ws = omega arith in
    c.write.ensures.after ∙ ap (λ (r : List ℕ). set r (64 * c.args.frame + i) 0) c.loop-offset.invariant ∙ fill_from_more ws (64 * c.args.frame) i 0 h
