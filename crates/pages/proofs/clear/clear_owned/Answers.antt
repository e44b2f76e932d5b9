use Rattle.std.proofs.Common.{ap, ◌∙◌}
use Rattle.pages.proofs.Sweeps.{kept_turn, wiped_turn}
use Rattle.pages.proofs.clear.clear_owned.Goals as goal
use Rattle.pages.proofs.clear.clear_owned.Goals.{then-owner-number, else-owner-number}

pub loop-frame-preserved : goal.loop-frame-preserved
loop-frame-preserved g c =
    let words = g.M.Memory.words in
    elim c.if-owner-number.branch [
      | then-owner-number w ↦ wiped_turn c.args.owners.now c.args.number (words c.loop-frame.memory) (words c.if-owner-number.memory) _ c.loop-frame.frame c.loop-frame-test.true w.if-owner-number.true (ap words w.memory-is ∙ w.clear_page.ensures) c.loop-frame.invariant.0 c.loop-frame.invariant.1
      | else-owner-number w ↦ kept_turn c.args.owners.now c.args.number (words c.loop-frame.memory) (words c.if-owner-number.memory) _ c.loop-frame.frame c.loop-frame-test.true w.if-owner-number.false (ap words w.memory-is) c.loop-frame.invariant.0 c.loop-frame.invariant.1
    ]
