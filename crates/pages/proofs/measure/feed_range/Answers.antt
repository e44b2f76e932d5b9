use Rattle.std.proofs.Common.{◌∙◌, arith}
use Rattle.board.specs.State.{State}
use Rattle.pages.proofs.Feeds.{turn_page, page_short}
use Rattle.pages.proofs.measure.feed_range.Goals as goal

pub loop-page-preserved : goal.loop-page-preserved
loop-page-preserved g c =
    let held = g.M.Memory.words c.loop-page.memory in
    let at : State = record { board = c.args.board.now; words = held } in (
      turn_page g.D.Digest.meaning c.args.board.now _ held c.args.number c.first-first.result c.loop-page.page c.loop-page.invariant.2 (omega arith) c.loop-page.invariant.0 c.feed_entry.ensures.fed,
      omega (arith, c.feed_entry.ensures.fed.count, c.loop-page.invariant.1, page_short at c.args.number c.loop-page.page),
      c.feed_entry.ensures.same ∙ c.loop-page.invariant.2,
    )
