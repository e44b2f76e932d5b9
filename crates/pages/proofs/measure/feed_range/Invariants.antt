use Rattle.std.proofs.Common.{◌≡◌, ◌+◌, ◌-◌, ◌*◌, ◌≤◌}
use Rattle.board.specs.Measures.{measured_pages}
use Rattle.pages.specs.Fed.{Fed}
use Rattle.pages.proofs.measure.feed_range.Given as goal

abbrev pub invariant-loop-page : goal.invariant-loop-page
invariant-loop-page g l =
    let d = g.D.Digest in
    Fed d.meaning (d.state l.initial.digest) (d.count l.initial.digest) (measured_pages (record { board = l.board; words = g.M.Memory.words l.initial.memory }) l.number l.first (l.page - l.first)) (d.state l.digest) (d.count l.digest)
    × (d.count l.digest ≤ d.count l.initial.digest + 65 * (l.page - l.first))
    × (g.M.Memory.words l.memory ≡ g.M.Memory.words l.initial.memory)
