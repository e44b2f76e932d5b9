use Rattle.std.proofs.Common.{◌≡◌, ◌*◌, take, drop}
use Rattle.pages.specs.Fed.{Fed}
use Rattle.pages.proofs.measure.feed_page.Given as goal

abbrev pub invariant-loop-offset : goal.invariant-loop-offset
invariant-loop-offset g l =
    let d = g.D.Digest in
    Fed d.meaning (d.state l.initial.digest) (d.count l.initial.digest) (take l.offset (drop (64 * l.frame) (g.M.Memory.words l.initial.memory))) (d.state l.digest) (d.count l.digest)
    × (g.M.Memory.words l.memory ≡ g.M.Memory.words l.initial.memory)
