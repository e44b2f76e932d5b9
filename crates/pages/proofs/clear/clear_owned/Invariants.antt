use Rattle.std.proofs.Common.{◌≡◌, ◌*◌, ◌++◌, length, take, drop}
use Rattle.board.specs.Effects.{cleared_words}
use Rattle.pages.proofs.clear.clear_owned.Given as goal

-- the words so far, and what the rest of the owners makes of the words to come
abbrev pub invariant-loop-frame : goal.invariant-loop-frame
invariant-loop-frame g l =
    let now = g.M.Memory.words l.memory in
    (length now ≡ 64 * length l.owners)
    × (take (64 * l.frame) now ++ cleared_words (drop l.frame l.owners) l.number (drop (64 * l.frame) now)
    ≡ cleared_words l.owners l.number (g.M.Memory.words l.initial.memory))
