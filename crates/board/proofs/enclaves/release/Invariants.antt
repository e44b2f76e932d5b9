use Rattle.std.proofs.Common.{◌≡◌, ◌++◌, take, drop}
use Rattle.board.specs.Effects.{released}
use Rattle.board.proofs.enclaves.release.Given as goal

abbrev pub invariant-loop-owner : goal.invariant-loop-owner
invariant-loop-owner l = take l.owner-index l.owners ++ released (drop l.owner-index l.owners) l.number ≡ released l.initial.owners l.number
