use Rattle.std.proofs.Common.{◌≡◌, length}
use Rattle.sha256.specs.Compression.{rounds, working}
use Rattle.sha256.proofs.compression.first_rounds.Given as goal

abbrev pub invariant-loop-k : goal.invariant-loop-k
invariant-loop-k l = l.v ≡ rounds (length l.yielded) l.block (working l.hash)
