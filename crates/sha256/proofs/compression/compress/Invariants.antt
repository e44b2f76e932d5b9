use Rattle.std.proofs.Common.{◌≡◌, ◌-◌, length, take}
use Rattle.sha256.specs.Compression.{schedule, rounds, working}
use Rattle.sha256.proofs.compression.compress.Given as goal

abbrev pub invariant-loop-t : goal.invariant-loop-t
invariant-loop-t l = record {
  length : length l.w ≡ 64;
  made : take l.t l.w ≡ schedule (l.t - 16) l.block;
  turned : l.v ≡ rounds l.t (schedule (l.t - 16) l.block) (working l.hash);
}
