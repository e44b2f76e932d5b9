use Rattle.std.proofs.Common.{◌+◌, ◌≤◌, length, drop, vec_items, vec_len, vec_capacity}
use Rattle.runs.proofs.Turns.{GoesOn}
use Rattle.runs.proofs.every.run.Given as goal

abbrev pub invariant-loop-call : goal.invariant-loop-call
invariant-loop-call g l = record {
  goes_on : GoesOn g.M.Memory g.D.Digest.meaning l.calls l.initial.monitor (vec_items l.initial.answers) (drop l.call-index l.calls) l.monitor (vec_items l.answers);
  room : vec_len l.answers + length l.calls ≤ vec_capacity l.answers + l.call-index;
}
