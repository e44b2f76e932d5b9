use Rattle.std.proofs.Common.{◌≡◌, ◌++◌, map, vec_items}
use Rattle.board.specs.Answers.{reply_of}
use Rattle.sight.specs.Marks.{at_start, marks_from}
use Rattle.sight.proofs.watch.inward_marks.Given as goal

abbrev pub invariant-loop-call : goal.invariant-loop-call
invariant-loop-call g l =
    vec_items l.marks ++ marks_from l.enclave l.watch l.call-iterator.a.rest.now (map reply_of l.call-iterator.b.rest.now)
    ≡ marks_from l.enclave at_start l.run.calls.now (map reply_of l.run.answers.now)
