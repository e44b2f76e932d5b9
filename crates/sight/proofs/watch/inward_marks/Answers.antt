use Rattle.std.proofs.Common.{◌≡◌, map, vec_items, arith}
use Rattle.std.proofs.lemmas.Grind.{common_steps}
use Rattle.board.specs.Answers.{reply_of}
use Rattle.sight.specs.Marks.{at_start, marks_from}
use Rattle.sight.proofs.Watching.{no_calls_left, inward_calls_told}
use Rattle.sight.proofs.watch.inward_marks.Goals as goal

pub returns : goal.returns
returns g c =
    let marks : vec_items c.loop-call.marks ≡ marks_from c.args.enclave at_start c.args.run.calls.now (map reply_of c.args.run.answers.now) = grind (arith, common_steps, no_calls_left) in
    record { marks = marks; inward = inward_calls_told g.D.Digest.meaning _ _ _ _ marks }
