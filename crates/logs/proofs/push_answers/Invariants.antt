use Rattle.std.proofs.Common.{◌≡◌, ◌++◌, map, string_bytes}
use Rattle.std.specs.Slice.Iter.{iter_rest}
use Rattle.board.specs.Answers.{reply_of}
use Rattle.logs.specs.Text.{answer_lines}
use Rattle.logs.proofs.push_answers.Given as goal

-- the lines so far, and then those that are still to come, are those of the whole
abbrev pub invariant-loop-place : goal.invariant-loop-place
invariant-loop-place l =
    string_bytes l.text ++ answer_lines (iter_rest l.place-iterator.a.a) (iter_rest l.place-iterator.a.b) (map reply_of (iter_rest l.place-iterator.b))
    ≡ string_bytes l.initial.text ++ answer_lines l.places l.calls (map reply_of l.answers)
