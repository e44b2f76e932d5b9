use Rattle.std.proofs.Common.{rules}
use Rattle.sight.proofs.Verdicts.{judged}
use Rattle.sight.proofs.judging.judge_runs.Goals as goal

pub returns-clause-judged : goal.returns-clause-judged
returns-clause-judged g c = judged g.D.Digest.meaning _ _ _ _ _ _ c.in_ok-left_marks.ensures.inward c.in_ok-right_marks.ensures.inward (search rules) (search rules)
