-- The tests of calls and of answers tell equality.
use Rattle.std.proofs.Common.{◌≡◌, Decides, rules, tests}
use Rattle.board.specs.declared.Call.{Call}
use Rattle.board.specs.Answers.{Reply}
use Rattle.sight.specs.Calls.{same_call}
use Rattle.sight.specs.Answers.{same_reply}

pub same_call_decides : (c d : Call) → Decides (same_call c d) (c ≡ d)
same_call_decides c d = search (rules, tests)

pub same_reply_decides : (r s : Reply) → Decides (same_reply r s) (r ≡ s)
same_reply_decides r s = search (rules, tests)
