use Rattle.std.proofs.Common.{◌≡◌, true, false, List, take, subst, rules}
use Rattle.std.proofs.lemmas.Iterator.{IsFirst-from_position, YieldsList-from_slice}
use Rattle.board.specs.declared.Call.{Call}
use Rattle.runs.specs.Runs.{AddsRun, in_gate, heeded}
use Rattle.runs.proofs.Heeded.{heeded_is}
use Rattle.runs.proofs.run.Goals as goal

pub returns : goal.returns
returns g c =
    let calls = c.args.calls.now in
    let P : List Call → Type 0 = λ cs. AddsRun g.M.Memory g.D.Digest.meaning cs c.args.monitor.now c.args.answers.now.items c.run.result c.run.new.monitor c.run.new.answers.items in
    let first = IsFirst-from_position _ _ _ (λ c. in_gate c ≡ false) (λ c. in_gate c ≡ true) c.position.ensures.ran (YieldsList-from_slice calls c.iter.ensures.rest) (λ x q k. search rules) (λ x q k. search rules) in
    let made : take c.unwrap_or-made.result calls ≡ heeded calls = rw c.unwrap_or-made.ensures (heeded_is calls c.position.result first) in
    subst P made c.run.ensures
