use Rattle.std.proofs.Common.{rules}
use Rattle.runs.proofs.News.{ended}
use Rattle.runs.proofs.every.run_new.Goals as goal

pub returns : goal.returns
returns g c =
    let new = c.new-monitor.ensures in
    ended g.M.Memory g.D.Digest c.args.key c.args.memory c.args.calls.now _ _ c.new-monitor.result c.run.new.monitor c.into_memory.result c.new-answers.ensures.items (record { state = new.state; holds = new.memory; same_key = new.key }) c.into_memory.ensures _ c.run.result c.map-result.result (λ u xs p. search rules) c.run.ensures c.map-result.ensures.cases
