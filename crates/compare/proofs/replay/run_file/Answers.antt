use Rattle.std.proofs.Common.{refl, rules}
use Rattle.compare.proofs.Made.{replayed, beside_any}
use Rattle.compare.proofs.replay.run_file.Goals as goal

pub returns-in-Err : goal.returns-in-Err
returns-in-Err g c = record { ran = refl; apart = beside_any g.M.Memory g.D.Digest c.args.key c.args.memory c.args.bytes.now }

pub returns : goal.returns
returns g c =
    record {
      ran = replayed g.M.Memory g.D.Digest c.args.key c.args.memory c.args.bytes.now c.in-Ok.file _ c.run_new-memory.result.memory c.in-Ok.ensures c.as_slice.ensures.value _ c.run_new-memory.result.result c.map.result (λ xs a p. search rules) c.run_new-memory.ensures c.map.ensures.cases;
      apart = beside_any g.M.Memory g.D.Digest c.args.key c.args.memory c.args.bytes.now;
    }
