use Rattle.std.proofs.Common.{length, rules}
use Rattle.std.proofs.lemmas.List.{length_push}
use Rattle.std.proofs.lemmas.Slice.Zip.{zip_turn}
use Rattle.sha256.specs.Functions.{constants}
use Rattle.sha256.specs.Compression.{working}
use Rattle.sha256.proofs.Steps.{rounds_more}
use Rattle.sha256.proofs.compression.first_rounds.Goals as goal

pub loop-k-preserved : goal.loop-k-preserved
loop-k-preserved c =
    let pair = zip_turn constants c.args.block.now c.loop-k.yielded c.into_iter-k-iterator.result _ c.next.new.self _ (search rules) (search rules) c.loop-k.yielded_by _ c.in-Some.is c.next.ensures.steps in
    let k = pair.2 0 in
    let word = pair.3 0 in
    rw length_push (cc (rounds_more (length c.loop-k.yielded) c.args.block.now (working c.args.hash.now)))
