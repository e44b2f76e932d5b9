use Rattle.std.proofs.Common.{sym, ap, ◌∙◌}
use Rattle.records.specs.Records.{parse}
use Rattle.records.proofs.Again.{reread}
use Rattle.records.proofs.writer.write.Goals as goal

pub returns : goal.returns
returns c =
    let put = c.put_call.ensures in
    record {
      after = put.after;
      count = put.count;
      again = λ n place is. ap (parse place) put.after ∙ reread place n c.args.call c.args.buffer.now put.fits (sym put.count ∙ is);
    }
