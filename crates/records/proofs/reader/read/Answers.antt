use Rattle.std.proofs.Common.{sym, ap, ◌∙◌, subst, arith}
use Rattle.records.specs.Records.{Back, parse}
use Rattle.records.proofs.Again.{again}
use Rattle.records.proofs.Back.{back}
use Rattle.records.proofs.reader.read.Goals as goal

pub returns : goal.returns
returns c =
    let place = c.args.place in
    let bs = c.args.bytes.now in
    let value = c.take_apart.ensures in
    record {
      value = value;
      back = subst (Back bs) (sym value) (back place bs (λ j. omega (arith, c.type_inv.bytes j)));
      again = λ k t fits is. value ∙ ap (parse place) is ∙ again place k t fits;
    }
