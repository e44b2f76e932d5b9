use Rattle.std.proofs.Common.{◌≡◌, ◌+◌, take}
use Rattle.digest.specs.Meaning.{fed}
use Rattle.digest.proofs.put_all.Given as goal

abbrev pub invariant-loop-w : goal.invariant-loop-w
invariant-loop-w g l =
    let d = g.D.Digest in record {
      count : d.count l.digest ≡ d.count l.initial.digest + l.w-index;
      state : d.state l.digest ≡ fed d.meaning (d.state l.initial.digest) (d.count l.initial.digest) (take l.w-index l.words);
    }
