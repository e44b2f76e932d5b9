use Rattle.std.proofs.Common.{◌≡◌, take}
use Rattle.digest.specs.Meaning.{fed, keyed}
use Rattle.digest.proofs.put_key.Given as goal

abbrev pub invariant-loop-word : goal.invariant-loop-word
invariant-loop-word g l =
    let d = g.D.Digest in record {
      count : d.count l.digest ≡ l.word-index;
      state : d.state l.digest ≡ fed d.meaning d.meaning.first 0 (take l.word-index (keyed d.meaning.block l.key l.mask));
    }

abbrev pub invariant-loop : goal.invariant-loop
invariant-loop g l =
    let d = g.D.Digest in record {
      count : d.count l.digest ≡ l.counter;
      state : d.state l.digest ≡ fed d.meaning d.meaning.first 0 (take l.counter (keyed d.meaning.block l.key l.mask));
    }
