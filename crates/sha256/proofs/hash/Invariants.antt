use Rattle.std.proofs.Common.{◌≡◌, take}
use Rattle.digest.specs.Meaning.{fed}
use Rattle.sha256.specs.Stream.{sha_meaning}
use Rattle.sha256.proofs.hash.Given as goal

abbrev pub invariant-loop-word : goal.invariant-loop-word
invariant-loop-word l = record {
  count : l.digest.count ≡ l.word-index;
  state : record { chain = l.digest.chain; part = l.digest.part } ≡ fed sha_meaning sha_meaning.first 0 (take l.word-index l.words);
}
