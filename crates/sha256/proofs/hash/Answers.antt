use Rattle.std.proofs.Common.{◌≡◌, length, ap, ◌∙◌, ap₂, arith}
use Rattle.std.proofs.lemmas.List.{take_all}
use Rattle.digest.specs.Meaning.{fed}
use Rattle.sha256.specs.Stream.{closed, sha_meaning}
use Rattle.sha256.proofs.Whole.{streams}
use Rattle.sha256.proofs.hash.Goals as goal

pub returns-clause-answer : goal.returns-clause-answer
returns-clause-answer c =
    let words = c.args.words.now in
    let count : c.loop-word.digest.count ≡ length words = omega arith in
    let state = c.loop-word.invariant.state ∙ ap (fed sha_meaning sha_meaning.first 0) (take_all _ words c.loop-word-test.false) in
    (omega (arith, c.loop-word.digest.ok), c.result.ensures ∙ ap₂ closed state count ∙ streams words)
