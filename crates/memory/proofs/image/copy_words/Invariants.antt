use Rattle.std.proofs.Common.{◌≡◌, ◌+◌}
use Rattle.memory.specs.Fills.{filled}
use Rattle.memory.specs.Images.{image_word}
use Rattle.memory.proofs.image.copy_words.Given as goal

abbrev pub invariant-loop-k : goal.invariant-loop-k
invariant-loop-k l = l.word-items ≡ filled l.initial.word-items 0 (λ k. image_word l.image (l.from + k)) l.k
