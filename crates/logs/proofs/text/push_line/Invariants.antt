use Rattle.std.proofs.Common.{◌≡◌, ◌++◌, drop, string_bytes}
use Rattle.logs.specs.Text.{words_text}
use Rattle.logs.proofs.text.push_line.Given as goal

abbrev pub invariant-loop-word : goal.invariant-loop-word
invariant-loop-word l = string_bytes l.text ++ words_text (drop l.word-index l.words) ≡ string_bytes l.initial.text ++ words_text l.words
