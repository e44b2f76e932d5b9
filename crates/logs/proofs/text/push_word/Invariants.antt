use Rattle.std.proofs.Common.{◌≡◌, ◌++◌, ◌/◌, ◌%◌, ◌^◌, map, take, string_bytes}
use Rattle.logs.specs.Text.{hex_digit}
use Rattle.logs.proofs.text.push_word.Given as goal

-- a digit for each shift so far
abbrev pub invariant-loop-shift : goal.invariant-loop-shift
invariant-loop-shift l = string_bytes l.text ≡ string_bytes l.initial.text ++ map (λ s. hex_digit (l.word / 2 ^ s % 16)) (take l.shift-index l.shift-items)
