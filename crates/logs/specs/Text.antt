-- The text of a log: a line for each answered call, and a last one for the fault that ends a file.
use Rattle.std.specs.Prelude.{ℕ, ◌+◌, ◌/◌, ◌%◌, cond, List, [], ◌∷◌, ◌++◌, Ok, Err, decimal, Result, nat_lt}
use Rattle.board.specs.declared.Call.{Call}
use Rattle.board.specs.Answers.{Reply, declining}
use Rattle.faults.specs.declared.RunFault.{RunFault}
use Rattle.faults.specs.Faults.{fault_number, fault_place, fault_kind}
use Rattle.records.specs.Kinds.{kind_of}
use Rattle.files.specs.Files.{Filed, places_of, calls_of, ended}

-- a digit of base 16 in ASCII, lower case
abbrev pub hex_digit : ℕ → ℕ
hex_digit d = cond (nat_lt d 10) (48 + d) (87 + d)

-- a word as eight digits, the highest first
abbrev pub hex : ℕ → List ℕ
hex w =
    hex_digit (w / 268435456 % 16)
    ∷ hex_digit (w / 16777216 % 16)
    ∷ hex_digit (w / 1048576 % 16)
    ∷ hex_digit (w / 65536 % 16)
    ∷ hex_digit (w / 4096 % 16)
    ∷ hex_digit (w / 256 % 16)
    ∷ hex_digit (w / 16 % 16)
    ∷ hex_digit (w % 16)
    ∷ []

-- each word after a space
abbrev pub words_text : List ℕ → List ℕ
words_text [] = []
words_text (w ∷ ws) = 32 ∷ (hex w ++ words_text ws)

-- place, kind and number in decimal
abbrev pub numbers_text : ℕ → ℕ → ℕ → List ℕ
numbers_text place kind number = decimal place ++ (32 ∷ (decimal kind ++ (32 ∷ decimal number)))

-- the numbers, the answered words, and the end of the line
abbrev pub line : ℕ → ℕ → Reply → List ℕ
line place kind r = numbers_text place kind r.number ++ (words_text r.words ++ (10 ∷ []))

-- a line for each call that was answered, with the place of its record
abbrev pub answer_lines : List ℕ → List Call → List Reply → List ℕ
answer_lines [] cs rs = []
answer_lines (p ∷ ps) [] rs = []
answer_lines (p ∷ ps) (c ∷ cs) [] = []
answer_lines (p ∷ ps) (c ∷ cs) (r ∷ rs) = line p (kind_of c) r ++ answer_lines ps cs rs

-- the line of the fault that ends a file, if one does
abbrev pub end_line : Result ℕ RunFault → List ℕ
end_line (Ok n) = []
end_line (Err f) = line (fault_place f.fault) (fault_kind f.fault) (declining (fault_number f.fault))

-- the log of a file whose calls were answered so
abbrev pub log : Filed → List Reply → List ℕ
log f rs = answer_lines (places_of f) (calls_of f) rs ++ end_line (ended f)
