-- What a memory answers, and which words it then means, as a list of words. Assumes nothing.
use Rattle.std.specs.Prelude.{ℕ, cond, List, length, Ok, Err, Result, nat_lt, slice_index, slice_set}
use Rattle.memory.specs.declared.Fault.{Fault}
use Rattle.memory.specs.declared.Fault.TheVariants.{OutOfRange}

-- the number of a fault
abbrev pub fault_number : Fault → ℕ
fault_number OutOfRange = 12

-- x where the place is below the size, else the fault
abbrev pub accepted : {X : Type 0} → List ℕ → ℕ → X → Result X Fault
accepted ws p x = cond (nat_lt p (length ws)) (Ok x) (Err OutOfRange)

-- what a read answers
abbrev pub fetched : List ℕ → ℕ → Result ℕ Fault
fetched ws p = accepted ws p (slice_index ws p)

-- what a write answers
abbrev pub stored : List ℕ → ℕ → Result Unit Fault
stored ws p = accepted ws p tt

-- the words after a write: that word alone is replaced, and nothing past the end
abbrev pub replaced : List ℕ → ℕ → ℕ → List ℕ
replaced ws p w = slice_set ws p w
