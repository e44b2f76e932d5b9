-- The number of each fault.
use Rattle.std.specs.Prelude.{ℕ}
use Rattle.digest.specs.declared.Fault.{Fault}
use Rattle.digest.specs.declared.Fault.TheVariants.{Full}

-- A digest that has taken 65,536 words is full: 13.
abbrev pub fault_number : Fault → ℕ
fault_number Full = 13
