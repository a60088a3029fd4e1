-- The number of each case of a place (ours, docs/DECISIONS.md).
use Rattle.std.specs.Prelude.{ℕ, Option, Some, None}
use Rattle.fault.specs.declared.Fault.{Fault}
use Rattle.fault.specs.declared.Fault.TheVariants.{InGeneral, InRecord}

-- 0 nowhere, 1 the general block, 2 a record
abbrev pub fault_number : Option Fault → ℕ
fault_number None = 0
fault_number (Some InGeneral) = 1
fault_number (Some (InRecord t i)) = 2
