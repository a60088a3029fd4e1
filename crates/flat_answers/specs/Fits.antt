-- What must hold of an answer for its numbers to fit into the flat records.
use Rattle.std.specs.Prelude.{ℕ, ◌≤◌, ◌<◌, ◌≡◌, Option, Some, Result, Ok}
use Rattle.codes.specs.declared.Refusal.{Refusal}
use Rattle.fault.specs.declared.Fault.{Fault}
use Rattle.fault.specs.declared.Fault.TheVariants.{InRecord}

-- the most rows that a list can have
abbrev pub most_rows : ℕ
most_rows = 16777472

-- what the boundary asks of a list's answer
abbrev pub Counted : Result ℕ Refusal → Type 0
Counted a = (n : ℕ) → a ≡ Ok n → n ≤ most_rows

-- and of a table report's
abbrev pub ReportCounted : Result ℕ Refusal → Type 0
ReportCounted a = (n : ℕ) → a ≡ Ok n → n ≤ most_rows

-- what the boundary asks of a place
abbrev pub FaultFits : Option Fault → Type 0
FaultFits f = (t i : ℕ) → f ≡ Some (InRecord t i) → (t < 9) × (i < 256)
