-- A segment's limit on the width of data, and which emissions and classes a list lets through.
use Rattle.std.specs.Prelude.{ℕ, Bool, true, Option, Some, None, Float}
use Rattle.codes.specs.Code.{kind_code, class_code, bit_of}
use Rattle.codes.specs.declared.EmissionKind.{EmissionKind}
use Rattle.codes.specs.declared.LicenseClass.{LicenseClass}
use Rattle.profile.specs.declared.DataLimit.{DataLimit}

-- a rule that a record names, else another
abbrev pub rule_or : Option ℕ → ℕ → ℕ
rule_or (Some rule) other = rule
rule_or None other = other

-- "`data_limit`: a segment's own limit, else the general one"; its rule is the segment's second rule, else the general one
abbrev pub data_limit_of : Option Float → Option ℕ → DataLimit → DataLimit
data_limit_of (Some max) second general = record { max_bandwidth_hz = max; rule = rule_or second general.rule }
data_limit_of None second general = general

-- "`allows`: an absent list allows everything, an empty list nothing"
abbrev pub allows_of : Option ℕ → EmissionKind → Bool
allows_of (Some bits) kind = bit_of bits (kind_code kind)
allows_of None kind = true

-- the same of the classes that a power limit is for
abbrev pub meant_of : Option ℕ → LicenseClass → Bool
meant_of (Some bits) class = bit_of bits (class_code class)
meant_of None class = true
