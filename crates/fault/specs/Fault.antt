-- Where a table is wrong: the general block, or the first table and record, that the test of the check's refusal meets. A refusal by 5 to
-- 10, 12 or 13 has such a place; the others (1 to 4, 11, 14) and an accepted image have none.
use Rattle.std.specs.Prelude.{ℕ, Bool, false, not, cond, ◌||◌, List, eqb, Option, Some, None, Ok, Err}
use Rattle.codes.specs.declared.Refusal.{Refusal}
use Rattle.codes.specs.declared.Refusal.TheVariants as refusal
use Rattle.codes.specs.Refusal.{Checked}
use Rattle.codes.specs.Code.{bit_of}
use Rattle.scan.specs.First.{first, some, on_found}
use Rattle.layout.specs.Layout.{tables, bands, segments, channels, privileges, automatic, plan_data, plan_avoid}
use Rattle.layout.specs.declared.General.{General}
use Rattle.coded.specs.Coded.{coded_general}
use Rattle.table.specs.Table.{Table, table_of}
use Rattle.find.specs.Question.{asks, first_in, homeless_at}
use Rattle.find.specs.declared.Question.TheVariants.{Miscoded, Unsound, NotLengthy, NoLimit}
use Rattle.image.specs.Check.{sound_block, check_of}
use Rattle.fault.specs.declared.Fault.{Fault}
use Rattle.fault.specs.declared.Fault.TheVariants.{InGeneral, InRecord}
use Rattle.fault.specs.declared.FaultAnswer.{FaultAnswer}

-- what a scan of table t found
abbrev pub in_table : ℕ → Option ℕ → Option Fault
in_table t f = on_found f (λ r. Some (InRecord t r)) None

-- the first record of table t that passes a test on table and index
abbrev pub first_of : Table → (ℕ → ℕ → Bool) → ℕ → Option ℕ
first_of table test t = first (test t) (table.count t)

-- whether table t has one
abbrev pub has_one : Table → (ℕ → ℕ → Bool) → ℕ → Bool
has_one table test t = some (test t) (table.count t)

-- the first table, and in it the first record, that passes the test
unfoldable pub record_where : Table → (ℕ → ℕ → Bool) → Option Fault
record_where table test = on_found (first (has_one table test) tables) (λ t. in_table t (first_of table test t)) None

-- 5 "a coded byte outside its values, an unused one not zero, or a table of an absent part not empty"

-- table t belongs to a part that the flags say is absent: bit 2 the channels, bit 4 the plan
unfoldable pub absent_part : General → ℕ → Bool
absent_part g t =
    cond (eqb t channels) (not (bit_of g.flags 2))
    (cond (eqb t plan_data) (not (bit_of g.flags 4)) (cond (eqb t plan_avoid) (not (bit_of g.flags 4)) false))

-- record i of table t meets 5: every record of an absent part does
abbrev pub miscoded_at : Table → ℕ → ℕ → Bool
miscoded_at table t i = absent_part table.general t || asks (Miscoded t) (table.at t i)

-- the general block's own bytes, its test with no record in any table, come before the records
unfoldable pub miscoded_place : Table → Option Fault
miscoded_place table = cond (coded_general table.general 0 0 0) (record_where table (miscoded_at table)) (Some InGeneral)

-- 6 "a figure not finite, above 2^40 in size, or negative zero": the general block's figures come before those of the records
abbrev pub unsound_at : Table → ℕ → ℕ → Bool
unsound_at table t i = asks Unsound (table.at t i)

unfoldable pub unsound_place : Table → Option Fault
unsound_place table = cond (sound_block table.general) (record_where table (unsound_at table)) (Some InGeneral)

-- the test of 5, or that of 6
abbrev pub wrong_at : Bool → Table → ℕ → ℕ → Bool
wrong_at coding table = cond coding (miscoded_at table) (unsound_at table)

-- "7 band, 8 segment, 9 automatic, 10 privilege range with low ≥ high"
abbrev pub short_in : Table → ℕ → Option Fault
short_in table t = in_table t (first_in table t NotLengthy)

-- "12 a segment in no band"
abbrev pub homeless_place : Table → Option Fault
homeless_place table = in_table segments (first (homeless_at table false) (table.count segments))

-- "13 own limit ≤ 0"
abbrev pub limit_place : Table → Option Fault
limit_place table = in_table segments (first_in table segments NoLimit)

-- the place by a refusal's number
abbrev pub numbered_place : ℕ → Table → Option Fault
numbered_place n table =
    cond (eqb n 5) (miscoded_place table)
    (cond (eqb n 6) (unsound_place table)
    (cond (eqb n 7) (short_in table bands)
    (cond (eqb n 8) (short_in table segments)
    (cond (eqb n 9) (short_in table automatic)
    (cond (eqb n 10) (short_in table privileges) (cond (eqb n 12) (homeless_place table) (cond (eqb n 13) (limit_place table) None)))))))

-- the place of a refusal
unfoldable pub fault_at : Refusal → Table → Option Fault
fault_at refusal.CodedByte table = miscoded_place table
fault_at refusal.ImageFigure table = unsound_place table
fault_at refusal.BandRange table = short_in table bands
fault_at refusal.SegmentRange table = short_in table segments
fault_at refusal.AutomaticRange table = short_in table automatic
fault_at refusal.PrivilegeRange table = short_in table privileges
fault_at refusal.SegmentOutside table = homeless_place table
fault_at refusal.OwnLimit table = limit_place table
fault_at (refusal.Other n) table = numbered_place n table
fault_at _ table = None

abbrev pub fault_by : Checked → Table → Option Fault
fault_by (Ok tt) table = None
fault_by (Err n) table = fault_at n table

-- the check's answer, and its place
abbrev pub fault_of : List ℕ → FaultAnswer
fault_of l = record { refusal = check_of l; fault = fault_by (check_of l) (table_of l) }
