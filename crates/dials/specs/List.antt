-- What the list call answers, and what it leaves in the lent bytes.
use Rattle.std.specs.Prelude.{ℕ, ◌*◌, ◌/◌, not, cond, List, [], ◌∷◌, ◌++◌, ◌≡◌, ltb, length, drop, Option, Some, None, Result, Ok, Err}
use Rattle.codes.specs.declared.Refusal.TheVariants as refusal
use Rattle.codes.specs.Refusal.{Checked, Test, test, refusal_of}
use Rattle.codes.specs.declared.Refusal.{Refusal}
use Rattle.codes.specs.Read.{direction_valid, direction_of}
use Rattle.codes.specs.declared.LicenseClass.{LicenseClass}
use Rattle.codes.specs.declared.Sideband.{Sideband}
use Rattle.codes.specs.declared.ControlMode.{ControlMode}
use Rattle.codes.specs.declared.Direction.{Direction}
use Rattle.occupancy.specs.Edges.{range_of}
use Rattle.occupancy.specs.declared.Edges.{Edges}
use Rattle.station.specs.Station.{under_rules, situation_of}
use Rattle.station.specs.declared.StationRecord.{StationRecord}
use Rattle.station.specs.declared.Situation.{Situation}
use Rattle.table.specs.Parts.{reading_of}
use Rattle.table.specs.Table.{Table, table_of}
use Rattle.entry.specs.Entry.{entry_tests, edges_valid, edges_read}
use Rattle.rows.specs.Rows.{row_size, sorted, encode_all}
use Rattle.rows.specs.declared.SafeDial.{SafeDial}
use Rattle.dial_rows.specs.Dials.{request_of, rows_of}

-- without sideband, licence or control the Rust lists nothing, and refuses nothing
abbrev pub rows_with_sideband : Option Sideband → (Sideband → List SafeDial) → List SafeDial
rows_with_sideband (Some s) f = f s
rows_with_sideband None f = []

abbrev pub rows_with_license : Option LicenseClass → (LicenseClass → List SafeDial) → List SafeDial
rows_with_license (Some c) f = f c
rows_with_license None f = []

abbrev pub rows_with_control : Option ControlMode → (ControlMode → List SafeDial) → List SafeDial
rows_with_control (Some c) f = f c
rows_with_control None f = []

-- the rows for a station as it is read, and edges as they are read
abbrev pub known_rows : Table → Situation → Direction → Edges → Sideband → LicenseClass → ControlMode → List SafeDial
known_rows table s direction e sideband license control =
    rows_of table (request_of table.general license sideband control direction s.margin (range_of e (reading_of table.general)))

unfoldable pub situation_rows : Table → Situation → Direction → Edges → List SafeDial
situation_rows table s direction e =
    rows_with_sideband s.sideband
    (λ sideband. rows_with_license s.license
    (λ license. rows_with_control s.control
    (λ control. known_rows table s direction e sideband license control)))

-- the rows of the list, before they are sorted. Without Rules there are none: "Images are read only under Rules."
unfoldable pub list_rows : StationRecord → ℕ → Edges → List ℕ → List SafeDial
list_rows r direction e l = cond (under_rules r) (situation_rows (table_of l) (situation_of r) (direction_of direction) (edges_read e)) []

-- 23 "the dial list longer than the whole rows lent"
abbrev pub lent_tests : List SafeDial → List ℕ → List Test
lent_tests xs lent = test refusal.Rows (ltb (length lent / row_size) (length xs)) ∷ []

-- "Order: 20, 21, 22, 1 to 14, 15, 16, 23." 16 is none of this call's.
abbrev pub list_tests : StationRecord → ℕ → Edges → List ℕ → List ℕ → List Test
list_tests r direction e l lent =
    entry_tests r (direction_valid direction) l ++ (test refusal.SignalEdge (not (edges_valid e)) ∷ lent_tests (list_rows r direction e l) lent)

-- the answer: the count of the rows, or the refusal's number
abbrev pub answer_of : Checked → List SafeDial → Result ℕ Refusal
answer_of (Ok tt) xs = Ok (length xs)
answer_of (Err n) xs = Err n

-- the bytes after the call: the rows in their order, and what was lent past them; with a refusal, what was lent
abbrev pub bytes_of : Checked → List SafeDial → List ℕ → List ℕ
bytes_of (Ok tt) xs lent = encode_all (sorted xs) ++ drop (length xs * row_size) lent
bytes_of (Err n) xs lent = lent

-- an answer and the bytes that were left
pub record Listed (c : Checked) (xs : List SafeDial) (lent left : List ℕ) (answer : Result ℕ Refusal) : Type 0 where
  pub answered : answer ≡ answer_of c xs
  pub bytes : left ≡ bytes_of c xs lent

-- rows that have only their length against them
abbrev pub Filled : List SafeDial → List ℕ → List ℕ → Result ℕ Refusal → Type 0
Filled xs lent left answer = Listed (refusal_of (lent_tests xs lent)) xs lent left answer

-- what `safe_dials` promises
abbrev pub SafeDials : StationRecord → ℕ → Edges → List ℕ → List ℕ → List ℕ → Result ℕ Refusal → Type 0
SafeDials r direction e l lent left answer = Listed (refusal_of (list_tests r direction e l lent)) (list_rows r direction e l) lent left answer
