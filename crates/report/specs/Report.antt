-- The trustee's table report (document 02, 5).
use Rattle.std.specs.Prelude.{ℕ, ◌+◌, ◌*◌, ◌/◌, cond, List, [], ◌∷◌, ◌++◌, map, ◌≡◌, eqb, ltb, length, drop, Option, Some, None, Result, Ok, Err}
use Rattle.codes.specs.declared.Refusal.TheVariants as refusal
use Rattle.codes.specs.Refusal.{Checked, Test, test, refusal_of}
use Rattle.codes.specs.declared.Refusal.{Refusal}
use Rattle.profile.specs.declared.Range.{Range}
use Rattle.lists.specs.Each.{each}
use Rattle.lists.specs.From.{from}
use Rattle.layout.specs.Layout.{bands, segments, privileges}
use Rattle.layout.specs.declared.Record.{Record}
use Rattle.table.specs.Parts.{span_of}
use Rattle.table.specs.Table.{Table, table_of}
use Rattle.image.specs.Check.{check_tests}
use Rattle.sweep.specs.Sweep.{gives}
use Rattle.report_rows.specs.Rows.{row_size, encode_all}
use Rattle.report_rows.specs.declared.ReportRow.{ReportRow}
use Rattle.report_rows.specs.declared.RowKind.TheVariants as kind
use Rattle.report.specs.Gaps.{of_part, left_from}

-- ---- overlaps

-- "of bands, of data segments, or of privileges of one class": with which records of table t record r makes a pair, and so the class of
-- the pair, if it has one
abbrev pub pair_members : ℕ → Record → Option ℕ
pair_members t r = cond (eqb t privileges) (Some r.class) None

-- records i and j of table t share the stretch x
abbrev pub overlap_row : ℕ → Option ℕ → ℕ → ℕ → Range → ReportRow
overlap_row t class i j x = record { stretch = x; kind = kind.Overlap t; class = class; first = i; second = j }

-- record i, which is r, and each later one that "shares a positive stretch" with it
unfoldable pub pair_rows : Table → ℕ → ℕ → Record → List ReportRow
pair_rows table t i r =
    from (table.count t) (gives (table.at t) (pair_members t r) (span_of r) (overlap_row t (pair_members t r) i)) (i + 1)

abbrev pub pair_rows_at : Table → ℕ → ℕ → List ReportRow
pair_rows_at table t i = pair_rows table t i (table.at t i)

-- "by first and second index, the first the smaller"
unfoldable pub overlap_rows : Table → ℕ → List ReportRow
overlap_rows table t = each (table.count t) (pair_rows_at table t)

-- ---- gaps

-- "gap": a stretch of segment i, "a gap gives its segment twice"
abbrev pub gap_row : ℕ → ℕ → Range → ReportRow
gap_row class i x = record { stretch = x; kind = kind.Gap; class = Some class; first = i; second = i }

-- "every stretch of a data segment that no privilege of a chosen class covers", segment i with the range x
unfoldable pub gaps_in : Table → ℕ → ℕ → Range → List ReportRow
gaps_in table class i x = map (gap_row class i) (of_part (left_from (table.at privileges) (Some class) (table.count privileges) 0) x)

abbrev pub gaps_at : Table → ℕ → ℕ → List ReportRow
gaps_at table class i = gaps_in table class i (span_of (table.at segments i))

-- "gaps follow by segment, lowest first"
unfoldable pub gap_rows : Table → ℕ → List ReportRow
gap_rows table class = each (table.count segments) (gaps_at table class)

-- ---- the report

-- "Rows come by table, then by first and second index, the first the smaller; gaps follow by segment, lowest first."
unfoldable pub report_rows : Table → ℕ → List ReportRow
report_rows table class = overlap_rows table bands ++ (overlap_rows table segments ++ (overlap_rows table privileges ++ gap_rows table class))

-- "It refuses (25 …) when the rows lent are too few"
abbrev pub lent_tests : List ReportRow → List ℕ → List Test
lent_tests xs lent = test refusal.Report (ltb (length lent / row_size) (length xs)) ∷ []

-- "A chosen class above 4 meets 20." Then 1 to 14, and 25.
abbrev pub report_tests : List ℕ → ℕ → List ℕ → List Test
report_tests l class lent = test refusal.StationCode (ltb 4 class) ∷ (check_tests l ++ lent_tests (report_rows (table_of l) class) lent)

-- the answer: the count of the rows, or the refusal's number
abbrev pub answer_of : Checked → List ReportRow → Result ℕ Refusal
answer_of (Ok tt) xs = Ok (length xs)
answer_of (Err n) xs = Err n

-- the bytes after the call: the rows, and what was lent past them; with a refusal, what was lent
abbrev pub bytes_of : Checked → List ReportRow → List ℕ → List ℕ
bytes_of (Ok tt) xs lent = encode_all xs ++ drop (length xs * row_size) lent
bytes_of (Err n) xs lent = lent

pub record Answered (c : Checked) (xs : List ReportRow) (lent left : List ℕ) (answer : Result ℕ Refusal) : Type 0 where
  pub answered : answer ≡ answer_of c xs
  pub bytes : left ≡ bytes_of c xs lent

-- rows that have only their number against them
abbrev pub Filled : List ReportRow → List ℕ → List ℕ → Result ℕ Refusal → Type 0
Filled xs lent left answer = Answered (refusal_of (lent_tests xs lent)) xs lent left answer

-- what `report_of` promises
abbrev pub Reported : List ℕ → ℕ → List ℕ → List ℕ → Result ℕ Refusal → Type 0
Reported l class lent left answer = Answered (refusal_of (report_tests l class lent)) (report_rows (table_of l) class) lent left answer
