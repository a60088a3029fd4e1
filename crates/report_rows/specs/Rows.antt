-- The bytes of a table report. "A row is 24 bytes: low and high of the stretch (f64), a byte 0 bands, 1 segments, 3 privileges or 255 gap,
-- the class byte (0 where none), u16 first and second index (a gap gives its segment twice), two zero bytes."
use Rattle.std.specs.Prelude.{ℕ, ◌*◌, ◌/◌, cond, List, [], ◌∷◌, ◌++◌, ltb, length, Option}
use Rattle.std.specs.Option.{unwrap_or}
use Rattle.std.proofs.lemmas.List.Edits.{sets}
use Rattle.byte_writes.specs.Bytes.{little, figure_bytes}
use Rattle.report_rows.specs.declared.ReportRow.{ReportRow}
use Rattle.report_rows.specs.declared.RowKind.{RowKind}
use Rattle.report_rows.specs.declared.RowKind.TheVariants as kind

abbrev pub row_size : ℕ
row_size = 24

-- low and high of the stretch
unfoldable pub stretch_bytes : ReportRow → List ℕ
stretch_bytes x = figure_bytes x.stretch.low_hz ++ figure_bytes x.stretch.high_hz

-- "0 bands, 1 segments, 3 privileges", by the table's number, "or 255 gap"
abbrev pub kind_byte : RowKind → ℕ
kind_byte (kind.Overlap t) = t
kind_byte kind.Gap = 255

-- "the class byte (0 where none)"
abbrev pub class_byte : Option ℕ → ℕ
class_byte class = unwrap_or class 0

-- kind, class, first and second index, and the zero bytes
unfoldable pub mark_bytes : ReportRow → List ℕ
mark_bytes x = little 1 (kind_byte x.kind) ++ (little 1 (class_byte x.class) ++ (little 2 x.first ++ (little 2 x.second ++ little 2 0)))

unfoldable pub encode_row : ReportRow → List ℕ
encode_row x = stretch_bytes x ++ mark_bytes x

-- the bytes of a report
unfoldable pub encode_all : List ReportRow → List ℕ
encode_all [] = []
encode_all (x ∷ xs) = encode_row x ++ encode_all xs

-- a row put behind n others, where there is room for one more
unfoldable pub offer_at : ReportRow → ℕ → List ℕ → List ℕ
offer_at x n l = cond (ltb n (length l / row_size)) (sets l (n * row_size) (encode_row x)) l
