-- `report::gap_rows` meets its contract: the gaps of the segments from i on are left to offer.
use Rattle.lists.specs.From.{from}
use Rattle.lists.specs.Pour.{Pouring}
use Rattle.table.specs.Table.{table_of}
use Rattle.report_rows.specs.Rows.{offer_at}
use Rattle.report.specs.Report.{gaps_at, gap_rows}
use Rattle.report.proofs.gap_rows.Given as goal

abbrev pub invariant-loop-i : goal.invariant-loop-i
invariant-loop-i l =
    Pouring offer_at l.initial.rows l.before (gap_rows (table_of l.fn.image) l.class) l.rows l.n (from l.s.count (gaps_at (table_of l.fn.image) l.class) l.i)
