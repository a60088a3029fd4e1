-- `report::overlap_rows` meets its contract: the pairs of the records from i on are left to offer.
use Rattle.lists.specs.From.{from}
use Rattle.lists.specs.Pour.{Pouring}
use Rattle.table.specs.Table.{table_of}
use Rattle.report_rows.specs.Rows.{offer_at}
use Rattle.report.specs.Report.{pair_rows_at, overlap_rows}
use Rattle.report.proofs.overlap_rows.Given as goal

abbrev pub invariant-loop-i : goal.invariant-loop-i
invariant-loop-i l =
    Pouring offer_at l.initial.rows l.before (overlap_rows (table_of l.g.image.now) l.g.table) l.rows l.n (from l.g.count (pair_rows_at (table_of l.g.image.now) l.g.table) l.i)
