-- `report::pair_rows` meets its contract: the pairs with the records from one on are left to offer.
use Rattle.std.proofs.Common.{◌+◌, length}
use Rattle.lists.specs.From.{from}
use Rattle.lists.specs.Pour.{Pouring}
use Rattle.table.specs.Table.{table_of}
use Rattle.sweep.specs.Sweep.{gives}
use Rattle.report_rows.specs.Rows.{offer_at}
use Rattle.report.specs.Report.{overlap_row}
use Rattle.report.proofs.pair_rows.Given as goal

abbrev pub invariant-loop-j : goal.invariant-loop-j
invariant-loop-j l =
    let pairs = from l.g.count (gives ((table_of l.g.image.now).at l.g.table) l.members l.window (overlap_row l.g.table l.members l.i)) in
    Pouring offer_at l.initial.rows l.before (pairs (l.i + 1)) l.rows l.n (pairs l.from)

abbrev pub decreases-loop-j : goal.decreases-loop-j
decreases-loop-j l = length (from l.g.count (gives ((table_of l.g.image.now).at l.g.table) l.members l.window (overlap_row l.g.table l.members l.i)) l.from)
