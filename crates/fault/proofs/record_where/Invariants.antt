-- `fault::record_where` meets its contract: on each way to a return, the tests and what the calls ensure say which case of the definition holds.
use Rattle.layout.specs.Layout.{tables}
use Rattle.scan.specs.Laws.{Passed}
use Rattle.table.specs.Table.{table_of}
use Rattle.fault.specs.Fault.{has_one, wrong_at}
use Rattle.fault.proofs.record_where.Given as goal

abbrev pub invariant-loop-t : goal.invariant-loop-t
invariant-loop-t l = Passed (has_one (table_of l.s) (wrong_at l.coding (table_of l.s))) tables l.t
