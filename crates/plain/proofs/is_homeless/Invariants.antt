-- `plain::is_homeless` equals its definition: the loop's invariant is that every segment before i lies in a band.
use mathlib.Core.Bool.{false}
use Rattle.scan.specs.Laws.{Passed}
use Rattle.table.specs.Table.{table_of}
use Rattle.find.specs.Question.{homeless_at}
use Rattle.plain.proofs.is_homeless.Given as goal

abbrev pub invariant-loop-i : goal.invariant-loop-i
invariant-loop-i l = Passed (homeless_at (table_of l.s) false) l.count l.i
