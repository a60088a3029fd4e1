-- `plain::is_rough` equals its definition: the loop's invariant is that table t begins at start and no table before it has a rough record.
use mathlib.Core.Path.{◌≡◌}
use Rattle.layout.specs.Layout.{tables, start_of}
use Rattle.scan.specs.Laws.{Passed}
use Rattle.plain.specs.Plain.{rough_in}
use Rattle.plain.proofs.is_rough.Given as goal

abbrev pub invariant-loop-t : goal.invariant-loop-t
invariant-loop-t l = (l.start ≡ start_of l.s l.t) × Passed (rough_in l.s) tables l.t
