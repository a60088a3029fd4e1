use mathlib.Core.Path.{sym, ◌∙◌}
use native.Mathlib.Omega.{arith}
use Rattle.table.specs.Table.{table_of}
use Rattle.fault.specs.Laws.{refused_whole, form_nowhere}
use Rattle.fault.proofs.fault_of.Goals as goal

pub of-requires : goal.of-requires
of-requires c =
    refused_whole _ _ (sym c.check-refusal.ensures ∙ c.in-Err.is) (omega (arith, c.from.ensures, c.if-from-lt5.false))

pub returns-then-from-lt5 : goal.returns-then-from-lt5
returns-then-from-lt5 c =
    rw (← c.check-refusal.ensures)
    (rw c.in-Err.is
    (rw (← form_nowhere c.in-Err.n (table_of c.args.s.now) (omega (arith, c.from.ensures, c.if-from-lt5.true)))))
