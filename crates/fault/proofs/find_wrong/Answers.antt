-- `fault::find_wrong` meets its contract: on each way to a return, the tests and what the calls ensure say which case of the definition holds.
use mathlib.Core.Path.{sym, ap, ◌∙◌}
use borrow.Author.Tests.{not-true, not-false}
use native.Mathlib.Omega.{arith}
use Rattle.layout.specs.declared.General.{General}
use Rattle.layout.specs.Layout.{general_of}
use Rattle.table.specs.Table.{table_of}
use Rattle.table.specs.Laws.{count_in_holds}
use Rattle.fault.specs.Fault.{absent_part}
use Rattle.fault.specs.Laws.{present_first, absent_first, empty_first}
use Rattle.fault.proofs.find_wrong.Goals as goal

pub returns-then-not-coding : goal.returns-then-not-coding
returns-then-not-coding c = rw (not-true c.args.coding c.if-not-coding.true-raw) c.find_in.ensures

pub returns-then-not-is_absent : goal.returns-then-not-is_absent
returns-then-not-is_absent c =
    rw (not-false c.args.coding c.if-not-coding.false-raw)
    (rw c.find_in-then-not-is_absent.ensures
    (present_first (table_of c.args.s.now) c.args.t
    (sym (c.is_absent.ensures ∙ ap (λ (g : General). absent_part g c.args.t) (c.s.invariant.1 ∙ ap general_of c.s.view_is))
    ∙ not-true _ c.if-not-is_absent.true-raw)))

pub returns-then-count_of-eq0 : goal.returns-then-count_of-eq0
returns-then-count_of-eq0 c =
    rw (not-false c.args.coding c.if-not-coding.false-raw)
    (empty_first (table_of c.args.s.now)
    c.args.t
    (count_in_holds c.args.s.now
    c.args.t
    c.requires ∙ sym c.count_of.ensures.gives ∙ c.if-count_of-eq0.true))

pub returns : goal.returns
returns c =
    rw (not-false c.args.coding c.if-not-coding.false-raw)
    (absent_first (table_of c.args.s.now)
    c.args.t
    (sym (c.is_absent.ensures ∙ ap (λ (g : General). absent_part g c.args.t) (c.s.invariant.1 ∙ ap general_of c.s.view_is))
    ∙ not-false _ c.if-not-is_absent.false-raw)
    (rw (count_in_holds c.args.s.now
    c.args.t
    c.requires) (rw (← c.count_of.ensures.gives) (omega arith))))
