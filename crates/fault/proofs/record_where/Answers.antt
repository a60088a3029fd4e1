-- `fault::record_where` meets its contract: on each way to a return, the tests and what the calls ensure say which case of the definition holds.
use mathlib.Core.Path.{sym, ap, ◌∙◌}
use Rattle.scan.specs.First.{is_at}
use Rattle.scan.specs.Laws.{passed_none, passed_step}
use Rattle.fault.specs.Laws.{where_here, where_none}
use Rattle.fault.proofs.record_where.Goals as goal

pub loop-t-init : goal.loop-t-init
loop-t-init c = passed_none _ _

pub find_wrong-requires : goal.find_wrong-requires
find_wrong-requires c = c.loop-t-test.true

pub returns-in-Some : goal.returns-in-Some
returns-in-Some c =
    where_here _ _ _ _ c.loop-t-test.true c.loop-t.invariant (sym c.in-Some.is ∙ c.find_wrong.ensures)

pub loop-t-preserved : goal.loop-t-preserved
loop-t-preserved c =
    passed_step _ _ _ c.loop-t-test.true c.loop-t.invariant (ap is_at (sym c.find_wrong.ensures ∙ c.in_default.is))

pub returns : goal.returns
returns c = where_none _ _ _ c.loop-t-test.false c.loop-t.invariant
