-- `Ranges::next` meets its contract: the record found is the first that shares a stretch.
use Rattle.std.proofs.Common.{sym, ap, ◌∙◌}
use Rattle.sweep.specs.Sweep.{shared_with}
use Rattle.sweep.specs.Laws.{sweep_here}
use Rattle.sweep.proofs.Ranges.next.Goals as goal

pub returns-in-Some-clause-value : goal.returns-in-Some-clause-value
returns-in-Some-clause-value c =
    let a = c.args in
    sym (c.loop-i.invariant ∙ sweep_here _ _ _ _ _ _ c.loop-i-test.true (ap (shared_with a.m a.window) (sym c.record.ensures) ∙ sym c.in-Some.ensures))
