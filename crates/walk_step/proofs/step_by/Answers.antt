-- By the cases of a step: no rung at its place, one that is blocked, the last, and one that the walk goes on from.
use Rattle.std.proofs.Common.{sym}
use borrow.Author.Tests.{le-leb, lt-leb}
use Rattle.ceiling.specs.Ladder.{judge_on, bursts_on}
use Rattle.ceiling.specs.Laws.{step_of}
use Rattle.walk_step.specs.Laws.{step_none_holds, step_blocked, step_last, step_on_holds}
use Rattle.walk_step.proofs.step_by.Goals as goal

pub returns-then-count-place : goal.returns-then-count-place
returns-then-count-place c = rw c.step_none.ensures (rw (← c.count-count.ensures) (sym (step_none_holds _ _ _ _ c.if-count-place.true)))

pub returns-in-Err : goal.returns-in-Err
returns-in-Err c =
    let a = c.args in
    let judge = judge_on a.ladder.now.sender in
    let burst = bursts_on a.ladder.now.rungs in
    rw (← c.count-count.ensures)
    (rw c.rung_decision.ensures
    (rw c.rung_so_far.ensures
    (rw c.ended.ensures
    (sym (step_blocked judge burst _ a.w _ c.if-count-place.false _ _
    (step_of c.envelope_so_far.ensures c.burst-more.ensures c.in-Err.is c.rung_step.ensures.stepped))))))

pub returns-then-over : goal.returns-then-over
returns-then-over c =
    let a = c.args in
    let judge = judge_on a.ladder.now.sender in
    let burst = bursts_on a.ladder.now.rungs in
    rw (← c.count-count.ensures)
    (rw c.ended-then-over.ensures
    (rw (le-leb _ _ c.if-over.true)
    (sym (step_last judge burst _ a.w _ c.if-count-place.false _
    (step_of c.envelope_so_far.ensures c.burst-more.ensures c.in-Ok.is c.rung_step.ensures.stepped)
    c.if-over.true))))

pub returns-else-over : goal.returns-else-over
returns-else-over c =
    let a = c.args in
    let judge = judge_on a.ladder.now.sender in
    let burst = bursts_on a.ladder.now.rungs in
    rw (← c.count-count.ensures)
    (rw c.goes_on.ensures
    (rw (lt-leb _ _ c.if-over.false)
    (sym (step_on_holds judge burst _ a.w _ c.if-count-place.false _
    (step_of c.envelope_so_far.ensures c.burst-more.ensures c.in-Ok.is c.rung_step.ensures.stepped)
    c.if-over.false))))
