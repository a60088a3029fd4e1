-- Before rung i the loop holds the climb over the first i rungs, and it goes on. At the first blocked rung it is over.
use Rattle.std.proofs.Common.{refl}
use Rattle.ceiling.specs.Ceiling.{ended_of}
use Rattle.ceiling.specs.Laws.{free_start, step_of, free_again, free_over}
use Rattle.ceiling.proofs.Ladder.climb.Goals as goal

pub loop-i-init : goal.loop-i-init
loop-i-init c = free_start _ _ _

pub returns-in-Err : goal.returns-in-Err
unfolding ended_of
returns-in-Err c =
    rw c.rung_decision-limit.ensures
    (rw (← c.count-count.ensures)
    (free_over _ _ _ _ _ _ _ c.loop-i.invariant c.loop-i-test.true _ _ (step_of refl c.burst-more.ensures c.in-Err.is c.rung_step.ensures.stepped)))

pub loop-i-preserved : goal.loop-i-preserved
loop-i-preserved c =
    free_again _ _ _ _ _ _ _ c.loop-i.invariant c.loop-i-test.true _ (step_of refl c.burst-more.ensures c.in-Ok.is c.rung_step.ensures.stepped)
