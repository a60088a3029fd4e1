-- `rows::shift` meets its contract: one byte more, from below those that are moved.
use Rattle.rows.specs.Shift.{shift_step}
use Rattle.rows.proofs.shift.Goals as goal

pub loop-k-preserved : goal.loop-k-preserved
loop-k-preserved c = shift_step _ _ _ _ _ c.loop-k.invariant c.loop-k-test.true c.requires.1
