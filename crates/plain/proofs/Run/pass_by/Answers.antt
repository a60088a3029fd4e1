use Rattle.std.proofs.Math.Path.{sym}
use Rattle.std.proofs.Common.{◌∙◌}
use Rattle.plain.specs.Quick.{stretch_more}
use Rattle.plain.proofs.Run.pass_by.Goals as goal

pub loop-i-preserved : goal.loop-i-preserved
loop-i-preserved g c p h =
    stretch_more _ _ _ _ _ (c.loop-i.invariant p h)
    (sym (h _ _ c.loop-i-test.true c.test.ensures) ∙ c.if-not-test.false)
