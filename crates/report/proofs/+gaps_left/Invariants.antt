-- The measure is what is left of the privileges.
use Prim.Native.Nat.{◌-◌}
use Rattle.report.proofs.+gaps_left.Given as goal

abbrev pub decreases-gaps_left : goal.decreases-gaps_left
decreases-gaps_left l = l.g.now.count - l.from
