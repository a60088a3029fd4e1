-- `given::before` meets its contract: the sum of the counts so far.
use Rattle.std.proofs.Common.{◌*◌, ◌≤◌, ◌≡◌}
use Rattle.given.specs.Given.{before_from}
use Rattle.given.proofs.before.Given as goal

abbrev pub invariant-loop-i : goal.invariant-loop-i
invariant-loop-i l = (l.sum ≡ before_from l.counts l.i) × (l.sum ≤ 65535 * l.i)
