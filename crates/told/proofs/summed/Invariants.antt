-- `told::summed` is safe: both sums stay below 65,521.
use Rattle.std.proofs.Common.{◌<◌}
use Rattle.told.proofs.summed.Given as goal

abbrev pub invariant-loop-b : goal.invariant-loop-b
invariant-loop-b g l = (l.one < 65521) × (l.two < 65521)
