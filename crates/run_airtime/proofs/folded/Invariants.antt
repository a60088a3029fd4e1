-- `run_airtime::folded` is safe: what is folded stays below the modulus.
use Rattle.std.proofs.Common.{◌<◌}
use Rattle.run_airtime.proofs.folded.Given as goal

abbrev pub invariant-loop-t : goal.invariant-loop-t
invariant-loop-t l = l.h < 4294967291
