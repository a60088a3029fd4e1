-- After i turns the answer is the definition's over the first i rows.
use Rattle.std.specs.Prelude.{◌≡◌}
use Rattle.distance.specs.Distance.{least_up_to}
use Rattle.distance.proofs.least.Given as goal

abbrev pub invariant-loop-i : goal.invariant-loop-i
invariant-loop-i l = l.best ≡ least_up_to l.h.dial_hz l.h.flags l.h.channel_band l.rows l.i
