use Rattle.std.specs.Prelude.{◌≡◌}
use Rattle.rows.specs.Held.{place_at}
use Rattle.rows.proofs.place.Given as goal

abbrev pub invariant-loop-i : goal.invariant-loop-i
invariant-loop-i l = place_at l.dial_low_hz l.count l.rows ≡ place_at l.dial_low_hz l.i l.rows
