-- `layout::records_before` meets its contract: on each way to a return, the tests and what the calls ensure say which case of the definition holds.
use Prim.Native.Nat.{◌*◌, ◌≤◌}
use mathlib.Core.Path.{◌≡◌}
use Rattle.layout.specs.Layout.{records_before}
use Rattle.layout.proofs.records_before.Given as goal

abbrev pub invariant-loop-i : goal.invariant-loop-i
invariant-loop-i l = (l.i ≤ l.t) × (l.sum ≡ records_before l.s l.i) × (l.sum ≤ 65535 * l.i)
