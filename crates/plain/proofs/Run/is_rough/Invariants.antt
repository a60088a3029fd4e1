-- `plain::Run::is_rough` equals its definition: the loop's invariant is that every record before i is plain.
use Prim.Native.Nat.{◌-◌}
use Rattle.plain.specs.Plain.{plain_of}
use Rattle.plain.specs.Quick.{Stretch}
use Rattle.plain.proofs.Run.is_rough.Given as goal

abbrev pub invariant-loop-i : goal.invariant-loop-i
invariant-loop-i l = Stretch (plain_of l.t) l.self.bytes.now l.self.start 0 l.i

abbrev pub decreases-loop-i : goal.decreases-loop-i
decreases-loop-i l = l.self.count - l.i
