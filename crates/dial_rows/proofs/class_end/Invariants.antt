-- No privilege of the class from the index that the loop has come to on.
use Rattle.dial_rows.specs.Class.{Past}
use Rattle.dial_rows.proofs.class_end.Given as goal

abbrev pub invariant-loop-i : goal.invariant-loop-i
invariant-loop-i l = Past l.image l.class l.i
