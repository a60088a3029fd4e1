-- `rows::shift` meets its contract: the bytes from k on are moved.
use Rattle.rows.specs.Shift.{Shifting}
use Rattle.rows.proofs.shift.Given as goal

abbrev pub invariant-loop-k : goal.invariant-loop-k
invariant-loop-k l = Shifting l.initial.rows l.from l.to l.rows l.k
