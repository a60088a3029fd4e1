-- `byte_writes::put` meets its contract: what the stores left to come make of the bytes.
use Rattle.byte_writes.specs.Laws.{Putting}
use Rattle.byte_writes.proofs.put.Given as goal

abbrev pub invariant-loop-k : goal.invariant-loop-k
invariant-loop-k l = Putting l.initial.out l.at l.width l.x l.out l.rest l.k
