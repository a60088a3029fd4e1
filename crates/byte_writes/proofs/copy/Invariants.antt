-- `byte_writes::copy` meets its contract: the first k bytes are copied.
use Rattle.byte_writes.specs.Copies.{Copying}
use Rattle.byte_writes.proofs.copy.Given as goal

abbrev pub invariant-loop-k : goal.invariant-loop-k
invariant-loop-k l = Copying l.initial.out l.from l.room l.out l.k
