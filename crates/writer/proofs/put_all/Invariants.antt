-- `writer::put_all` meets its contract: what is left of the numbers makes the whole.
use Rattle.writer.specs.Laws.{Laying}
use Rattle.writer.proofs.put_all.Given as goal

abbrev pub invariant-loop-width : goal.invariant-loop-width
invariant-loop-width l = Laying l.initial.out l.at l.numbers l.out l.place l.width-index
