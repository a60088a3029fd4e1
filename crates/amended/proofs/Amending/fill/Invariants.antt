-- `amended::Amending::fill` meets its contract: the index holds for each record what counts of the amendments passed.
use Rattle.amended.specs.Latest.{Indexed}
use Rattle.amended.proofs.Amending.fill.Given as goal

abbrev pub invariant-loop-j : goal.invariant-loop-j
invariant-loop-j l = Indexed l.self.image.now l.self.list.bytes.now l.self.day l.index l.j
