-- Before rung i the loop holds the climb over the first i rungs, and it goes on. At the first blocked rung it is over.
use Rattle.ceiling.specs.Ladder.{judge_on, bursts_on}
use Rattle.ceiling.specs.Laws.{Free}
use Rattle.ceiling.proofs.Ladder.climb.Given as goal

abbrev pub invariant-loop-i : goal.invariant-loop-i
invariant-loop-i l = Free (judge_on l.self.sender) (bursts_on l.self.rungs) l.count l.i l.envelope l.rung
