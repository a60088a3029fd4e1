-- `number_texts::put_digits` meets its contract: at each turn the digits that are left, put where they belong, make the whole.
use Rattle.number_texts.specs.Laws.{Digiting}
use Rattle.number_texts.proofs.put_digits.Given as goal

abbrev pub invariant-loop-left : goal.invariant-loop-left
invariant-loop-left l = Digiting l.initial.out l.at l.count l.n l.out l.rest l.left

abbrev pub decreases-loop-left : goal.decreases-loop-left
decreases-loop-left l = l.left
