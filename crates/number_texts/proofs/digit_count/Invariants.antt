-- `number_texts::digit_count` meets its contract: at each turn the digits counted and those of the rest are those of the number.
use Rattle.std.proofs.Common.{◌+◌, ◌*◌}
use Rattle.number_texts.specs.Laws.{Counting}
use Rattle.number_texts.proofs.digit_count.Given as goal

abbrev pub invariant-loop-k : goal.invariant-loop-k
invariant-loop-k l = Counting l.n l.rest (1 + 3 * l.k)
