-- The bits are those of no NaN.
use lib.Ieee.{nan_bits}
use borrow.Author.Rules.{rules}
use Rattle.flat_answers.proofs.infinity.Goals as goal

pub float_from_bits-result : goal.float_from_bits-result
unfolding nan_bits
float_from_bits-result c = search rules
