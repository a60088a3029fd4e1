-- `number_texts::khz` meets its contract: the size comes first.
use Rattle.std.proofs.Common.{rules}
use Rattle.number_texts.specs.Laws.{texted_size}
use Rattle.number_texts.proofs.khz.Goals as goal

pub returns-in_err-sized : goal.returns-in_err-sized
returns-in_err-sized c = texted_size _ _ _ c.in_err-sized.field-0.0 _ (search rules) (search rules)
