-- By the calls: the answer flat, the elements as the call leaves them.
use mathlib.Core.Path.{◌∙◌, ap}
use Rattle.flat_answers.specs.Answers.{airtime_flat}
use Rattle.pamuklid.proofs.pamuklid_airtime_of.Goals as goal

pub returns : goal.returns
returns c =
    record {
      answered = c.airtime_flat.ensures ∙ ap airtime_flat c.totals.ensures.answered;
      elements = c.totals.ensures.elements;
    }
