-- By the calls: the answer flat, the bytes as the call leaves them.
use mathlib.Core.Path.{◌∙◌, ap}
use Rattle.flat_answers.specs.Answers.{image_flat}
use Rattle.pamuklid.proofs.pamuklid_amend.Goals as goal

pub returns : goal.returns
returns c =
    record {
      answered = c.image_flat.ensures ∙ ap image_flat c.amend.ensures.answered;
      bytes = c.amend.ensures.bytes;
    }
