-- By the calls: the answer flat, the bytes as the call leaves them.
use mathlib.Core.Path.{◌∙◌, ap}
use Rattle.flat_answers.specs.Answers.{text_flat}
use Rattle.pamuklid.proofs.pamuklid_text_khz.Goals as goal

pub returns : goal.returns
returns c =
    record {
      answered = c.text_flat.ensures ∙ ap text_flat c.khz.ensures.answered;
      bytes = c.khz.ensures.bytes;
    }
