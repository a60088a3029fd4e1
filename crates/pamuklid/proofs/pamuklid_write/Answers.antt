-- By the calls: the fields that arrive, the answer flat, the bytes as the call leaves them.
use mathlib.Core.Path.{◌∙◌, ap}
use Rattle.flat_answers.specs.Answers.{image_flat}
use Rattle.pamuklid.proofs.pamuklid_write.Goals as goal

pub returns : goal.returns
returns c =
    rw (← c.fields_in-fields.ensures)
    (record {
      answered = c.image_flat.ensures ∙ ap image_flat c.write.ensures.answered;
      bytes = c.write.ensures.bytes;
    })
