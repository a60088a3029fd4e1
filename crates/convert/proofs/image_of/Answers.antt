-- `convert::image_of` meets its contract: of the edition, what the image check says.
use Rattle.std.proofs.Common.{◌≡◌, false, sym, ap, ◌∙◌}
use Rattle.codes.specs.Refusal.{refusal_of}
use Rattle.layout.specs.Form.{form_tests}
use Rattle.image.specs.Check.{image_or}
use Rattle.convert.specs.Laws.{early, late, from_same}
use Rattle.convert.proofs.image_of.Goals as goal
use Rattle.convert.proofs.image_of.Goals.{in-Err+else-is_early, in_default}

pub returns : goal.returns
returns c =
    let l = c.args.s.now in
    let later : early (refusal_of (form_tests l)) ≡ false =
    elim c.match-form.branch [
      | in-Err+else-is_early w ↦ ap early (sym c.form.ensures ∙ w.in-Err.is) ∙ sym w.is_early.ensures ∙ w.if-is_early.false
      | in_default w ↦ ap early (sym c.form.ensures ∙ w.in_default.is)
    ] in
    let past = late l later in
    c.accepted.ensures ∙ ap (image_or l) (from_same l _ past.0 past.1 c.requires (sym c.edition_of.ensures ∙ c.if-edition_of-edition.false))
