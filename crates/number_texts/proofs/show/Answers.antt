-- `number_texts::show` meets its contract: the length comes before the first byte.
use Rattle.std.proofs.Common.{◌∙◌, ap, ℕ, List}
use Rattle.std.proofs.lemmas.List.Edits.{sets}
use Rattle.number_texts.specs.Laws.{text_is, text_length, shown_all}
use Rattle.number_texts.proofs.show.Goals as goal

pub returns : goal.returns
returns g c =
    let a = c.args in
    let u = c.pow-units.ensures in
    let d = c.rounded-d.ensures in
    shown_all _ _ _ _
    (text_length a.x g.row.PLACES _ _ u d _ _ _ c.sign_length.ensures c.digit_count-width.ensures c.point_length.ensures)
    c.if-out-length.false
    (c.put_text.ensures ∙ ap (λ (t : List ℕ). sets a.out.now 0 t) (text_is a.x g.row.PLACES _ _ u d))
