use Rattle.std.proofs.Common.{rules, ◌≡◌, ◌∙◌, sym, ap, ℕ, List, Result, Err}
use Rattle.codes.specs.declared.Refusal.{Refusal}
use Rattle.codes.specs.Laws.{refusal_stays}
use Rattle.layout.specs.Form.{form_tests}
use Rattle.table.specs.Table.{table_of}
use Rattle.image.specs.Check.{content_tests, check_of, image_or}
use Rattle.image.proofs.accepted.Goals as goal

-- refused by the form: by the whole check too
pub returns-in_err-form : goal.returns-in_err-form
unfolding check_of
returns-in_err-form c =
    let l = c.args.s.now in
    let same : ◌≡◌ {A = Result (List ℕ) Refusal} c.from_residual.result (Err c.in_err-form.field-0.0) = search rules in
    same ∙ ap (image_or l) (sym (refusal_stays (form_tests l) (content_tests (table_of l)) _ (sym c.form.ensures ∙ c.in_err-form.was)))
