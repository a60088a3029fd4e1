-- `report::report_of` meets its contract: the image's refusal, or the rows of its table.
use Rattle.std.proofs.Common.{rules, ◌≡◌, ℕ, Result, Err, sym, ◌∙◌}
use Rattle.codes.specs.declared.Refusal.{Refusal}
use Rattle.image.specs.Laws.{accepted_whole}
use Rattle.report.specs.Answer.{reported_image, reported_rows}
use Rattle.report.proofs.report_of.Goals as goal

pub returns-in_err-check : goal.returns-in_err-check
returns-in_err-check c =
    let a = c.args in
    let same : ◌≡◌ {A = Result ℕ Refusal} c.from_residual.result (Err c.in_err-check.field-0.0) = search rules in
    reported_image a.image.now a.class a.rows.now _ _ c.if-class-gt4.false (sym c.check.ensures ∙ c.in_err-check.was) same

pub of-requires : goal.of-requires
of-requires c = accepted_whole _ (sym c.check.ensures ∙ c.in_ok-check.was)

pub returns : goal.returns
returns c =
    let a = c.args in
    reported_rows a.image.now a.class a.rows.now _ _ c.if-class-gt4.false (sym c.in_ok-check.was ∙ c.check.ensures) (rw c.of.ensures at c.fill_rows.ensures)
