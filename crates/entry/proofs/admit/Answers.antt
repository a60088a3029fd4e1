use mathlib.Core.Path.{sym, ◌∙◌}
use borrow.Author.Tests.{eq-eqb, ne_eqb}
use Rattle.std.proofs.Common.{rules, ◌≡◌, Err}
use Rattle.codes.specs.Refusal.{Checked}
use Rattle.entry.specs.Laws.{entry_stays, entry_check, entry_free}
use Rattle.entry.proofs.admit.Goals as goal

pub returns-in_err-refusals : goal.returns-in_err-refusals
returns-in_err-refusals c =
    let same : ◌≡◌ {A = Checked} c.from_residual.result (Err c.in_err-refusals.field-0.0) = search rules in
    same ∙ entry_stays _ _ _ _ (sym c.refusals.ensures ∙ c.in_err-refusals.was)

pub returns-then-r-eq2 : goal.returns-then-r-eq2
returns-then-r-eq2 c =
    c.check.ensures
    ∙ entry_check _ _ _ (sym c.refusals.ensures ∙ c.in_ok-refusals.was) (eq-eqb _ _ c.if-r-eq2.true)

pub returns : goal.returns
returns c = entry_free _ _ _ (sym c.refusals.ensures ∙ c.in_ok-refusals.was) (ne_eqb _ _ c.if-r-eq2.false)
