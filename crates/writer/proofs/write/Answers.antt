-- `writer::write` meets its contract: the refusal of what is given, or the image where it fits.
use Rattle.std.proofs.Common.{rules, ◌≡◌, Result, Err, sym, ◌∙◌}
use Rattle.codes.specs.declared.Refusal.{Refusal}
use Rattle.std.specs.Prelude.{ℕ}
use Rattle.given.specs.Given.{runs, general_from}
use Rattle.given.specs.Tests.{given_tests}
use Rattle.given.specs.Laws.{sound_of}
use Rattle.writer.specs.Write.{image_from}
use Rattle.writer.specs.Laws.{left_refused, left_next}
use Rattle.writer.proofs.write.Goals as goal

pub invariant_of-given : goal.invariant_of-given
invariant_of-given c =
    let a = c.args in
    let p = sound_of a.f.edition _ a.counts.now (runs a.figures.now a.codes.now a.rules.now) (sym c.refusal.ensures ∙ c.in_ok-refusal.was) in
    record { held = p.held; few = p.few }

pub returns-in_err-refusal : goal.returns-in_err-refusal
returns-in_err-refusal c =
    let a = c.args in
    let r = runs a.figures.now a.codes.now a.rules.now in
    let same : ◌≡◌ {A = Result ℕ Refusal} c.from_residual.result (Err c.in_err-refusal.field-0.0) = search rules in
    left_refused (given_tests a.f.edition (general_from a.f) a.counts.now r) (image_from a.f a.counts.now r) a.out.now _ _
    (rw c.general_from-g.ensures at (sym c.refusal.ensures ∙ c.in_err-refusal.was)) same

pub returns : goal.returns
returns c =
    let a = c.args in
    let r = runs a.figures.now a.codes.now a.rules.now in
    left_next (given_tests a.f.edition (general_from a.f) a.counts.now r) (image_from a.f a.counts.now r) a.out.now _ _
    (rw c.general_from-g.ensures at (sym c.refusal.ensures ∙ c.in_ok-refusal.was)) (rw c.general_from-g.ensures at c.fit.ensures)
