-- `amend::fit` meets its contract: the effective image's own refusal, or the image.
use Rattle.std.proofs.Common.{rules, ◌≡◌, ℕ, Result, Err, refl, sym, ◌∙◌}
use Rattle.codes.specs.declared.Refusal.{Refusal}
use Rattle.image.specs.Check.{check_of}
use Rattle.amended.specs.Amended.{effective_of}
use Rattle.amended.specs.Latest.{indexed_none, get_d_zeros}
use Rattle.amend.specs.Laws.{check_content, left_no, left_effective}
use Rattle.amend.proofs.fit.Goals as goal

pub fill-requires : goal.fill-requires
fill-requires c =
    let a = c.args.of.now in
    indexed_none a.image.now a.list.bytes.now a.day _ refl (get_d_zeros 2045)

pub returns-in_err-in_order : goal.returns-in_err-in_order
returns-in_err-in_order c =
    let a = c.args.of.now in
    let image = effective_of a.image.now a.list.bytes.now a.day in
    let same : ◌≡◌ {A = Result ℕ Refusal} c.from_residual.result (Err c.in_err-in_order.field-0.0) = search rules in
    left_no (check_of image) image c.args.out.now _ _
    (check_content a.image.now a.list.bytes.now a.day c.requires.0 ∙ sym c.in_order.ensures ∙ c.in_err-in_order.was) same

pub returns : goal.returns
returns c =
    let a = c.args.of.now in
    rw c.image.view_is
    (left_effective a.image.now a.list.bytes.now a.day c.args.out.now _ (check_of (effective_of a.image.now a.list.bytes.now a.day)) c.fill.ensures.whole
    (check_content a.image.now a.list.bytes.now a.day c.requires.0 ∙ sym c.in_order.ensures ∙ c.in_ok-in_order.was) c.put_image.ensures)
