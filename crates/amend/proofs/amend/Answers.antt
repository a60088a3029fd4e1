-- `amend::amend` meets its contract: the base's refusal, 27, 28, and what is left.
use Rattle.std.proofs.Common.{rules, ◌≡◌, ℕ, List, Result, Err, arith, refl, sym, ap, ◌∙◌, length}
use Rattle.codes.specs.declared.Refusal.{Refusal}
use Rattle.codes.specs.Refusal.{refusal_of}
use Rattle.image.specs.Check.{check_of}
use Rattle.image.specs.Laws.{image_or_ok, image_or_err}
use Rattle.amended.specs.Amended.{list_wrong, effective_of}
use Rattle.amend.specs.Amend.{amend_tests}
use Rattle.amend.specs.Laws.{left_no, left_same, amend_base, amend_list, amend_room, amend_check}
use Rattle.amend.proofs.amend.Goals as goal

pub returns-in_err-image : goal.returns-in_err-image
returns-in_err-image c =
    let a = c.args in
    let same : ◌≡◌ {A = Result ℕ Refusal} c.from_residual.result (Err c.in_err-image.field-0.0) = search rules in
    left_no (refusal_of (amend_tests a.image.now a.list.now a.day a.out.now)) (effective_of a.image.now a.list.now a.day) a.out.now _ _
    (amend_base a.image.now a.list.now a.day a.out.now _ (image_or_err a.image.now (check_of a.image.now) _ (sym c.accepted.ensures ∙ c.in_err-image.was))) same

pub returns-then-is_wrong : goal.returns-then-is_wrong
returns-then-is_wrong c =
    let a = c.args in
    let passed = image_or_ok a.image.now _ (check_of a.image.now) (sym c.accepted.ensures ∙ c.in_ok-image.was) in
    let wrong = ap (λ (l : List ℕ). list_wrong l a.list.now) (sym (c.image.view_is ∙ passed.1)) ∙ sym c.is_wrong.ensures ∙ c.if-is_wrong.true in
    left_no (refusal_of (amend_tests a.image.now a.list.now a.day a.out.now)) (effective_of a.image.now a.list.now a.day) a.out.now _ _
    (amend_list a.image.now a.list.now a.day a.out.now passed.0 wrong) refl

pub returns-then-out-image : goal.returns-then-out-image
returns-then-out-image c =
    let a = c.args in
    let passed = image_or_ok a.image.now _ (check_of a.image.now) (sym c.accepted.ensures ∙ c.in_ok-image.was) in
    let here = c.image.view_is ∙ passed.1 in
    let right = ap (λ (l : List ℕ). list_wrong l a.list.now) (sym here) ∙ sym c.is_wrong.ensures ∙ c.if-is_wrong.false in
    left_no (refusal_of (amend_tests a.image.now a.list.now a.day a.out.now)) (effective_of a.image.now a.list.now a.day) a.out.now _ _
    (amend_room a.image.now a.list.now a.day a.out.now passed.0 right (omega (arith, ap length here))) refl

pub returns : goal.returns
returns c =
    let a = c.args in
    let passed = image_or_ok a.image.now _ (check_of a.image.now) (sym c.accepted.ensures ∙ c.in_ok-image.was) in
    let here = c.image.view_is ∙ passed.1 in
    let right = ap (λ (l : List ℕ). list_wrong l a.list.now) (sym here) ∙ sym c.is_wrong.ensures ∙ c.if-is_wrong.false in
    left_same (refusal_of (amend_tests a.image.now a.list.now a.day a.out.now)) (check_of (effective_of a.image.now a.list.now a.day))
    (effective_of a.image.now a.list.now a.day) a.out.now _ _
    (amend_check a.image.now a.list.now a.day a.out.now passed.0 right (omega (arith, ap length here)))
    (rw passed.1 at c.fit.ensures)
