-- `convert::lower` meets its contract: the refusal, or the image where it fits.
use Rattle.std.proofs.Common.{rules, ◌≡◌, ℕ, Result, Err, [], ◌∷◌, refl, sym, ◌∙◌}
use Rattle.codes.specs.declared.Refusal.{Refusal}
use Rattle.codes.specs.declared.Refusal.TheVariants as refusal
use Rattle.codes.specs.Refusal.{test, refusal_of}
use Rattle.codes.specs.Laws.{refusal_both}
use Rattle.layout.specs.Layout.{general_of}
use Rattle.image.specs.Laws.{image_or_ok, image_or_err}
use Rattle.writer.specs.Laws.{left_refused, left_next}
use Rattle.convert.specs.Convert.{from_tests, other_watts, lower_tests, lowered_of}
use Rattle.convert.specs.Laws.{from_accepted}
use Rattle.convert.proofs.lower.Goals as goal

pub put_lowered-requires : goal.put_lowered-requires
put_lowered-requires c =
    let l = c.args.image.now in
    let passed = image_or_ok l _ (refusal_of (lower_tests l)) (sym c.lowerable.ensures ∙ c.in_ok-image.was) in
    let e = (refusal_both (from_tests 2 l) (test refusal.Watts (other_watts (general_of l)) ∷ []) passed.0).0 in
    rw passed.1 (from_accepted l 2 refl e).1

pub returns-in_err-image : goal.returns-in_err-image
returns-in_err-image c =
    let a = c.args in
    let l = a.image.now in
    let same : ◌≡◌ {A = Result ℕ Refusal} c.from_residual.result (Err c.in_err-image.field-0.0) = search rules in
    left_refused (lower_tests l) (lowered_of l) a.out.now _ _ (image_or_err l (refusal_of (lower_tests l)) _ (sym c.lowerable.ensures ∙ c.in_err-image.was)) same

pub returns : goal.returns
returns c =
    let a = c.args in
    let l = a.image.now in
    let passed = image_or_ok l _ (refusal_of (lower_tests l)) (sym c.lowerable.ensures ∙ c.in_ok-image.was) in
    left_next (lower_tests l) (lowered_of l) a.out.now _ _ passed.0 (rw passed.1 at c.put_lowered.ensures)
