-- `convert::raise` meets its contract: the refusal, or the image where it fits.
use Rattle.std.proofs.Common.{rules, ◌≡◌, ℕ, Result, Err, refl, sym, ◌∙◌}
use Rattle.codes.specs.declared.Refusal.{Refusal}
use Rattle.codes.specs.Refusal.{refusal_of}
use Rattle.image.specs.Laws.{image_or_ok, image_or_err}
use Rattle.writer.specs.Laws.{left_refused, left_next}
use Rattle.convert.specs.Convert.{raise_tests, raised_of}
use Rattle.convert.specs.Laws.{from_accepted}
use Rattle.convert.proofs.raise.Goals as goal

pub put_raised-requires : goal.put_raised-requires
put_raised-requires c =
    let l = c.args.image.now in
    let passed = image_or_ok l _ (refusal_of (raise_tests l)) (sym c.image_of.ensures ∙ c.in_ok-image.was) in
    rw passed.1 (from_accepted l 1 refl passed.0).1

pub returns-in_err-image : goal.returns-in_err-image
returns-in_err-image c =
    let a = c.args in
    let l = a.image.now in
    let same : ◌≡◌ {A = Result ℕ Refusal} c.from_residual.result (Err c.in_err-image.field-0.0) = search rules in
    left_refused (raise_tests l) (raised_of l) a.out.now _ _ (image_or_err l (refusal_of (raise_tests l)) _ (sym c.image_of.ensures ∙ c.in_err-image.was)) same

pub returns : goal.returns
returns c =
    let a = c.args in
    let l = a.image.now in
    let passed = image_or_ok l _ (refusal_of (raise_tests l)) (sym c.image_of.ensures ∙ c.in_ok-image.was) in
    left_next (raise_tests l) (raised_of l) a.out.now _ _ passed.0 (rw passed.1 at c.put_raised.ensures)
