-- `convert::lowerable` meets its contract: the image's refusals come before 26.
use Rattle.std.proofs.Common.{rules, ◌≡◌, ◌∙◌, ap, sym, ℕ, List, [], ◌∷◌, Result, Ok, Err, Bool, true, cond}
use Rattle.codes.specs.declared.Refusal.TheVariants as refusal
use Rattle.codes.specs.declared.Refusal.{Refusal}
use Rattle.codes.specs.Refusal.{test, refusal_of}
use Rattle.codes.specs.Laws.{refusal_stays, refusal_next}
use Rattle.layout.specs.Layout.{general_of}
use Rattle.image.specs.Check.{image_or}
use Rattle.image.specs.Laws.{image_or_ok, image_or_err}
use Rattle.convert.specs.Convert.{from_tests, other_watts}
use Rattle.convert.proofs.lowerable.Goals as goal

pub returns-in_err-image : goal.returns-in_err-image
returns-in_err-image c =
    let l = c.args.s.now in
    let same : ◌≡◌ {A = Result (List ℕ) Refusal} c.from_residual.result (Err c.in_err-image.field-0.0) = search rules in
    let refused = image_or_err l (refusal_of (from_tests 2 l)) _ (sym c.image_of.ensures ∙ c.in_err-image.was) in
    same ∙ ap (image_or l) (sym (refusal_stays (from_tests 2 l) (test refusal.Watts (other_watts (general_of l)) ∷ []) _ refused))

pub returns-then-other_watts : goal.returns-then-other_watts
returns-then-other_watts c =
    let l = c.args.s.now in
    let passed = image_or_ok l _ (refusal_of (from_tests 2 l)) (sym c.image_of.ensures ∙ c.in_ok-image.was) in
    let watts = test refusal.Watts (other_watts (general_of l)) ∷ [] in
    let g : c.image.inside.general ≡ general_of l = c.image.invariant.1 ∙ ap general_of (c.image.view_is ∙ passed.1) in
    let others : other_watts (general_of l) ≡ true = ap other_watts (sym g) ∙ sym c.other_watts.ensures ∙ c.if-other_watts.true in
    let told : refusal_of watts ≡ Err refusal.Watts = ap (λ (b : Bool). cond b (Err refusal.Watts) (Ok tt)) others in
    ap (image_or l) (sym (refusal_next (from_tests 2 l) watts passed.0 ∙ told))
