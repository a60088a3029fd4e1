-- By the policy; under Rules a case is judged, and its finding blocks or not, or a prerequisite that is missing blocks.
use Rattle.std.proofs.Common.{refl, sym, ◌∙◌}
use Rattle.judged.specs.Judged.{judge_judged, finding_coded}
use Rattle.barred.specs.Barring.{bar_unset, bar_broken, bar_rules, bar_met, bar_free, bar_unmet}
use Rattle.barred.specs.Coded.{missing_coded, bar_coded}
use Rattle.barred.proofs.barring.Goals as goal

pub returns-in-Unset-clause-barred : goal.returns-in-Unset-clause-barred
returns-in-Unset-clause-barred c = rw c.bar_by.ensures (bar_unset _ _ _ _ _ _ _ c.in-Unset.is)

pub returns-then-blocks-clause-barred : goal.returns-then-blocks-clause-barred
returns-then-blocks-clause-barred c =
    bar_rules _ _ _ _ _ _ _ _ _ c.in_force-image.ensures c.in-Rules.is
    (bar_met _ _ _ _ _ _ _ _ (sym c.ready.ensures ∙ c.in-Ok.is) c.judge_case-f.ensures (sym c.blocks-in-Ok.ensures ∙ c.if-blocks.true))

pub returns-else-blocks-clause-barred : goal.returns-else-blocks-clause-barred
returns-else-blocks-clause-barred c =
    bar_rules _ _ _ _ _ _ _ _ _ c.in_force-image.ensures c.in-Rules.is
    (bar_free _ _ _ _ _ _ _ _ (sym c.ready.ensures ∙ c.in-Ok.is) c.judge_case-f.ensures (sym c.blocks-in-Ok.ensures ∙ c.if-blocks.false))

pub returns-in-Err-clause-barred : goal.returns-in-Err-clause-barred
returns-in-Err-clause-barred c =
    rw c.bar_by-in-Err.ensures
    (bar_rules _ _ _ _ _ _ _ _ _ c.in_force-image.ensures c.in-Rules.is (bar_unmet _ _ _ _ _ _ _ _ _ (sym c.ready.ensures ∙ c.in-Err.is)))

pub returns-in-Broken-clause-barred : goal.returns-in-Broken-clause-barred
returns-in-Broken-clause-barred c = rw c.bar_by-in-Broken.ensures (bar_broken _ _ _ _ _ _ _ c.in-Broken.is)

pub returns-in-Unset-clause-coded : goal.returns-in-Unset-clause-coded
returns-in-Unset-clause-coded c = rw c.bar_by.ensures (bar_coded _ _ refl)

pub returns-then-blocks-clause-coded : goal.returns-then-blocks-clause-coded
returns-then-blocks-clause-coded c = finding_coded _ _ _ _ c.judge_case-f.ensures (judge_judged _ _)

pub returns-in-Err-clause-coded : goal.returns-in-Err-clause-coded
returns-in-Err-clause-coded c =
    rw c.bar_by-in-Err.ensures (bar_coded _ _ (missing_coded _ _ _ _ _ _ _ (sym c.ready.ensures ∙ c.in-Err.is)))

pub returns-in-Broken-clause-coded : goal.returns-in-Broken-clause-coded
returns-in-Broken-clause-coded c = rw c.bar_by-in-Broken.ensures (bar_coded _ _ refl)
