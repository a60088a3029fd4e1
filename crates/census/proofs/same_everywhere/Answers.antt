-- What is missing, and is not the dial, is missing at each; another policy than Rules asks no dial.
use Rattle.std.proofs.Common.{sym, ◌∙◌}
use Rattle.census.specs.Same.{code_same, code_unset, code_none, code_broken}
use Rattle.census.proofs.same_everywhere.Goals as goal

pub returns-else-code-code_number : goal.returns-else-code-code_number
returns-else-code-code_number c =
    λ hz.
    code_same c.in_force-image.result.now c.args.x.now c.in-Err.m c.in_force-image.ensures c.in-Rules.is (sym c.ready.ensures ∙ c.in-Err.is)
    (λ q. c.if-code-code_number.false (c.code_number-code.ensures ∙ q ∙ sym c.code_number.ensures)) hz
    ∙ sym c.code_number-code.ensures

pub returns-in-Unset : goal.returns-in-Unset
returns-in-Unset c = λ hz. code_unset c.args.x.now hz c.in-Unset.is ∙ sym c.code_number-in-Unset.ensures

pub returns-in-NoProfile : goal.returns-in-NoProfile
returns-in-NoProfile c = λ hz. code_none c.args.x.now hz c.in-NoProfile.is ∙ sym c.code_number-in-NoProfile.ensures

pub returns-in-Broken : goal.returns-in-Broken
returns-in-Broken c = λ hz. code_broken c.args.x.now hz c.in-Broken.is ∙ sym c.code_number-in-Broken.ensures
