-- By the calls: the answer flat, the bytes as the report leaves them.
use mathlib.Core.Path.{ap, sym, ◌∙◌}
use native.Mathlib.Omega.{arith}
use Rattle.report.specs.Answer.{answer_few}
use Rattle.flat_answers.specs.Answers.{report_flat}
use Rattle.pamuklid.proofs.pamuklid_report_of.Goals as goal

pub report_flat-requires : goal.report_flat-requires
report_flat-requires c = λ n e.
    let a = c.args in
    omega (arith, answer_few a.image.now a.license a.rows.now n (sym c.report_of.ensures.answered ∙ e))

pub returns : goal.returns
returns c =
    rw c.report_flat.ensures
    (record {
      answered = ap report_flat c.report_of.ensures.answered;
      bytes = c.report_of.ensures.bytes;
    })
