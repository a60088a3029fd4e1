use Rattle.std.proofs.Common.{rules, ◌≡◌, Err, sym, ◌∙◌}
use Rattle.codes.specs.Refusal.{Checked, refusal_of}
use Rattle.codes.specs.Laws.{refusal_stays}
use Rattle.entry.specs.Entry.{entry_tests, entry_of}
use Rattle.verdict.specs.Verdict.{beside_valid, edge_tests}
use Rattle.verdict.proofs.evaluate_refusals.Goals as goal

-- refused by the record or the image: by all the tests too
pub returns-in_err-admit : goal.returns-in_err-admit
unfolding entry_of
returns-in_err-admit c =
    let a = c.args.q.now in
    let same : ◌≡◌ {A = Checked} c.from_residual.result (Err c.in_err-admit.field-0.0) = search rules in
    let said : c.admit.result ≡ refusal_of (entry_tests a.record (beside_valid a.kind a.direction) a.image.now) = rw (← c.beside_valid.ensures) c.admit.ensures in
    same ∙ sym (refusal_stays (entry_tests a.record (beside_valid a.kind a.direction) a.image.now) (edge_tests a.edges) _ (sym said ∙ c.in_err-admit.was))
