use Rattle.std.proofs.Common.{rules, ◌≡◌, Err, sym, ◌∙◌}
use Rattle.codes.specs.Read.{direction_valid}
use Rattle.codes.specs.Refusal.{Checked, refusal_of}
use Rattle.codes.specs.Laws.{refusal_stays}
use Rattle.entry.specs.Entry.{entry_tests, entry_of}
use Rattle.rungs.specs.Rungs.{rung_tests}
use Rattle.rungs.proofs.ceiling_refusals.Goals as goal

-- refused by the record or the image: by all the tests too
pub returns-in_err-admit : goal.returns-in_err-admit
unfolding entry_of
returns-in_err-admit c =
    let q = c.args.q.now in
    let same : ◌≡◌ {A = Checked} c.from_residual.result (Err c.in_err-admit.field-0.0) = search rules in
    let said : c.admit.result ≡ refusal_of (entry_tests q.record (direction_valid q.direction) q.image.now) = rw (← c.direction_valid.ensures) c.admit.ensures in
    same
    ∙ sym (refusal_stays (entry_tests q.record (direction_valid q.direction) q.image.now) (rung_tests q.rungs.ordinary q.rungs.floor q.rungs.figures.now q.rungs.floors.now) _
    (sym said ∙ c.in_err-admit.was))
