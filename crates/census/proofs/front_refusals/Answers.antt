-- The tests in turn: the dial's mark, then the verdict's.
use Rattle.std.proofs.Common.{not, [], ◌∷◌, ap, sym, ◌∙◌}
use Rattle.codes.specs.declared.Refusal.TheVariants as refusal
use Rattle.codes.specs.Refusal.{Checked, test, refusal_of}
use Rattle.station.specs.Station.{mark_valid}
use Rattle.station.specs.declared.StationRecord.{StationRecord}
use Rattle.verdict.specs.Verdict.{evaluate_tests}
use Rattle.census.specs.Census.{undialled}
use Rattle.census.specs.Lifted.{in_turn, and_turn, in_turn_holds}
use Rattle.census.proofs.front_refusals.Goals as goal

pub returns : goal.returns
returns c =
    let q = c.args.q.now in
    c.and.ensures
    ∙ and_turn c.mark_refusal-mark.result c.evaluate_refusals.result
    ∙ ap (λ (x : Checked). in_turn x c.evaluate_refusals.result) c.mark_refusal-mark.ensures
    ∙ ap (in_turn (refusal_of (test refusal.StationCode (not (mark_valid q.record.dial_known)) ∷ [])))
    (c.evaluate_refusals.ensures
    ∙ ap (λ (r : StationRecord). refusal_of (evaluate_tests r q.kind q.direction q.edges q.image.now)) c.without_dial.ensures)
    ∙ sym
    (in_turn_holds (test refusal.StationCode (not (mark_valid q.record.dial_known)) ∷ [])
    (evaluate_tests (undialled q.record) q.kind q.direction q.edges q.image.now))
