use Rattle.std.proofs.Common.{sym, ◌∙◌}
use Rattle.verdict.specs.Verdict.{beside_valid, edge_tests}
use Rattle.verdict.specs.Laws.{rules_whole}
use Rattle.verdict.proofs.evaluate.Goals as goal

pub of-station-requires : goal.of-station-requires
of-station-requires c p =
    let a = c.args in
    rules_whole a.r (beside_valid a.kind a.direction) a.image.now (edge_tests a.e) (sym c.evaluate_refusals.ensures ∙ c.in-Ok.is)
    (rw (← c.situation_of.ensures) p)
