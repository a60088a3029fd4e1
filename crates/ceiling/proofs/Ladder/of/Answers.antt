use Rattle.codes.specs.Read.{direction_valid}
use Rattle.verdict.specs.Laws.{rules_whole}
use Rattle.rungs.specs.Rungs.{rung_tests}
use Rattle.ceiling.proofs.Ladder.of.Goals as goal

pub of-requires : goal.of-requires
of-requires c p =
    let q = c.args.q.now in
    rules_whole q.record (direction_valid q.direction) q.image.now
    (rung_tests q.rungs.ordinary q.rungs.floor q.rungs.figures.now q.rungs.floors.now) c.requires
    (rw (← c.situation_of.ensures) p)
