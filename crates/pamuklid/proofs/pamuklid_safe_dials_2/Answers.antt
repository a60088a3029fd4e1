-- By the calls: the answer flat, the bytes as the list call leaves them.
use mathlib.Core.Path.{ap}
use Rattle.flat_answers.specs.Answers.{dials_flat}
use Rattle.fitting.specs.Fits.{list_counted}
use Rattle.pamuklid.proofs.pamuklid_safe_dials_2.Goals as goal

pub dials_flat-requires : goal.dials_flat-requires
dials_flat-requires c =
    rw c.safe_dials-answer.ensures.answered
    (list_counted c.station_in-record.result
    c.args.direction
    c.edges_in-edges.result
    c.args.image.now
    c.args.rows.now)

pub returns : goal.returns
returns c =
    rw c.dials_flat.ensures
    (rw (← c.edges_in-edges.ensures)
    (rw (← c.station_in-record.ensures)
    (record {
      answered = ap dials_flat c.safe_dials-answer.ensures.answered;
      bytes = c.safe_dials-answer.ensures.bytes;
    })))
