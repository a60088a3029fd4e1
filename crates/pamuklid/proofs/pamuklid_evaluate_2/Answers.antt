-- By the calls.
use Rattle.fitting.specs.Guided.{evaluate_indexed}
use Rattle.pamuklid.proofs.pamuklid_evaluate_2.Goals as goal

pub flat-requires : goal.flat-requires
flat-requires c =
    rw c.evaluate.ensures
    (evaluate_indexed c.station_in-record.result c.args.kind
    c.args.direction c.edges_in-edges.result c.args.image.now)

pub returns : goal.returns
returns c =
    rw c.flat.ensures
    (rw c.evaluate.ensures
    (rw c.edges_in-edges.ensures
    (rw c.station_in-record.ensures)))
