-- By the calls.
use Rattle.fitting.specs.Stepped.{step_fits}
use Rattle.pamuklid.proofs.pamuklid_walk_step.Goals as goal

pub step_flat-requires : goal.step_flat-requires
step_flat-requires c =
    let a = c.args in
    rw c.limit_or_absent.ensures
    (rw c.step-answer.ensures
    (step_fits c.walk_in-state.result c.station_in-record.result a.direction
    c.edges_in-ordinary_edges.result c.edges_in-floor_edges.result a.image_0.now a.image_1.now a.rungs.now a.floors.now))

pub returns : goal.returns
unfolding Rattle.flat.specs.Flat.step_flat
returns c =
    rw c.step_flat.ensures
    (rw c.limit_or_absent.ensures
    (rw c.step-answer.ensures
    (rw c.edges_in-floor_edges.ensures
    (rw c.edges_in-ordinary_edges.ensures
    (rw c.station_in-record.ensures
    (rw c.walk_in-state.ensures))))))
