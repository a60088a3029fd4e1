-- By the calls.
use Rattle.fitting.specs.Fits.{ceiling_fits}
use Rattle.fitting.specs.Guided.{limit_indexed}
use Rattle.pamuklid.proofs.pamuklid_ceiling_of_2.Goals as goal

pub ceiling_flat-requires : goal.ceiling_flat-requires
ceiling_flat-requires c =
    let a = c.args in
    let r = c.station_in-record.result in
    let o = c.edges_in-ordinary_edges.result in
    let f = c.edges_in-floor_edges.result in
    rw c.limit_or_absent.ensures (rw c.ceiling-answer.ensures (
      ceiling_fits r a.direction o f a.image.now a.rungs.now a.floors.now,
      limit_indexed r a.direction o f a.image.now a.rungs.now a.floors.now,
    ))

pub returns : goal.returns
unfolding Rattle.flat.specs.Flat.ceiling_flat
returns c =
    rw c.ceiling_flat.ensures
    (rw c.limit_or_absent.ensures
    (rw c.ceiling-answer.ensures
    (rw c.edges_in-floor_edges.ensures
    (rw c.edges_in-ordinary_edges.ensures
    (rw c.station_in-record.ensures)))))
