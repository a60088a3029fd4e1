-- By the calls.
use Rattle.pamuklid.proofs.pamuklid_nearest_dial.Goals as goal

pub returns : goal.returns
returns c =
    rw c.nearest_flat.ensures
    (rw c.nearest_dial.ensures
    (rw c.edges_in-edges.ensures
    (rw c.station_in-record.ensures)))
