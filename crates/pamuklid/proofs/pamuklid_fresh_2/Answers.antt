-- By the calls.
use Rattle.pamuklid.proofs.pamuklid_fresh_2.Goals as goal

pub returns : goal.returns
returns c =
    rw c.station_out.ensures
    (rw c.fresh.ensures)
