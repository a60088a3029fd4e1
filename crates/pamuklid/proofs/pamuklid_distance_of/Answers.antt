-- `pamuklid::pamuklid_distance_of` meets its contract: on each way to a return, the tests and what the calls ensure say which case of the definition holds.
use Rattle.pamuklid.proofs.pamuklid_distance_of.Goals as goal

pub returns : goal.returns
returns c =
    rw (← c.distance_of.ensures)
    (rw c.distance_flat.ensures)
