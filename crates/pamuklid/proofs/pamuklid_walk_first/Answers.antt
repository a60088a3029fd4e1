-- By the calls.
use Rattle.pamuklid.proofs.pamuklid_walk_first.Goals as goal

pub returns : goal.returns
returns c =
    rw c.walk_out.ensures (rw c.first.ensures)
