-- By the calls.
use Rattle.pamuklid.proofs.pamuklid_walk_open.Goals as goal

pub returns : goal.returns
returns c =
    rw c.walk_answer_flat.ensures (rw c.open_walk.ensures (rw c.walk_in.ensures))
