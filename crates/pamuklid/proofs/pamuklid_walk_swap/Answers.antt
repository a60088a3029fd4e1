-- By the calls.
use Rattle.pamuklid.proofs.pamuklid_walk_swap.Goals as goal

pub returns : goal.returns
returns c =
    rw c.walk_answer_flat.ensures (rw c.swap.ensures (rw c.walk_in.ensures))
