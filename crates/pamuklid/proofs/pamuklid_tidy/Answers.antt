-- By the calls.
use Rattle.pamuklid.proofs.pamuklid_tidy.Goals as goal

pub returns : goal.returns
returns c =
    rw c.tidiness_flat.ensures
    (rw c.is_tidy.ensures)
