-- By the calls.
use Rattle.pamuklid.proofs.pamuklid_check.Goals as goal

pub returns : goal.returns
returns c =
    rw c.refusal_number.ensures
    (rw c.check.ensures)
