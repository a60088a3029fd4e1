-- By the calls.
use Rattle.fitting.specs.Fits.{fault_fits}
use Rattle.pamuklid.proofs.pamuklid_fault_of.Goals as goal

pub fault_flat-requires : goal.fault_flat-requires
fault_flat-requires c = rw c.fault_of.ensures (fault_fits c.args.image.now)

pub returns : goal.returns
returns c =
    rw c.fault_flat.ensures
    (rw c.fault_of.ensures)
