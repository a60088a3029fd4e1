-- By the calls.
use Rattle.fitting.specs.Guided.{unmeasured_indexed}
use Rattle.pamuklid.proofs.pamuklid_unmeasured_2.Goals as goal

pub flat-requires : goal.flat-requires
flat-requires c =
    rw c.unmeasured.ensures (unmeasured_indexed c.station_in-record.result c.args.image.now)

pub returns : goal.returns
returns c =
    rw c.flat.ensures
    (rw c.unmeasured.ensures
    (rw c.station_in-record.ensures))
