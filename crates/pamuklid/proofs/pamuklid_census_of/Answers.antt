-- By the calls; the two dials are read back from their bits.
use mir.Syntax.{w64}
use mir.ValLaws.{to_z-of_z}
use Rattle.pamuklid.proofs.pamuklid_census_of.Goals as goal

pub returns : goal.returns
returns c =
    rw c.census_flat.ensures
    (rw c.census_of.ensures
    (rw c.edges_in-edges.ensures
    (rw c.station_in-record.ensures
    (rw (to_z-of_z w64 c.args.first c.ranges.first) (rw (to_z-of_z w64 c.args.last c.ranges.last))))))
