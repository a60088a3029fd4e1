-- The channels' rows behind the segments'.
use Rattle.rows.specs.Pour.{poured_more}
use Rattle.dials.proofs.gather.Goals as goal

pub returns-in-Some : goal.returns-in-Some
returns-in-Some c = rw c.in-Some.is (poured_more _ _ _ _ _ _ _ _ c.data_rows-count.ensures.0 c.channel_rows.ensures)
