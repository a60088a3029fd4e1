-- What a ladder is climbed by: how a sender's envelope is judged, what a finding on it leads to, and the rungs.
use Rattle.std.specs.Prelude.{ℕ}
use Rattle.occupancy.specs.declared.Edges.{Edges}
use Rattle.table.specs.Table.{table_of}
use Rattle.decision.specs.declared.Decision.{Decision}
use Rattle.part97.specs.declared.Finding.{Finding}
use Rattle.rungs.specs.Rungs.{burst_of}
use Rattle.rungs.specs.declared.Rungs.{Rungs}
use Rattle.ceiling.specs.Ceiling.{judge_by, lead_by}
use Rattle.ceiling.specs.declared.Sender.{Sender}

abbrev pub judge_on : Sender → Edges → Decision
judge_on x = judge_by (table_of x.station.lent.now) x.station.situation x.direction

abbrev pub lead_on : Sender → Edges → Finding → Decision
lead_on x = lead_by (table_of x.station.lent.now) x.station.situation x.direction

abbrev pub bursts_on : Rungs → ℕ → Edges
bursts_on x = burst_of x.ordinary x.floor x.figures.now x.floors.now
