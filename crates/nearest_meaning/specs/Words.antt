-- Document 02's words for where to move the dial to (11).
use Rattle.std.specs.Prelude.{ℕ, true, false, List, ◌≡◌, Float, Ok}
use Rattle.std.specs.Float.Ieee.{le, eq}
use Rattle.figures.specs.Figure.{read_hz}
use Rattle.occupancy.specs.declared.Edges.{Edges}
use Rattle.station.specs.Station.{situation_of}
use Rattle.station.specs.declared.StationRecord.{StationRecord}
use Rattle.table.specs.Table.{table_of}
use Rattle.entry.specs.Entry.{edges_read}
use Rattle.eighths.specs.Grid.{in_eighths}
use Rattle.demand_3.specs.Words.{audio_of, on_channel_band, verdict_at, allows}
use Rattle.nearest_rows.specs.Over.{far_of, before}

-- a dial that one may move to: "Of the dials on the eighths grid whose guarded range the channel band doesn't hold", one "at which data is
-- allowed". The gate refuses no such dial: a refused one isn't judged. Negative zero reads as zero, as in every call.
pub record Open (r : StationRecord) (direction : ℕ) (e : Edges) (l : List ℕ) (dial : Float) : Type 0 where
  pub on_grid : in_eighths (read_hz dial) ≡ true
  pub not_refused : (verdict_at r direction e l dial).refusal ≡ Ok tt
  pub off_channels : on_channel_band (table_of l) (situation_of r) (audio_of (table_of l) (edges_read e)) (read_hz dial) ≡ false
  pub allowed : allows (verdict_at r direction e l dial) ≡ true

-- x and another dial, seen from the present one: "no allowed one is closer; of two equally close, the lower"
pub record AtLeastAsNear (present x other : Float) : Type 0 where
  -- the other is at least as far
  pub not_closer : le (far_of present x) (far_of present other) ≡ true
  -- and no lower if it is equally far
  pub not_lower : eq (far_of present x) (far_of present other) ≡ true → le x other ≡ true
  -- so in the search's order it does not go before x, and x goes before it if it is another
  pub not_before : before present other x ≡ false
  pub before_another : eq x other ≡ false → before present x other ≡ true
