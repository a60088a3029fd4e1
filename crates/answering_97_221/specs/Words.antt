-- "Under automatic control a data signal with the new value, outside the channel band, that passes every test before §97.221 and lies outside
-- automatic segments, within the elsewhere width and with response required, gets verdict code 20, automatic_originate": document 02, 3, each
-- of its words a definition. The channel band is demand 3's.
use Rattle.std.specs.Prelude.{ℕ, Bool, true, false, not, ◌&&◌, List, ◌≡◌, Float, Option, Some, None, Ok}
use Rattle.table.specs.declared.Elsewhere.{Elsewhere}
use Rattle.codes.specs.declared.ControlMode.TheVariants.{Automatic}
use Rattle.codes.specs.declared.Direction.TheVariants.{RespondToAutomatic}
use Rattle.codes.specs.declared.EmissionKind.TheVariants.{Data}
use Rattle.profile.specs.declared.Range.{Range}
use Rattle.occupancy.specs.declared.Edges.{Edges}
use Rattle.scan.specs.First.{on_found, is_at}
use Rattle.station.specs.Station.{situation_of}
use Rattle.station.specs.declared.Situation.{Situation}
use Rattle.station.specs.declared.StationRecord.{StationRecord}
use Rattle.layout.specs.Layout.{bands, segments, automatic, excluded}
use Rattle.table.specs.Table.{Table, table_of}
use Rattle.table.specs.Parts.{elsewhere_of}
use Rattle.find.specs.Question.{first_in, some_in}
use Rattle.find.specs.declared.Question.TheVariants.{Holds, OfBand}
use Rattle.entry.specs.Entry.{edges_read}
use Rattle.decision.specs.declared.Decision.{Decision}
use Rattle.decision.specs.declared.Verdict.TheVariants.{Blocked}
use Rattle.decision.specs.Reason.{AutomaticOriginate}
use Rattle.air.specs.Air.{wider}
use Rattle.part97.specs.Part97.{limit_for, band_at, privileged_of}
use Rattle.part97.specs.declared.Case.{Case}
use Rattle.part97.specs.declared.Privileged.{Privileged}
use Rattle.part97.specs.declared.Privileged.TheVariants.{Granted, Forbidden, Unheld}
use Rattle.verdict.specs.Verdict.{evaluate_of}
use Rattle.demand_3.specs.Words.{audio_of, rules_in_force, on_channel_band}
use Rattle.demand_3.specs.Exactly.{Prerequisites, judged_case}

-- ---- "every test before §97.221"

-- 97.301: a band holds the guarded range, and automatic control is not excluded from it
unfoldable pub band_passes : Table → Option ℕ → Bool
band_passes table found = on_found found (λ b. not (some_in table excluded (OfBand (band_at table b).band))) false

-- 97.307(f), 97.305(c): no wider than the limit, and inside a data segment
unfoldable pub segment_passes : Table → Float → Option ℕ → Bool
segment_passes table width found = not (wider width (limit_for table found).max_bandwidth_hz) && is_at found

-- 97.301, 97.307(f)(9): the operator's privileges allow data there
abbrev pub is_granted : Privileged → Bool
is_granted Granted = true
is_granted Forbidden = false
is_granted Unheld = false

unfoldable pub passes_before : Table → Case → Bool
passes_before table c =
    band_passes table (first_in table bands (Holds c.guarded))
    && (segment_passes table c.width (first_in table segments (Holds c.guarded)) && is_granted (privileged_of table c Data))

-- ---- "outside automatic segments, within the elsewhere width and with response required"

unfoldable pub outside_automatic : Table → Case → Bool
outside_automatic table c = not (some_in table automatic (Holds c.guarded))

abbrev pub asks_response : Option Elsewhere → Float → Bool
asks_response (Some e) width = not (wider width e.max_bandwidth_hz) && e.requires_response
asks_response None width = false

-- ---- the premises, and what is said

-- the case that is judged: data, with the new value
abbrev pub robot_case : (table : Table) (s : Situation) (audio : Range) (dial : Float) → Prerequisites table s → Case
robot_case table s audio dial met = judged_case table s RespondToAutomatic audio dial met

-- a verdict on data, kind 0, with the value 3 at the station's own dial
pub record Answering (r : StationRecord) (e : Edges) (l : List ℕ) (dial : Float) : Type 0 where
  -- judged by a table, with the prerequisites met
  pub not_refused : (evaluate_of r 0 3 e l).refusal ≡ Ok tt
  pub in_force_holds : rules_in_force (situation_of r) ≡ true
  pub met : Prerequisites (table_of l) (situation_of r)
  pub own_dial : (situation_of r).dial ≡ Some dial
  -- "Under automatic control"
  pub control : met.control ≡ Automatic
  -- "outside the channel band"
  pub off_channels : on_channel_band (table_of l) (situation_of r) (audio_of (table_of l) (edges_read e)) dial ≡ false
  pub passes : passes_before (table_of l) (robot_case (table_of l) (situation_of r) (audio_of (table_of l) (edges_read e)) dial met) ≡ true
  pub outside : outside_automatic (table_of l) (robot_case (table_of l) (situation_of r) (audio_of (table_of l) (edges_read e)) dial met) ≡ true
  pub elsewhere :
      asks_response (elsewhere_of (table_of l).general) (robot_case (table_of l) (situation_of r) (audio_of (table_of l) (edges_read e)) dial met).width ≡ true

-- "gets verdict code 20, automatic_originate"
pub record Answered (d : Decision) : Type 0 where
  pub verdict : d.verdict ≡ Blocked
  pub code : d.code ≡ AutomaticOriginate
