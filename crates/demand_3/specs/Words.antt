-- Document 01's words for demand 3, each a definition of its own, and the premises by what they are about: the table, the station and the
-- signal. Tidy is the tidy question's (Rattle.tidy), in eighths the grid's (Rattle.eighths).
use Rattle.std.specs.Prelude.{ℕ, ◌*◌, ◌<◌, Bool, true, false, not, ◌&&◌, ◌||◌, List, ◌≡◌, eqb, Float, Option, Some, None, Result, Ok, Err}
use Rattle.codes.specs.Refusal.{Checked, refusal_of}
use Rattle.codes.specs.declared.ControlMode.{ControlMode}
use Rattle.codes.specs.declared.LicenseClass.{LicenseClass}
use Rattle.codes.specs.declared.Sideband.{Sideband}
use Rattle.codes.specs.declared.Refusal.{Refusal}
use Rattle.std.specs.Float.{binary64}
use Rattle.std.specs.Float.Ieee.{add, lt, eq}
use Rattle.figures.specs.Figure.{zero_hz, figure_of, read_hz}
use Rattle.codes.specs.Code.{bit_of, policy_code}
use Rattle.codes.specs.declared.Policy.TheVariants.{Rules}
use Rattle.profile.specs.declared.Range.{Range}
use Rattle.occupancy.specs.Edges.{range_of}
use Rattle.occupancy.specs.declared.Edges.{Edges}
use Rattle.air.specs.Air.{rf_range_of, guarded_of, width_of}
use Rattle.air.specs.declared.Margins.{Margins}
use Rattle.scan.specs.First.{some}
use Rattle.station.specs.Station.{situation_of}
use Rattle.station.specs.declared.StationRecord.{StationRecord}
use Rattle.station.specs.declared.Situation.{Situation}
use Rattle.layout.specs.Layout.{tables, bands, power, general_of}
use Rattle.layout.specs.declared.General.{General}
use Rattle.layout.specs.declared.Record.{Record}
use Rattle.table.specs.Parts.{reading_of}
use Rattle.table.specs.Table.{Table, table_of}
use Rattle.find.specs.Question.{some_in}
use Rattle.find.specs.declared.Question.TheVariants.{BandHolds}
use Rattle.image.specs.Check.{content_tests}
use Rattle.entry.specs.Entry.{edges_read}
use Rattle.tidy.specs.Tidy.{tidy_table}
use Rattle.eighths.specs.Grid.{in_eighths}
use Rattle.decision.specs.declared.Verdict.{Verdict}
use Rattle.decision.specs.declared.Verdict.TheVariants.{Legal, Warning, Blocked}
use Rattle.decision.specs.declared.Decision.{Decision}
use Rattle.verdict.specs.Verdict.{evaluate_of}
use Rattle.distance.specs.Distance.{distance_of, is_outside}
use Rattle.rows.specs.Rows.{row_size, row_band}

-- ---- in eighths: "Hertz figures are those of image, edges, station record and dial asked; watts are none."

-- a power record's figure is in watts
unfoldable pub record_in_eighths : ℕ → Record → Bool
record_in_eighths t r =
    in_eighths (figure_of r.low) && (in_eighths (figure_of r.high) && (eqb t power || in_eighths (figure_of r.figure)))

unfoldable pub block_in_eighths : General → Bool
block_in_eighths g =
    in_eighths (figure_of g.data_limit) && (in_eighths (figure_of g.elsewhere_limit) && (in_eighths (figure_of g.channel_width)
    && (in_eighths (figure_of g.carrier_offset) && in_eighths (figure_of g.carrier_tolerance))))

-- a record that is not
abbrev pub off_grid_at : Table → ℕ → ℕ → Bool
off_grid_at table t i = not (record_in_eighths t (table.at t i))

abbrev pub off_grid_in : Table → ℕ → Bool
off_grid_in table t = some (off_grid_at table t) (table.count t)

unfoldable pub table_in_eighths : Table → Bool
table_in_eighths table = block_in_eighths table.general && not (some (off_grid_in table) tables)

abbrev pub range_in_eighths : Range → Bool
range_in_eighths r = in_eighths r.low_hz && in_eighths r.high_hz

-- both pairs, also the one that isn't read
unfoldable pub edges_in_eighths : Edges → Bool
edges_in_eighths e = range_in_eighths e.power && range_in_eighths e.spectral

-- "at 0 the figure isn't looked at"; negative zero, which reads as zero, is in eighths as zero is
abbrev pub dial_in_eighths : Option Float → Bool
dial_in_eighths (Some x) = in_eighths x
dial_in_eighths None = true

abbrev pub margins_in_eighths : Margins → Bool
margins_in_eighths m = in_eighths m.lower_hz && in_eighths m.upper_hz

unfoldable pub station_in_eighths : Situation → Bool
station_in_eighths s = margins_in_eighths s.margin && dial_in_eighths s.dial

-- ---- the station record at the dial asked: "only the dial may differ"

unfoldable pub tuned : StationRecord → Float → StationRecord
tuned r dial =
    record {
      policy = r.policy;
      control = r.control;
      license = r.license;
      sideband = r.sideband;
      itu_region = r.itu_region;
      band_plan = r.band_plan;
      dial_known = 1;
      power_known = r.power_known;
      margin = r.margin;
      dial_hz = dial;
      power_w = r.power_w;
    }

-- the audio range of a signal, by the table's reading of bandwidth
abbrev pub audio_of : Table → Edges → Range
audio_of table e = range_of e (reading_of table.general)

-- ---- in force: "A table is in force if the policy is Rules and no image check refuses it."

abbrev pub accepted : Checked → Bool
accepted (Ok tt) = true
accepted (Err n) = false

abbrev pub rules_in_force : Situation → Bool
rules_in_force s = eqb (policy_code s.policy) (policy_code Rules)

-- of a table, the checks of what it holds (5 to 14); those of its bytes (1 to 4) are met by every call that isn't refused
abbrev pub unrefused : Table → Bool
unrefused table = accepted (refusal_of (content_tests table))

-- ---- prerequisites: "Prerequisites are met if none of the five tests fails, in the list call or in the verdict."

abbrev pub has_control : Option ControlMode → Bool
has_control (Some c) = true
has_control None = false

abbrev pub has_license : Option LicenseClass → Bool
has_license (Some c) = true
has_license None = false

abbrev pub has_sideband : Option Sideband → Bool
has_sideband (Some s) = true
has_sideband None = false

abbrev pub has_dial : Option Float → Bool
has_dial (Some x) = true
has_dial None = false

-- region, control, licence, sideband, dial; the list call tests the middle three
unfoldable pub prerequisites_met : Table → Situation → Bool
prerequisites_met table s =
    eqb s.itu_region table.general.region
    && (has_control s.control && (has_license s.license && (has_sideband s.sideband && has_dial s.dial)))

-- ---- the guarded width: "the width, high less low of the edges read", "A positive guarded width is now width plus both."

unfoldable pub guarded_width : Range → Margins → Float
guarded_width audio margin = add binary64 (width_of audio) (add binary64 margin.lower_hz margin.upper_hz)

unfoldable pub positive_width : Situation → Range → Bool
positive_width s audio = lt zero_hz (guarded_width audio s.margin)

-- ---- the channel band: "every band of byte 43's number, none if flag bit 2 is clear. It holds a range if one of its bands does."

unfoldable pub channel_band_holds : Table → Range → Bool
channel_band_holds table r = bit_of table.general.flags 2 && some_in table bands (BandHolds table.general.channel_band r)

-- it holds the guarded range of the signal at a dial, on the station's sideband
abbrev pub channels_hold : Table → Range → Margins → Float → Option Sideband → Bool
channels_hold table audio margin dial (Some sideband) = channel_band_holds table (guarded_of margin (rf_range_of dial sideband audio))
channels_hold table audio margin dial None = false

unfoldable pub on_channel_band : Table → Situation → Range → Float → Bool
on_channel_band table s audio dial = channels_hold table audio s.margin dial s.sideband

-- ---- "a tidy table in force, all hertz figures in eighths, prerequisites met, a positive guarded width": what of it is on the table, on the
-- station and on the signal, station and edges as they are read

-- tidy, refused by no check, in eighths
unfoldable pub table_met : Table → Bool
table_met table = unrefused table && (tidy_table table && table_in_eighths table)

-- Rules in force, prerequisites met, margins and dial in eighths
unfoldable pub station_met : Table → Situation → Bool
station_met table s = rules_in_force s && (prerequisites_met table s && station_in_eighths s)

-- edges in eighths, a positive guarded width
unfoldable pub signal_met : Table → Situation → Edges → Bool
signal_met table s e = edges_in_eighths e && positive_width s (audio_of table e)

-- ---- fitted: "A list fitted if its call wasn't refused."

abbrev pub Fitted : Result ℕ Refusal → ℕ → Type 0
Fitted answer count = answer ≡ Ok count

-- ---- the three answers

-- the verdict on data (kind 0) at a dial: list and verdict "go by the same image, edges, direction and station record"
abbrev pub verdict_at : StationRecord → ℕ → Edges → List ℕ → Float → Decision
verdict_at r direction e l dial = evaluate_of (tuned r dial) 0 direction e l

-- a verdict that isn't Blocked
abbrev pub sent : Verdict → Bool
sent Legal = true
sent Warning = true
sent Blocked = false

-- "The gate allows data at a dial if its verdict on a data signal there isn't Blocked."
abbrev pub allows : Decision → Bool
allows d = sent d.verdict

-- the distance of a dial from the rows that the list call left
abbrev pub distance_at : List ℕ → ℕ → List ℕ → Float → Result (Option Float) Refusal
distance_at l count left dial = distance_of dial (general_of l).flags (general_of l).channel_band count left

-- nought
abbrev pub nought : Result (Option Float) Refusal → Bool
nought (Ok (Some d)) = eq d zero_hz
nought (Ok None) = false
nought (Err n) = false

-- a distance or "none listed", and no refusal
abbrev pub answers : Result (Option Float) Refusal → Bool
answers (Ok (Some d)) = true
answers (Ok None) = true
answers (Err n) = false

-- no row that was left lies outside the channel band
abbrev pub NoneOutside : List ℕ → ℕ → List ℕ → Type 0
NoneOutside l count left =
    (i : ℕ) → i < count → is_outside (general_of l).flags (general_of l).channel_band (row_band left (i * row_size)) ≡ false

-- ---- the premises, and what demand 3 says

pub record Premises (r : StationRecord) (direction : ℕ) (e : Edges) (l : List ℕ) (count : ℕ) (answer : Result ℕ Refusal) (dial : Float) : Type 0 where
  pub table : table_met (table_of l) ≡ true
  -- at the dial asked; the list's own dial is in eighths too
  pub station : station_met (table_of l) (situation_of (tuned r dial)) ≡ true
  pub own_dial : dial_in_eighths (situation_of r).dial ≡ true
  pub signal : signal_met (table_of l) (situation_of r) (edges_read e) ≡ true
  pub fitted : Fitted answer count
  -- the gate does not refuse the dial
  pub not_refused : (verdict_at r direction e l dial).refusal ≡ Ok tt
  pub off_channels : on_channel_band (table_of l) (situation_of r) (audio_of (table_of l) (edges_read e)) (read_hz dial) ≡ false

pub record Demand3 (r : StationRecord) (direction : ℕ) (e : Edges) (l : List ℕ) (count : ℕ) (left : List ℕ) (dial : Float) : Type 0 where
  -- the distance call refuses no such dial
  pub answered : answers (distance_at l count left dial) ≡ true
  -- the distance is nought exactly when the gate allows data at that dial
  pub exactly : nought (distance_at l count left dial) ≡ allows (verdict_at r direction e l dial)
  -- with none listed the answer says so and is not nought, and the gate blocks data at that dial
  pub none_listed :
      NoneOutside l count left
      → (distance_at l count left dial ≡ Ok None) × (nought (distance_at l count left dial) ≡ false)
      × ((verdict_at r direction e l dial).verdict ≡ Blocked)
