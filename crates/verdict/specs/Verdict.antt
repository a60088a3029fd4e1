-- The verdict: refusals in order, the policy, the prerequisites in order, and then Part 97 (Rattle.part97).
use Rattle.std.specs.Prelude.{ℕ, Bool, true, not, cond, ◌&&◌, List, [], ◌∷◌, ◌++◌, eqb, Float, Option, Some, None, Result, Ok, Err}
use Rattle.codes.specs.declared.Refusal.TheVariants as refusal
use Rattle.codes.specs.Refusal.{Checked, Test, test, refusal_of}
use Rattle.figures.specs.Figure.{zero_hz}
use Rattle.codes.specs.Read.{kind_valid, direction_valid, kind_of, direction_of}
use Rattle.codes.specs.declared.Policy.{Policy}
use Rattle.codes.specs.declared.Policy.TheVariants.{Unset, NoProfile as NoneApply, Rules, Broken}
use Rattle.codes.specs.declared.ControlMode.{ControlMode}
use Rattle.codes.specs.declared.LicenseClass.{LicenseClass}
use Rattle.codes.specs.declared.Sideband.{Sideband}
use Rattle.codes.specs.declared.EmissionKind.{EmissionKind}
use Rattle.codes.specs.declared.Direction.{Direction}
use Rattle.profile.specs.Range.{range}
use Rattle.profile.specs.declared.Range.{Range}
use Rattle.occupancy.specs.Edges.{range_of}
use Rattle.occupancy.specs.declared.Edges.{Edges}
use Rattle.occupancy.specs.declared.Reading.TheVariants.{Wider}
use Rattle.air.specs.Air.{rf_range_of, guarded_of, unguarded_of, width_of}
use Rattle.station.specs.Station.{situation_of}
use Rattle.station.specs.declared.StationRecord.{StationRecord}
use Rattle.station.specs.declared.Situation.{Situation}
use Rattle.layout.specs.declared.General.{General}
use Rattle.table.specs.Parts.{reading_of}
use Rattle.table.specs.Table.{Table, table_of}
use Rattle.transmission.specs.declared.Transmission.{Transmission}
use Rattle.automatic_97_221.specs.Automatic.{applies_of}
use Rattle.entry.specs.Entry.{entry_tests, edges_valid, edges_read}
use Rattle.decision.specs.Number.{no_rule, §97-301, §97-109}
use Rattle.decision.specs.Decision.{simple_of, refused_of}
use Rattle.decision.specs.declared.Verdict.{Verdict}
use Rattle.decision.specs.declared.Verdict.TheVariants.{Legal, Blocked}
use Rattle.decision.specs.declared.Code.{Code}
use Rattle.decision.specs.Reason.{NoProfile, ProfileBroken, NoRules, Unmeasured, Region, NoControl, NoLicense, NoSideband, NoDial}
use Rattle.decision.specs.declared.Draft.{Draft}
use Rattle.decision.specs.declared.Decision.{Decision}
use Rattle.part97.specs.Part97.{judge}
use Rattle.part97.specs.declared.Case.{Case}
use Rattle.verdict.specs.declared.Missing.{Missing}

-- the range on the air, where dial and sideband are known
unfoldable pub air_of : Option Float → Option Sideband → Range → Option Range
air_of (Some dial) (Some sideband) audio = Some (rf_range_of dial sideband audio)
air_of (Some dial) None audio = None
air_of None _ audio = None

-- the signal, before any test: its audio edges and width always, its edges on the air where dial and sideband are known
unfoldable pub signal_of : Option Float → Option Sideband → Range → Draft
signal_of dial sideband audio =
    record {
      audio = audio;
      width = width_of audio;
      air = air_of dial sideband audio;
      band = None;
      segment = None;
      automatic_segment = None;
    }

-- the facts that judging works from
unfoldable pub case_of : Situation → ControlMode → LicenseClass → Sideband → Float → EmissionKind → Direction → Range → Case
case_of s control class sideband dial kind direction audio =
    record {
      class = class;
      sideband = sideband;
      direction = direction;
      kind = kind;
      automatic = applies_of control direction;
      dial_hz = dial;
      audio = audio;
      width = width_of audio;
      air = rf_range_of dial sideband audio;
      guarded = guarded_of s.margin (rf_range_of dial sideband audio);
      advised = unguarded_of s.margin (guarded_of s.margin (rf_range_of dial sideband audio));
      power = s.power;
      band_plan = s.band_plan;
    }

-- "Prerequisites in order: region, control, licence, sideband, dial." The walk stops at the first one missing, with its code and rule.
abbrev pub missing : Option Code → ℕ → Missing
missing code rule = record { code = code; rule = rule }

abbrev pub required : {A : Type 0} → Option A → Missing → (A → Result Case Missing) → Result Case Missing
required (Some x) m next = next x
required None m next = Err m

-- the case to judge at a dial, or what is missing
unfoldable pub ready_of : General → Situation → Option Float → EmissionKind → Direction → Range → Result Case Missing
ready_of g s dial kind direction audio =
    cond (eqb s.itu_region g.region)
    (required s.control (missing NoControl §97-109)
    (λ control.
    required s.license (missing NoLicense §97-301)
    (λ class.
    required s.sideband (missing NoSideband no_rule)
    (λ sideband.
    required dial (missing NoDial no_rule)
    (λ hz. Ok (case_of s control class sideband hz kind direction audio))))))
    (Err (missing Region §97-301))

-- Part 97 judges a case; what is missing blocks
abbrev pub judged_of : Table → Draft → Result Case Missing → Decision
judged_of table signal (Ok c) = judge table c
judged_of table signal (Err m) = simple_of signal Blocked m.code m.rule

-- the verdict under an accepted table, at a dial
unfoldable pub under_rules_of : Table → Situation → Option Float → EmissionKind → Direction → Range → Decision
under_rules_of table s dial kind direction audio =
    judged_of table (signal_of dial s.sideband audio) (ready_of table.general s dial kind direction audio)

-- without a table the policy alone decides, and the reading is Wider
unfoldable pub unruled_of : Situation → Option Float → Edges → Verdict → Option Code → Decision
unruled_of s dial e verdict code = simple_of (signal_of dial s.sideband (range_of e Wider)) verdict code no_rule

-- by the policy, at a dial
unfoldable pub decide_of : Table → Situation → Policy → Option Float → EmissionKind → Direction → Edges → Decision
decide_of table s Unset dial kind direction e = unruled_of s dial e Blocked NoProfile
decide_of table s NoneApply dial kind direction e = unruled_of s dial e Legal NoRules
decide_of table s Rules dial kind direction e = under_rules_of table s dial kind direction (range_of e (reading_of table.general))
decide_of table s Broken dial kind direction e = unruled_of s dial e Blocked ProfileBroken

-- ---- of a transmission: its audio range by an image's reading, what the prerequisites under that image leave, and the decision

abbrev pub audio_on : List ℕ → Transmission → Range
audio_on l x = range_of x.edges (reading_of (table_of l).general)

abbrev pub ready_on : List ℕ → Transmission → Result Case Missing
ready_on l x = ready_of (table_of l).general x.station.now.situation x.dial x.kind x.direction (audio_on l x)

abbrev pub decision_on : Transmission → Decision
decision_on x =
    decide_of (table_of x.station.now.lent.now) x.station.now.situation x.station.now.situation.policy x.dial x.kind x.direction x.edges

-- the codes beside the record
abbrev pub beside_valid : ℕ → ℕ → Bool
beside_valid kind direction = kind_valid kind && direction_valid direction

-- "15 an edge not finite or above 2^40 in size"
abbrev pub edge_tests : Edges → List Test
edge_tests e = test refusal.SignalEdge (not (edges_valid e)) ∷ []

-- "Order: 20, 21, 22, 1 to 14, 15 …"
abbrev pub evaluate_tests : StationRecord → ℕ → ℕ → Edges → List ℕ → List Test
evaluate_tests r kind direction e l =
    entry_tests r (beside_valid kind direction) l ++ edge_tests e

-- the decision, or the refusal
abbrev pub unless_refused : Checked → Decision → Decision
unless_refused (Ok tt) d = d
unless_refused (Err n) d = refused_of n

-- `evaluate`
unfoldable pub evaluate_of : StationRecord → ℕ → ℕ → Edges → List ℕ → Decision
evaluate_of r kind direction e l =
    unless_refused (refusal_of (evaluate_tests r kind direction e l))
    (decide_of (table_of l) (situation_of r) (situation_of r).policy (situation_of r).dial (kind_of kind) (direction_of direction) (edges_read e))

-- `unmeasured`: a signal whose spectrum is not known is blocked with code 4; its edges are taken as zero
unfoldable pub unmeasured_of : StationRecord → List ℕ → Decision
unmeasured_of r l =
    unless_refused (refusal_of (entry_tests r true l))
    (simple_of (signal_of (situation_of r).dial (situation_of r).sideband (range zero_hz zero_hz)) Blocked Unmeasured no_rule)
