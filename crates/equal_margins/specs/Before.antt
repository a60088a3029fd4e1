-- The calls with one margin, as they stood before document 02, 9: for the theorems beside this page, and for nothing else. The margin is a
-- figure beside the station record; the record's own margins are not looked at.
use Rattle.std.specs.Prelude.{ℕ, ◌/◌, Bool, true, not, cond, ◌&&◌, ◌||◌, List, [], ◌∷◌, ◌++◌, eqb, length, Float, Option, Some, None, Result, Ok, Err}
use Rattle.codes.specs.declared.Refusal.TheVariants as refusal
use Rattle.codes.specs.declared.Refusal.{Refusal}
use Rattle.std.specs.Float.{binary64}
use Rattle.std.specs.Float.Ieee.{add, sub}
use Rattle.figures.specs.Figure.{zero_hz, limit40, in_size, read_hz}
use Rattle.codes.specs.Read.{kind_of, direction_of, direction_valid}
use Rattle.codes.specs.Refusal.{Test, test, refusal_of}
use Rattle.codes.specs.declared.ControlMode.{ControlMode}
use Rattle.codes.specs.declared.Direction.{Direction}
use Rattle.codes.specs.declared.EmissionKind.{EmissionKind}
use Rattle.codes.specs.declared.EmissionKind.TheVariants.{Data}
use Rattle.codes.specs.declared.LicenseClass.{LicenseClass}
use Rattle.codes.specs.declared.Policy.{Policy}
use Rattle.codes.specs.declared.Policy.TheVariants.{Unset, NoProfile as NoneApply, Rules, Broken}
use Rattle.codes.specs.declared.Sideband.{Sideband}
use Rattle.codes.specs.declared.Sideband.TheVariants.{Usb, Lsb}
use Rattle.profile.specs.Range.{range, holds_of, intersect_of, channel_range_of}
use Rattle.profile.specs.declared.Range.{Range}
use Rattle.occupancy.specs.Edges.{range_of}
use Rattle.occupancy.specs.declared.Edges.{Edges}
use Rattle.air.specs.Air.{rf_range_of, width_of, dials_between}
use Rattle.station.specs.Station.{codes_valid, figure_valid, situation_of, under_rules}
use Rattle.station.specs.declared.Situation.{Situation}
use Rattle.station.specs.declared.StationRecord.{StationRecord}
use Rattle.layout.specs.Layout.{segments, channels, privileges, automatic}
use Rattle.layout.specs.declared.General.{General}
use Rattle.table.specs.Parts.{span_of, segment_of, centre_of, privilege_of, reading_of, channels_of}
use Rattle.table.specs.Table.{Table, table_of}
use Rattle.table.specs.declared.Segment.{Segment}
use Rattle.table.specs.declared.Privilege.{Privilege}
use Rattle.table.specs.declared.Channels.{Channels}
use Rattle.entry.specs.Entry.{image_tests, edges_valid, edges_read}
use Rattle.automatic_97_221.specs.Automatic.{applies_of}
use Rattle.decision.specs.Decision.{simple_of}
use Rattle.decision.specs.Number.{no_rule, §97-301, §97-109}
use Rattle.decision.specs.Reason.{Region, NoControl, NoLicense, NoSideband, NoDial}
use Rattle.decision.specs.Reason.{NoProfile, NoRules, ProfileBroken, Unmeasured}
use Rattle.decision.specs.declared.Decision.{Decision}
use Rattle.decision.specs.declared.Verdict.TheVariants.{Legal, Blocked}
use Rattle.part97.specs.declared.Case.{Case}
use Rattle.verdict.specs.declared.Missing.{Missing}
use Rattle.verdict.specs.Verdict.{signal_of, missing, required, judged_of, unruled_of, beside_valid, edge_tests, unless_refused}
use Rattle.ceiling.specs.Ceiling.{climbed, ceiling_unless_refused}
use Rattle.rungs.specs.Rungs.{burst_of, rung_tests}
use Rattle.ceiling.specs.declared.CeilingAnswer.{CeilingAnswer}
use Rattle.lists.specs.Each.{each}
use Rattle.rows.specs.declared.SafeDial.{SafeDial}
use Rattle.dial_rows.specs.Dials.{request_of, dial_rows, on_shared, cut, may_use, too_wide, excluded_band, channel_found, channels_open, channel_dial, channel_safe}
use Rattle.dial_rows.specs.declared.Request.{Request}
use Rattle.dials.specs.List.{rows_with_sideband, rows_with_license, rows_with_control, lent_tests, Listed}

-- ---- ranges

-- "The guarded range is that range less the margin below and plus it above."
abbrev pub guarded_before : Float → Range → Range
guarded_before margin r = range (sub binary64 r.low_hz margin) (add binary64 r.high_hz margin)

-- "the margin is taken off and put back in floats"
abbrev pub unguarded_before : Float → Range → Range
unguarded_before margin r = range (add binary64 r.low_hz margin) (sub binary64 r.high_hz margin)

-- each end of a piece less the audio, then the margin
abbrev pub dial_ends_before : Range → Sideband → Range → Float → Range
dial_ends_before piece Usb audio margin =
    range (add binary64 (sub binary64 piece.low_hz audio.low_hz) margin)
    (sub binary64 (sub binary64 piece.high_hz audio.high_hz) margin)
dial_ends_before piece Lsb audio margin =
    range (add binary64 (add binary64 piece.low_hz audio.high_hz) margin)
    (sub binary64 (add binary64 piece.high_hz audio.low_hz) margin)

-- ---- refusals

unfoldable pub figures_before : StationRecord → Float → Bool
figures_before r margin =
    in_size limit40 margin && (figure_valid r.dial_known r.dial_hz && figure_valid r.power_known r.power_w)

-- 20 to 22, and 1 to 14
abbrev pub entry_before : StationRecord → Float → Bool → List ℕ → List Test
entry_before r margin beside l =
    (test refusal.StationCode (not (codes_valid r) || not beside) ∷ test refusal.StationFigure (not (figures_before r margin)) ∷ test refusal.NoImage (under_rules r && eqb (length l) 0) ∷ [])
    ++ image_tests r l

-- ---- verdict and ceiling: the station and its margin as they are read

unfoldable pub case_before : Situation → Float → ControlMode → LicenseClass → Sideband → Float → EmissionKind → Direction → Range → Case
case_before s margin control class sideband dial kind direction audio =
    record {
      class = class;
      sideband = sideband;
      direction = direction;
      kind = kind;
      automatic = applies_of control direction;
      dial_hz = dial;
      audio = audio;
      width = width_of audio;
      air = rf_range_of dial sideband audio;
      guarded = guarded_before margin (rf_range_of dial sideband audio);
      advised = unguarded_before margin (guarded_before margin (rf_range_of dial sideband audio));
      power = s.power;
      band_plan = s.band_plan;
    }

unfoldable pub ready_before : General → Situation → Float → Option Float → EmissionKind → Direction → Range → Result Case Missing
ready_before g s margin dial kind direction audio =
    cond (eqb s.itu_region g.region)
    (required s.control (missing NoControl §97-109)
    (λ control.
    required s.license (missing NoLicense §97-301)
    (λ class.
    required s.sideband (missing NoSideband no_rule)
    (λ sideband.
    required dial (missing NoDial no_rule)
    (λ hz. Ok (case_before s margin control class sideband hz kind direction audio))))))
    (Err (missing Region §97-301))

unfoldable pub decide_before : Table → Situation → Float → Policy → Option Float → EmissionKind → Direction → Edges → Decision
decide_before table s margin Unset dial kind direction e = unruled_of s dial e Blocked NoProfile
decide_before table s margin NoneApply dial kind direction e = unruled_of s dial e Legal NoRules
decide_before table s margin Rules dial kind direction e =
    let audio = range_of e (reading_of table.general) in
    judged_of table (signal_of dial s.sideband audio) (ready_before table.general s margin dial kind direction audio)
decide_before table s margin Broken dial kind direction e = unruled_of s dial e Blocked ProfileBroken

unfoldable pub evaluate_before : StationRecord → Float → ℕ → ℕ → Edges → List ℕ → Decision
evaluate_before r margin kind direction e l =
    unless_refused (refusal_of (entry_before r margin (beside_valid kind direction) l ++ edge_tests e))
    (decide_before (table_of l) (situation_of r) (read_hz margin) (situation_of r).policy (situation_of r).dial (kind_of kind) (direction_of direction)
    (edges_read e))

unfoldable pub unmeasured_before : StationRecord → Float → List ℕ → Decision
unmeasured_before r margin l =
    unless_refused (refusal_of (entry_before r margin true l))
    (simple_of (signal_of (situation_of r).dial (situation_of r).sideband (range zero_hz zero_hz)) Blocked Unmeasured no_rule)

abbrev pub judge_before : Table → Situation → Float → Direction → Edges → Decision
judge_before table s margin direction e = decide_before table s margin s.policy s.dial Data direction e

unfoldable pub ceiling_before : StationRecord → Float → ℕ → Edges → Edges → List ℕ → List Float → List ℕ → CeilingAnswer
ceiling_before r margin direction ordinary floor l rungs floors =
    ceiling_unless_refused (refusal_of (entry_before r margin (direction_valid direction) l ++ rung_tests ordinary floor rungs floors))
    (climbed (judge_before (table_of l) (situation_of r) (read_hz margin) (direction_of direction))
    (burst_of (edges_read ordinary) (edges_read floor) rungs floors) (length rungs / 4))

-- ---- the list: what a piece gives and which channels hold the signal are the two places that know the margin; around them the list is made
-- as it is now

module _ (table : Table) (q : Request) (rows : ℕ → ℕ → Range → List SafeDial) (holds : Channels → Float → Bool) where
  abbrev pub cuts_with : Segment → Range → List SafeDial
  cuts_with s piece =
      cond (cut q)
      (each (table.count automatic) (λ a. on_shared (intersect_of piece (span_of (table.at automatic a))) (rows s.band q.segments_rule)))
      (rows s.band s.rule piece)

  abbrev pub privilege_with : Segment → Privilege → List SafeDial
  privilege_with s p = cond (may_use q p) (on_shared (intersect_of s.range p.range) (cuts_with s)) []

  abbrev pub segment_with : Segment → List SafeDial
  segment_with s =
      cond (too_wide q s || excluded_band table q s) []
      (each (table.count privileges) (λ p. privilege_with s (privilege_of (table.at privileges p))))

  abbrev pub channel_with : Channels → Float → List SafeDial
  channel_with c centre = cond (holds c centre) (channel_safe c centre ∷ []) []

  abbrev pub channels_with : Option Channels → List SafeDial
  channels_with (Some c) =
      cond (channels_open q && channel_found table q)
      (each (table.count channels) (λ i. channel_with c (centre_of (table.at channels i)))) []
  channels_with None = []

  unfoldable pub rows_with : List SafeDial
  rows_with = each (table.count segments) (λ s. segment_with (segment_of (table.at segments s))) ++ channels_with (channels_of table.general)

unfoldable pub piece_before : Request → Float → ℕ → ℕ → Range → List SafeDial
piece_before q margin band rule piece = dial_rows band rule piece (dials_between (dial_ends_before piece q.sideband q.audio margin))

abbrev pub channel_before : Request → Float → Channels → Float → Bool
channel_before q margin c centre =
    holds_of (channel_range_of c.width_hz centre) (guarded_before margin (rf_range_of (channel_dial c centre) q.sideband q.audio))

abbrev pub rows_before : Table → Request → Float → List SafeDial
rows_before table q margin = rows_with table q (piece_before q margin) (channel_before q margin)

unfoldable pub list_before : StationRecord → Float → ℕ → Edges → List ℕ → List SafeDial
list_before r margin direction e l =
    let table = table_of l in
    let s = situation_of r in
    cond (under_rules r)
    (rows_with_sideband s.sideband
    (λ sideband. rows_with_license s.license
    (λ license. rows_with_control s.control
    (λ control.
    rows_before table
    (request_of table.general license sideband control (direction_of direction) s.margin (range_of (edges_read e) (reading_of table.general)))
    (read_hz margin)))))
    []

abbrev pub SafeDialsBefore : StationRecord → Float → ℕ → Edges → List ℕ → List ℕ → List ℕ → Result ℕ Refusal → Type 0
SafeDialsBefore r margin direction e l lent left answer =
    Listed
    (refusal_of
    (entry_before r margin (direction_valid direction) l ++ (test refusal.SignalEdge (not (edges_valid e)) ∷ lent_tests (list_before r margin direction e l) lent)))
    (list_before r margin direction e l) lent left answer
