-- "Respond to automatic" answers what Originate answers, in verdict, ceiling and dial list, for every input: of a direction is asked only
-- whether 97.221 applies and whether it is a plain response, and in both the two agree.
use Prim.Native.Nat.{ℕ, zero, suc, ◌/◌}
use Rattle.std.specs.Prelude.{Option, Some, None, Result, Ok, Err, Bool, true, not, List, [], ◌∷◌, ◌++◌, ◌≡◌, eqb, Float, length}
use Rattle.codes.specs.declared.Refusal.TheVariants as refusal
use Rattle.codes.specs.declared.Refusal.{Refusal}
use Rattle.table.specs.declared.Elsewhere.{Elsewhere}
use Rattle.std.proofs.Math.Bool.{false, cond}
use Rattle.std.proofs.Math.Path.{refl, ap, ap₂, fun_ext}
use Rattle.std.proofs.Common.{sym, ◌∙◌, subst}
use Rattle.codes.specs.declared.Direction.{Direction}
use Rattle.codes.specs.declared.Direction.TheVariants.{Originate, RespondToAutomatic}
use Rattle.codes.specs.declared.ControlMode.{ControlMode}
use Rattle.codes.specs.declared.LicenseClass.{LicenseClass}
use Rattle.codes.specs.declared.Sideband.{Sideband}
use Rattle.codes.specs.declared.EmissionKind.{EmissionKind}
use Rattle.codes.specs.declared.EmissionKind.TheVariants.{Data, Cw, Test, Nothing as NoEmission}
use Rattle.codes.specs.Read.{kind_of}
use Rattle.codes.specs.Refusal.{test, refusal_of}
use Rattle.codes.specs.declared.Policy.{Policy}
use Rattle.codes.specs.declared.Policy.TheVariants.{Unset, NoProfile as NoneApply, Rules, Broken}
use Rattle.profile.specs.declared.Range.{Range}
use Rattle.occupancy.specs.declared.Edges.{Edges}
use Rattle.station.specs.Station.{situation_of, under_rules}
use Rattle.station.specs.declared.Situation.{Situation}
use Rattle.station.specs.declared.StationRecord.{StationRecord}
use Rattle.layout.specs.Layout.{bands, segments, channels, automatic, excluded}
use Rattle.table.specs.Table.{Table, table_of}
use Rattle.table.specs.Parts.{reading_of, data_of, elsewhere_of, channels_of, excluded_of, span_of, centre_of, sixty_of}
use Rattle.table.specs.declared.Segment.{Segment}
use Rattle.table.specs.declared.Channels.{Channels}
use Rattle.find.specs.Question.{first_in}
use Rattle.find.specs.declared.Question.TheVariants.{Holds, ChannelOverlaps, OfBand}
use Rattle.scan.specs.First.{on_found}
use Rattle.air.specs.Air.{wider, width_of}
use Rattle.occupancy.specs.Edges.{range_of}
use Rattle.automatic_97_221.specs.Automatic.{applies_of, elsewhere_allows}
use Rattle.codes.specs.Code.{bit_of, kind_code, class_code}
use Rattle.profile.specs.Range.{holds_of, channel_range_of}
use Rattle.entry.specs.Entry.{entry_tests, edges_valid, edges_read}
use Rattle.decision.specs.declared.Decision.{Decision}
use Rattle.decision.specs.declared.Draft.{Draft}
use Rattle.decision.specs.Reason.{Region, NoControl, NoLicense, NoSideband, NoDial}
use Rattle.decision.specs.Reason.{OutOfBand, AutomaticExcluded, OutsideDataSegment, NoDataHere}
use Rattle.decision.specs.Reason.{Permitted, AutomaticSegment, Privilege, SixtyEmission, SixtyOffChannel, SixtyChannel}
use Rattle.decision.specs.declared.SixtyNotes.{SixtyNotes}
use Rattle.decision.specs.declared.Verdict.TheVariants.{Blocked}
use Rattle.decision.specs.Decision.{simple_of, finish_of, no_advice}
use Rattle.decision.specs.Number.{no_rule, §97-301, §97-109, §97-305c}
use Rattle.part97.specs.declared.Case.{Case}
use Rattle.part97.specs.Part97.{draft_of, draft_inside, draft_automatic, privileged_of, noted, wants_plan, guidance_of, advice_of, advice_warns, advised}
use Rattle.part97.specs.Part97.{automatic_elsewhere, automatic_data, considered, nearest_up_to, outside_segments, inside_segment, judge_data}
use Rattle.part97.specs.Part97.{sixty_channel, in_sixty_segment, sixty_segment, sixty_overlap, sixty_place, sixty_emission, sixty_kind, sixty, judge_on_band}
use Rattle.part97.specs.Part97.{judge_in_band, touching, judge}
use Rattle.part97.specs.Part97.{band_at, segment_at, limit_for, blocked_too_wide, overshoot_of, on_nearest, off_sixty, some_privilege, under_privilege}
use Rattle.part97.specs.Part97.{advised_automatic, automatic_rule_of, exceeds, channel_watts_of, allowed_on_sixty, on_channel}
use Rattle.verdict.specs.declared.Missing.{Missing}
use Rattle.verdict.specs.Verdict.{signal_of, case_of, missing, required, ready_of, judged_of, under_rules_of, decide_of, evaluate_tests, unless_refused, evaluate_of}
use Rattle.ceiling.specs.Ceiling.{judge_by, climbed, ceiling_unless_refused, ceiling_of}
use Rattle.rungs.specs.Rungs.{burst_of, ceiling_tests}
use Rattle.dial_rows.specs.Dials.{request_of, rows_of}
use Rattle.rows.specs.declared.SafeDial.{SafeDial}
use Rattle.dials.specs.List.{rows_with_sideband, rows_with_license, rows_with_control, known_rows, situation_rows, list_rows, lent_tests, Listed, SafeDials}

-- a case with another direction
abbrev turned : Case → Direction → Case
turned c d =
    record {
      class = c.class;
      sideband = c.sideband;
      direction = d;
      kind = c.kind;
      automatic = c.automatic;
      dial_hz = c.dial_hz;
      audio = c.audio;
      width = c.width;
      air = c.air;
      guarded = c.guarded;
      advised = c.advised;
      power = c.power;
      band_plan = c.band_plan;
    }

module _ (table : Table) (c : Case) where
  nearest_same : (n : ℕ) → nearest_up_to table (turned c RespondToAutomatic) n ≡ nearest_up_to table (turned c Originate) n
  unfolding nearest_up_to considered
  nearest_same zero = refl
  nearest_same (suc n) = ap (λ (best : Option (ℕ × Float)). considered (turned c Originate) best n (segment_at table n).range) (nearest_same n)

  abbrev answering : Case
  answering = turned c RespondToAutomatic

  abbrev calling : Case
  calling = turned c Originate

  outside_same : (band : ℕ) → outside_segments table answering band ≡ outside_segments table calling band
  unfolding outside_segments draft_of draft_inside
  outside_same band =
      ap
      (λ (n : Option (ℕ × Float)).
      on_nearest n
      (λ i.
      finish_of (draft_inside calling band (segment_at table i).range (segment_at table i).rule) Blocked OutsideDataSegment (segment_at table i).rule
      (Some (overshoot_of (segment_at table i).range c.air)) no_advice)
      (simple_of (draft_of calling (Some band)) Blocked NoDataHere §97-305c))
      (nearest_same (table.count segments))

  -- 97.221(c), then (b), then what stands before them inside a segment
  elsewhere_judged : (draft : Draft) (w : Option Elsewhere) → automatic_elsewhere table answering draft w ≡ automatic_elsewhere table calling draft w
  unfolding automatic_elsewhere advised advice_warns advice_of noted guidance_of wants_plan
  elsewhere_judged draft (Some e) = refl
  elsewhere_judged draft None = refl

  automatic_same : (band : ℕ) (segment : Range) (rule : ℕ)
      → automatic_data table answering band segment rule ≡ automatic_data table calling band segment rule
  unfolding automatic_data draft_inside draft_automatic advised advice_warns advice_of noted guidance_of wants_plan
  automatic_same band segment rule =
      ap
      (λ (d : Decision).
      on_found (first_in table automatic (Holds c.guarded))
      (λ a.
      advised_automatic table calling (draft_automatic calling band segment rule (span_of (table.at automatic a))) AutomaticSegment (automatic_rule_of table)) d)
      (elsewhere_judged (draft_inside calling band segment rule) (elsewhere_of table.general))

  inside_same : (band : ℕ) (s : Segment) → inside_segment table answering band s ≡ inside_segment table calling band s
  unfolding inside_segment privileged_of draft_inside advised advice_warns advice_of noted guidance_of wants_plan
  inside_same band s =
      ap
      (λ (d : Decision).
      under_privilege (privileged_of table calling Data) (draft_inside calling band s.range s.rule)
      (cond c.automatic d (advised table calling c.air (draft_inside calling band s.range s.rule) Permitted s.rule)))
      (automatic_same band s.range s.rule)

  data_same : (band : ℕ) (found : Option ℕ) → judge_data table answering band found ≡ judge_data table calling band found
  unfolding judge_data draft_of
  data_same band found =
      let placed : (ℕ → Decision) → Decision → Decision =
      λ f d. cond (wider c.width (limit_for table found).max_bandwidth_hz) (blocked_too_wide calling band (limit_for table found)) (on_found found f d) in
      ap (λ (f : ℕ → Decision). placed f (outside_segments table answering band)) (fun_ext (λ i. inside_same band (segment_at table i)))
      ∙ ap (placed (λ i. inside_segment table calling band (segment_at table i))) (outside_same band)

  -- 60 m
  on_channel_same : (ch : Channels) (centre : Float) (kind : EmissionKind) → on_channel answering ch centre kind ≡ on_channel calling ch centre kind
  on_channel_same ch centre Data = refl
  on_channel_same ch centre Cw = refl
  on_channel_same ch centre Test = refl
  on_channel_same ch centre NoEmission = refl

  channel_same : (ch : Channels) (centre : Float) → sixty_channel table answering ch centre ≡ sixty_channel table calling ch centre
  unfolding sixty_channel draft_inside
  channel_same ch centre =
      let draft = draft_inside calling ch.band (channel_range_of ch.width_hz centre) ch.rule in
      let marks : SixtyNotes = record { channel_power = exceeds c.power (channel_watts_of table); shared = true; segment_power = false } in
      ap
      (λ (b : Bool).
      cond b (allowed_on_sixty draft (exceeds c.power (channel_watts_of table)) SixtyChannel ch.rule marks) (simple_of draft Blocked SixtyChannel ch.rule))
      (on_channel_same ch centre c.kind)

  overlap_same : (ch : Channels) (centre : Float) → sixty_overlap table answering ch centre ≡ sixty_overlap table calling ch centre
  unfolding sixty_overlap sixty_segment draft_inside
  overlap_same ch centre =
      ap
      (λ (d : Decision). cond (holds_of (channel_range_of ch.width_hz centre) c.guarded) d (in_sixty_segment table calling ch d))
      (channel_same ch centre)

  place_same : (ch : Channels) → sixty_place table answering ch ≡ sixty_place table calling ch
  unfolding sixty_place sixty_segment draft_of draft_inside
  place_same ch =
      ap
      (λ (f : ℕ → Decision).
      on_found (first_in table channels (ChannelOverlaps ch.width_hz c.guarded)) f
      (in_sixty_segment table calling ch (simple_of (draft_of calling (Some ch.band)) Blocked SixtyOffChannel ch.rule)))
      (fun_ext (λ i. overlap_same ch (centre_of (table.at channels i))))

  emission_same : (ch : Channels) (x : Option (ℕ × ℕ)) → sixty_emission table answering ch x ≡ sixty_emission table calling ch x
  unfolding sixty_emission draft_of
  emission_same ch (Some (bits, rule)) =
      ap
      (λ (d : Decision). cond (bit_of bits (kind_code c.kind)) d (simple_of (draft_of calling (Some ch.band)) Blocked SixtyEmission rule))
      (place_same ch)
  emission_same ch None = place_same ch

  kind_same : (ch : Channels) (kind : EmissionKind) → sixty_kind table answering ch kind ≡ sixty_kind table calling ch kind
  unfolding sixty_kind draft_of
  kind_same ch Data = emission_same ch (sixty_of table.general)
  kind_same ch Cw = emission_same ch (sixty_of table.general)
  kind_same ch Test = emission_same ch (sixty_of table.general)
  kind_same ch NoEmission = refl

  sixty_same : (ch : Channels) → sixty table answering ch ≡ sixty table calling ch
  unfolding sixty draft_of
  sixty_same ch =
      ap
      (λ (d : Decision). cond (some_privilege table calling c.air) d (simple_of (draft_of calling (Some ch.band)) Blocked Privilege §97-301))
      (kind_same ch c.kind)

  off_same : (band : ℕ) (kind : EmissionKind) → off_sixty table answering band kind ≡ off_sixty table calling band kind
  unfolding draft_of privileged_of
  off_same band Data = data_same band (first_in table segments (Holds c.guarded))
  off_same band Cw = refl
  off_same band Test = refl
  off_same band NoEmission = refl

  on_band_same : (band : ℕ) (x : Option Channels) → judge_on_band table answering band x ≡ judge_on_band table calling band x
  unfolding judge_on_band
  on_band_same band (Some ch) = ap₂ (λ (x y : Decision). cond (eqb ch.band band) x y) (sixty_same ch) (off_same band c.kind)
  on_band_same band None = off_same band c.kind

  in_band_same : (band : ℕ) → judge_in_band table answering band ≡ judge_in_band table calling band
  unfolding judge_in_band draft_of
  in_band_same band =
      ap
      (λ (d : Decision).
      cond c.automatic
      (on_found (first_in table excluded (OfBand band))
      (λ x. simple_of (draft_of calling (Some band)) Blocked AutomaticExcluded (excluded_of (table.at excluded x)).rule) d)
      d)
      (on_band_same band (channels_of table.general))

  judge_same : judge table answering ≡ judge table calling
  unfolding judge touching draft_of
  judge_same =
      ap
      (λ (f : ℕ → Decision).
      on_found (first_in table bands (Holds c.guarded)) f (simple_of (draft_of calling (touching table calling)) Blocked OutOfBand §97-301))
      (fun_ext (λ b. in_band_same (band_at table b).band))

-- the prerequisites, from the last one back
module _ (table : Table) (s : Situation) (kind : EmissionKind) (audio : Range) (signal : Draft) where
  at_dial_holds : (control : ControlMode) (class : LicenseClass) (sideband : Sideband) (dial : Option Float)
      → judged_of table signal (required dial (missing NoDial no_rule) (λ hz. Ok (case_of s control class sideband hz kind RespondToAutomatic audio)))
      ≡ judged_of table signal (required dial (missing NoDial no_rule) (λ hz. Ok (case_of s control class sideband hz kind Originate audio)))
  unfolding case_of
  at_dial_holds control class sideband (Some hz) = judge_same table (case_of s control class sideband hz kind Originate audio)
  at_dial_holds control class sideband None = refl

  abbrev from_sideband : Direction → ControlMode → LicenseClass → Option Sideband → Option Float → Result Case Missing
  from_sideband direction control class set dial =
      required set (missing NoSideband no_rule)
      (λ sideband. required dial (missing NoDial no_rule) (λ hz. Ok (case_of s control class sideband hz kind direction audio)))

  at_sideband_holds : (control : ControlMode) (class : LicenseClass) (set : Option Sideband) (dial : Option Float)
      → judged_of table signal (from_sideband RespondToAutomatic control class set dial)
      ≡ judged_of table signal (from_sideband Originate control class set dial)
  at_sideband_holds control class (Some sideband) dial = at_dial_holds control class sideband dial
  at_sideband_holds control class None dial = refl

  abbrev from_license : Direction → ControlMode → Option LicenseClass → Option Sideband → Option Float → Result Case Missing
  from_license direction control license set dial =
      required license (missing NoLicense §97-301) (λ class. from_sideband direction control class set dial)

  at_license_holds : (control : ControlMode) (license : Option LicenseClass) (set : Option Sideband) (dial : Option Float)
      → judged_of table signal (from_license RespondToAutomatic control license set dial) ≡ judged_of table signal
      (from_license Originate control license set dial)
  at_license_holds control (Some class) set dial = at_sideband_holds control class set dial
  at_license_holds control None set dial = refl

  abbrev from_control : Direction → Option ControlMode → Option LicenseClass → Option Sideband → Option Float → Result Case Missing
  from_control direction control license set dial =
      required control (missing NoControl §97-109) (λ mode. from_license direction mode license set dial)

  at_control_holds : (control : Option ControlMode) (license : Option LicenseClass) (set : Option Sideband) (dial : Option Float)
      → judged_of table signal (from_control RespondToAutomatic control license set dial) ≡ judged_of table signal
      (from_control Originate control license set dial)
  at_control_holds (Some mode) license set dial = at_license_holds mode license set dial
  at_control_holds None l set dial = refl

  at_region : (b : Bool) (control : Option ControlMode) (license : Option LicenseClass) (set : Option Sideband) (dial : Option Float)
      → judged_of table signal (cond b (from_control RespondToAutomatic control license set dial) (Err (missing Region §97-301)))
      ≡ judged_of table signal (cond b (from_control Originate control license set dial) (Err (missing Region §97-301)))
  at_region true control license set dial = at_control_holds control license set dial
  at_region false k l set dial = refl

-- the verdict under a table, at a dial
rules_same : (table : Table) (s : Situation) (dial : Option Float) (kind : EmissionKind) (audio : Range)
    → under_rules_of table s dial kind RespondToAutomatic audio ≡ under_rules_of table s dial kind Originate audio
unfolding under_rules_of ready_of
rules_same table s dial kind audio =
    at_region table s kind audio (signal_of dial s.sideband audio) (eqb s.itu_region table.general.region) s.control s.license
    s.sideband dial

decide_same : (table : Table) (s : Situation) (policy : Policy) (dial : Option Float) (kind : EmissionKind) (e : Edges)
    → decide_of table s policy dial kind RespondToAutomatic e ≡ decide_of table s policy dial kind Originate e
unfolding decide_of
decide_same table s Unset dial kind e = refl
decide_same table s NoneApply dial kind e = refl
decide_same table s Rules dial kind e = rules_same table s dial kind _
decide_same table s Broken dial kind e = refl

-- "respond to automatic" is the value 3, originate 0

pub evaluate_same : (r : StationRecord) (kind : ℕ) (e : Edges) (l : List ℕ) → evaluate_of r kind 3 e l ≡ evaluate_of r kind 0 e l
unfolding evaluate_of
evaluate_same r kind e l =
    ap (unless_refused (refusal_of (evaluate_tests r kind 0 e l)))
    (decide_same (table_of l) (situation_of r) (situation_of r).policy (situation_of r).dial (kind_of kind) (edges_read e))

climb_same : (table : Table) (s : Situation) (e : Edges) → judge_by table s RespondToAutomatic e ≡ judge_by table s Originate e
unfolding judge_by
climb_same table s e = decide_same table s s.policy s.dial Data e

pub ceiling_same : (r : StationRecord) (ordinary floor : Edges) (l : List ℕ) (rungs : List Float) (floors : List ℕ)
    → ceiling_of r 3 ordinary floor l rungs floors ≡ ceiling_of r 0 ordinary floor l rungs floors
unfolding ceiling_of
ceiling_same r ordinary floor l rungs floors =
    ap (λ (judge : Edges → Decision).
    ceiling_unless_refused (refusal_of (ceiling_tests r 0 ordinary floor l rungs floors))
    (climbed judge (burst_of (edges_read ordinary) (edges_read floor) rungs floors) (length rungs / 4)))
    (fun_ext (climb_same (table_of l) (situation_of r)))

elsewhere_same : (w : Option Elsewhere) (width : Float) → elsewhere_allows w width RespondToAutomatic ≡ elsewhere_allows w width Originate
elsewhere_same (Some e) width = refl
elsewhere_same None width = refl

module _ (table : Table) (s : Situation) (e : Edges) where
  known_same : (sideband : Sideband) (class : LicenseClass) (control : ControlMode)
      → known_rows table s RespondToAutomatic e sideband class control ≡ known_rows table s Originate e sideband class control
  unfolding request_of
  known_same sideband class control =
      let audio = range_of e (reading_of table.general) in
      ap
      (λ (ok : Bool).
      rows_of table
      (record {
        class = class_code class;
        sideband = sideband;
        audio = audio;
        width_hz = width_of audio;
        margin = s.margin;
        automatic = applies_of control Originate;
        elsewhere_ok = ok;
        «data» = data_of table.general;
        segments_rule = table.general.automatic_rule;
      }))
      (elsewhere_same (elsewhere_of table.general) (width_of audio))

  rows_same : situation_rows table s RespondToAutomatic e ≡ situation_rows table s Originate e
  unfolding situation_rows
  rows_same =
      ap (rows_with_sideband s.sideband)
      (fun_ext
      (λ sideband.
      ap (rows_with_license s.license) (fun_ext (λ class. ap (rows_with_control s.control) (fun_ext (λ control. known_same sideband class control))))))

pub rows_listed_same : (r : StationRecord) (e : Edges) (l : List ℕ) → list_rows r 3 e l ≡ list_rows r 0 e l
unfolding list_rows
rows_listed_same r e l = ap (λ (xs : List SafeDial). cond (under_rules r) xs []) (rows_same (table_of l) (situation_of r) (edges_read e))

-- what the list call promises, with every lent byte
module _ (r : StationRecord) (e : Edges) (l lent left : List ℕ) (answer : Result ℕ Refusal) where
  abbrev promised : List SafeDial → Type 0
  promised xs = Listed (refusal_of (entry_tests r true l ++ (test refusal.SignalEdge (not (edges_valid e)) ∷ lent_tests xs lent))) xs lent left answer

  pub list_same : SafeDials r 3 e l lent left answer → SafeDials r 0 e l lent left answer
  list_same p = subst promised (rows_listed_same r e l) p

  pub list_same_back : SafeDials r 0 e l lent left answer → SafeDials r 3 e l lent left answer
  list_same_back p = subst promised (sym (rows_listed_same r e l)) p
