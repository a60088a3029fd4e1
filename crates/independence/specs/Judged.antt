-- Power and plan mark move neither code nor segment: first of a judgement, part by part in Part97's order, then of a decision, then of the
-- call.
use Prim.Native.Nat.{ℕ, zero, suc}
use Rattle.std.specs.Prelude.{Option, Some, None, Result, Ok, Err, Bool, true, cond, ◌&&◌, List, ◌≡◌, eqb, Float}
use Rattle.table.specs.declared.Elsewhere.{Elsewhere}
use Rattle.std.proofs.Math.Bool.{false, not}
use Rattle.std.proofs.Math.Path.{refl, ap}
use Rattle.std.proofs.Common.{sym, ◌∙◌}
use Rattle.std.specs.Float.Ieee.{lt}
use Rattle.scan.specs.First.{on_found}
use Rattle.codes.specs.Code.{kind_code, bit_of}
use Rattle.codes.specs.declared.EmissionKind.{EmissionKind}
use Rattle.codes.specs.declared.EmissionKind.TheVariants.{Data, Cw, Test, Nothing as NoEmission}
use Rattle.profile.specs.declared.Range.{Range}
use Rattle.station.specs.declared.StationRecord.{StationRecord}
use Rattle.station.specs.declared.Situation.{Situation}
use Rattle.station.specs.Station.{figure_read, situation_of}
use Rattle.occupancy.specs.declared.Edges.{Edges}
use Rattle.entry.specs.Entry.{entry_of, edges_valid, edges_read}
use Rattle.codes.specs.Read.{kind_of, direction_of}
use Rattle.codes.specs.declared.Policy.{Policy}
use Rattle.codes.specs.declared.Policy.TheVariants.{Unset, NoProfile as NoneApply, Rules, Broken}
use Rattle.codes.specs.declared.Direction.{Direction}
use Rattle.verdict.specs.Verdict.{missing, required, signal_of, case_of, ready_of, judged_of, under_rules_of, unruled_of, decide_of, beside_valid, evaluate_of}
use Rattle.verdict.specs.declared.Missing.{Missing}
use Rattle.verdict.specs.Laws.{evaluate_accepted}
use Rattle.layout.specs.Layout.{segments, channels, automatic, excluded, bands}
use Rattle.table.specs.Table.{Table, table_of}
use Rattle.table.specs.Parts.{span_of, excluded_of, reading_of, channels_of, sixty_of, elsewhere_of, centre_of}
use Rattle.table.specs.declared.Segment.{Segment}
use Rattle.table.specs.declared.Channels.{Channels}
use Rattle.find.specs.Question.{first_in}
use Rattle.find.specs.declared.Question.TheVariants.{Holds, OfBand, BandHolds, ChannelOverlaps}
use Rattle.decision.specs.Decision.{finish_of, simple_of}
use Rattle.decision.specs.Number.{no_rule, §97-301, §97-109, §97-305a, §97-305b}
use Rattle.decision.specs.declared.Verdict.{Verdict}
use Rattle.decision.specs.declared.Verdict.TheVariants.{Legal, Blocked}
use Rattle.decision.specs.declared.Code.{Code}
use Rattle.decision.specs.Reason.{Region, NoControl, NoLicense, NoSideband, NoDial}
use Rattle.decision.specs.Reason.{OutOfBand}
use Rattle.decision.specs.Reason.{AutomaticExcluded, TooWide, Privilege, Permitted, AutomaticSegment}
use Rattle.decision.specs.Reason.{AutomaticBandwidth, AutomaticOriginate, AutomaticResponse}
use Rattle.decision.specs.Reason.{SixtyEmission, SixtyOffChannel, SixtyChannel, SixtySegment}
use Rattle.decision.specs.declared.SixtyNotes.{SixtyNotes}
use Rattle.automatic_97_221.specs.Automatic.{responds}
use Rattle.profile.specs.Range.{holds_of, channel_range_of}
use Rattle.occupancy.specs.Edges.{range_of}
use Rattle.decision.specs.declared.Draft.{Draft}
use Rattle.decision.specs.declared.Decision.{Decision}
use Rattle.part97.specs.Part97.{band_at, segment_at, general_limit, limit_for, automatic_rule_of, exceeds, channel_watts_of, segment_watts_of}
use Rattle.part97.specs.Part97.{on_channel, is_data, some_privilege, privileged_of, under_privilege, draft_of, draft_inside}
use Rattle.part97.specs.Part97.{draft_automatic, advised, automatic_elsewhere, automatic_data, considered, nearest_up_to}
use Rattle.part97.specs.Part97.{outside_segments, inside_segment, judge_data, allowed_on_sixty, sixty_channel, sixty_segment}
use Rattle.part97.specs.Part97.{in_sixty_segment, sixty_overlap, sixty_place}
use Rattle.part97.specs.Part97.{sixty_emission, sixty_kind, sixty, off_sixty, judge_on_band, judge_in_band, touching, judge}
use Rattle.part97.specs.declared.Case.{Case}
use Rattle.part97.specs.declared.Privileged.{Privileged}
use Rattle.part97.specs.declared.Privileged.TheVariants.{Granted, Forbidden, Unheld}

-- an answer's code and segment
pub record Keys : Type 0 where
  pub code : Option Code
  pub segment : Option (Range × ℕ)

abbrev pub keys : Decision → Keys
keys d = record { code = d.code; segment = d.segment }

-- a case with another power and plan mark
abbrev pub other : Case → Option Float → Bool → Case
other c power plan =
    record {
      class = c.class;
      sideband = c.sideband;
      direction = c.direction;
      kind = c.kind;
      automatic = c.automatic;
      dial_hz = c.dial_hz;
      audio = c.audio;
      width = c.width;
      air = c.air;
      guarded = c.guarded;
      advised = c.advised;
      power = power;
      band_plan = plan;
    }

-- two answers with the same code and segment
pub record Same (a b : Decision) : Type 0 where
  pub same : keys a ≡ keys b

-- keys go through a branch and through a scan's answer
on_cond : (t : Bool) {a a' b b' : Decision} → Same a a' → Same b b' → Same (cond t a b) (cond t a' b')
on_cond true p q = p
on_cond false p q = q

on_found_holds :
    (f : Option ℕ) {g g' : ℕ → Decision} {a a' : Decision} → ((i : ℕ) → Same (g i) (g' i)) → Same a a'
    → Same (on_found f g a) (on_found f g' a')
on_found_holds (Some i) p q = p i
on_found_holds None p q = q

on_privilege : (x : Privileged) (d : Draft) {a a' : Decision} → Same a a' → Same (under_privilege x d a) (under_privilege x d a')
on_privilege Granted d p = p
on_privilege Forbidden d p = record { same = refl }
on_privilege Unheld d p = record { same = refl }

-- what two walks over the prerequisites leave, judged
record Alike (table : Table) (a b : Result Case Missing) : Type 0 where
  alike : (signal : Draft) → Same (judged_of table signal a) (judged_of table signal b)

on_region : (t : Bool) {table : Table} (m : Result Case Missing) {a b : Result Case Missing} → Alike table a b → Alike table (cond t a m) (cond t b m)
on_region true m p = p
on_region false m p = record { alike = λ signal. record { same = refl } }

on_required :
    {A : Type 0} (x : Option A) (m : Missing) {table : Table} {g g' : A → Result Case Missing} → ((k : A) → Alike table (g k) (g' k))
    → Alike table (required x m g) (required x m g')
on_required (Some k) m p = p k
on_required None m p = record { alike = λ signal. record { same = refl } }

leaf : (d : Draft) (v : Verdict) (code : Option Code) (rule : ℕ) → Same (simple_of d v code rule) (simple_of d v code rule)
leaf d v code rule = record { same = refl }

allowed_same :
    (d : Draft) (w w' : Bool) (code : Option Code) (rule : ℕ) (m m' : SixtyNotes) → Same (allowed_on_sixty d w code rule m) (allowed_on_sixty d w' code rule m')
unfolding allowed_on_sixty finish_of
allowed_same d w w' code rule m m' = record { same = refl }

module _ (table : Table) (c : Case) (power : Option Float) (plan : Bool) where
  privileged_same : (kind : EmissionKind) → privileged_of table (other c power plan) kind ≡ privileged_of table c kind
  unfolding privileged_of
  privileged_same kind = refl

  advised_same : (r : Range) (d : Draft) (code : Option Code) (rule : ℕ) → Same (advised table (other c power plan) r d code rule) (advised table c r d code rule)
  unfolding advised finish_of
  advised_same r d code rule = record { same = refl }

  elsewhere_same : (d : Draft) (e : Option Elsewhere) → Same (automatic_elsewhere table (other c power plan) d e) (automatic_elsewhere table c d e)
  unfolding automatic_elsewhere
  elsewhere_same d (Some e) =
      on_cond (lt e.max_bandwidth_hz c.width) (leaf d Blocked AutomaticBandwidth e.rule)
      (on_cond (e.requires_response && not (responds c.direction)) (leaf d Blocked AutomaticOriginate e.rule)
      (advised_same c.advised d AutomaticResponse e.rule))
  elsewhere_same d None = record { same = refl }

  automatic_same : (band : ℕ) (r : Range) (rule : ℕ) → Same (automatic_data table (other c power plan) band r rule) (automatic_data table c band r rule)
  unfolding automatic_data draft_automatic draft_inside
  automatic_same band r rule =
      on_found_holds (first_in table automatic (Holds c.guarded))
      (λ i.
      advised_same c.advised (draft_automatic c band r rule (span_of (table.at automatic i)))
      AutomaticSegment (automatic_rule_of table))
      (elsewhere_same (draft_inside c band r rule) (elsewhere_of table.general))

  nearest_same : (n : ℕ) → nearest_up_to table (other c power plan) n ≡ nearest_up_to table c n
  unfolding nearest_up_to considered
  nearest_same zero = refl
  nearest_same (suc n) = ap (λ (x : Option (ℕ × Float)). considered c x n (segment_at table n).range) (nearest_same n)

  outside_same : (band : ℕ) → Same (outside_segments table (other c power plan) band) (outside_segments table c band)
  unfolding outside_segments draft_inside draft_of
  outside_same band = rw (nearest_same (table.count segments)) (record { same = refl })

  inside_same : (band : ℕ) (s : Segment) → Same (inside_segment table (other c power plan) band s) (inside_segment table c band s)
  unfolding inside_segment draft_inside
  inside_same band s =
      rw (privileged_same Data)
      (on_privilege (privileged_of table c Data) (draft_inside c band s.range s.rule)
      (on_cond c.automatic (automatic_same band s.range s.rule)
      (advised_same c.air (draft_inside c band s.range s.rule) Permitted s.rule)))

  data_same : (band : ℕ) (f : Option ℕ) → Same (judge_data table (other c power plan) band f) (judge_data table c band f)
  unfolding judge_data draft_of
  data_same band f =
      on_cond (lt (limit_for table f).max_bandwidth_hz c.width)
      (leaf (draft_of c (Some band)) Blocked TooWide (limit_for table f).rule)
      (on_found_holds f (λ i. inside_same band (segment_at table i)) (outside_same band))

  off_same : (band : ℕ) (kind : EmissionKind) → Same (off_sixty table (other c power plan) band kind) (off_sixty table c band kind)
  unfolding draft_of
  off_same band Data = data_same band (first_in table segments (Holds c.guarded))
  off_same band Cw =
      rw (privileged_same Cw)
      (on_privilege (privileged_of table c Cw) (draft_of c (Some band)) (leaf (draft_of c (Some band)) Legal Permitted §97-305a))
  off_same band Test =
      rw (privileged_same Test)
      (on_privilege (privileged_of table c Test) (draft_of c (Some band)) (leaf (draft_of c (Some band)) Legal Permitted §97-305b))
  off_same band NoEmission = record { same = refl }

  on_channel_same : (ch : Channels) (centre : Float) (kind : EmissionKind) → on_channel (other c power plan) ch centre kind ≡ on_channel c ch centre kind
  on_channel_same ch centre Data = refl
  on_channel_same ch centre Cw = refl
  on_channel_same ch centre Test = refl
  on_channel_same ch centre NoEmission = refl

  channel_same : (ch : Channels) (centre : Float) → Same (sixty_channel table (other c power plan) ch centre) (sixty_channel table c ch centre)
  unfolding sixty_channel allowed_on_sixty finish_of draft_inside
  channel_same ch centre =
      rw (on_channel_same ch centre c.kind)
      (on_cond (on_channel c ch centre c.kind)
      (allowed_same (draft_inside c ch.band (channel_range_of ch.width_hz centre) ch.rule) (exceeds power (channel_watts_of table))
      (exceeds c.power (channel_watts_of table)) SixtyChannel ch.rule
      (record { channel_power = exceeds power (channel_watts_of table); shared = true; segment_power = false })
      (record { channel_power = exceeds c.power (channel_watts_of table); shared = true; segment_power = false }))
      (leaf (draft_inside c ch.band (channel_range_of ch.width_hz centre) ch.rule) Blocked SixtyChannel ch.rule))

  segment_same : (band : ℕ) (s : Segment) → Same (sixty_segment table (other c power plan) band s) (sixty_segment table c band s)
  unfolding sixty_segment allowed_on_sixty finish_of draft_inside
  segment_same band s =
      on_cond (is_data c.kind && lt (general_limit table).max_bandwidth_hz c.width)
      (leaf (draft_inside c band s.range s.rule) Blocked TooWide (general_limit table).rule)
      (allowed_same (draft_inside c band s.range s.rule) (exceeds power (segment_watts_of table)) (exceeds c.power
      (segment_watts_of table)) SixtySegment s.rule
      (record { channel_power = false; shared = false; segment_power = exceeds power (segment_watts_of table) })
      (record { channel_power = false; shared = false; segment_power = exceeds c.power (segment_watts_of table) }))

  in_segment_same : (ch : Channels) {a b : Decision} → Same a b → Same (in_sixty_segment table (other c power plan) ch a) (in_sixty_segment table c ch b)
  in_segment_same ch s =
      on_found_holds (first_in table segments (BandHolds ch.band c.guarded)) (λ i. segment_same ch.band (segment_at table i)) s

  overlap_same : (ch : Channels) (centre : Float) → Same (sixty_overlap table (other c power plan) ch centre) (sixty_overlap table c ch centre)
  unfolding sixty_overlap
  overlap_same ch centre =
      on_cond (holds_of (channel_range_of ch.width_hz centre) c.guarded) (channel_same ch centre) (in_segment_same ch (channel_same ch centre))

  place_same : (ch : Channels) → Same (sixty_place table (other c power plan) ch) (sixty_place table c ch)
  unfolding sixty_place draft_of
  place_same ch =
      on_found_holds (first_in table channels (ChannelOverlaps ch.width_hz c.guarded)) (λ i. overlap_same ch (centre_of (table.at channels i)))
      (in_segment_same ch (leaf (draft_of c (Some ch.band)) Blocked SixtyOffChannel ch.rule))

  emission_same : (ch : Channels) (x : Option (ℕ × ℕ)) → Same (sixty_emission table (other c power plan) ch x) (sixty_emission table c ch x)
  unfolding sixty_emission draft_of
  emission_same ch (Some (bits, rule)) =
      on_cond (bit_of bits (kind_code c.kind)) (place_same ch) (leaf (draft_of c (Some ch.band)) Blocked SixtyEmission rule)
  emission_same ch None = place_same ch

  kind_same : (ch : Channels) (kind : EmissionKind) → Same (sixty_kind table (other c power plan) ch kind) (sixty_kind table c ch kind)
  unfolding sixty_kind draft_of
  kind_same ch Data = emission_same ch (sixty_of table.general)
  kind_same ch Cw = emission_same ch (sixty_of table.general)
  kind_same ch Test = emission_same ch (sixty_of table.general)
  kind_same ch NoEmission = record { same = refl }

  sixty_same : (ch : Channels) → Same (sixty table (other c power plan) ch) (sixty table c ch)
  unfolding sixty draft_of
  sixty_same ch =
      on_cond (some_privilege table c c.air) (kind_same ch c.kind) (leaf (draft_of c (Some ch.band)) Blocked Privilege §97-301)

  on_band_same : (band : ℕ) (x : Option Channels) → Same (judge_on_band table (other c power plan) band x) (judge_on_band table c band x)
  unfolding judge_on_band
  on_band_same band (Some ch) = on_cond (eqb ch.band band) (sixty_same ch) (off_same band c.kind)
  on_band_same band None = off_same band c.kind

  in_band_same : (band : ℕ) → Same (judge_in_band table (other c power plan) band) (judge_in_band table c band)
  unfolding judge_in_band draft_of
  in_band_same band =
      on_cond c.automatic
      (on_found_holds (first_in table excluded (OfBand band))
      (λ x. leaf (draft_of c (Some band)) Blocked AutomaticExcluded (excluded_of (table.at excluded x)).rule)
      (on_band_same band (channels_of table.general)))
      (on_band_same band (channels_of table.general))

  pub judge_same : Same (judge table (other c power plan)) (judge table c)
  unfolding judge touching draft_of
  judge_same =
      on_found_holds (first_in table bands (Holds c.guarded)) (λ b. in_band_same (band_at table b).band)
      (leaf (draft_of c (touching table c)) Blocked OutOfBand §97-301)

-- a station, and a station record, with another power and plan mark
abbrev pub other_station : Situation → Option Float → Bool → Situation
other_station s power plan =
    record {
      policy = s.policy;
      control = s.control;
      license = s.license;
      sideband = s.sideband;
      itu_region = s.itu_region;
      margin = s.margin;
      band_plan = plan;
      dial = s.dial;
      power = power;
    }

abbrev pub other_record : StationRecord → ℕ → Float → ℕ → StationRecord
other_record r known watts plan =
    record {
      policy = r.policy;
      control = r.control;
      license = r.license;
      sideband = r.sideband;
      itu_region = r.itu_region;
      band_plan = plan;
      dial_known = r.dial_known;
      power_known = known;
      margin = r.margin;
      dial_hz = r.dial_hz;
      power_w = watts;
    }

module _ (table : Table) (s : Situation) (power : Option Float) (plan : Bool) (dial : Option Float) (kind : EmissionKind) (direction : Direction) where
  ready_alike :
      (audio : Range)
      → Alike table (ready_of table.general (other_station s power plan) dial kind direction audio) (ready_of table.general s dial kind direction audio)
  unfolding ready_of case_of
  ready_alike audio =
      on_region (eqb s.itu_region table.general.region) (Err (missing Region §97-301))
      (on_required s.control (missing NoControl §97-109)
      (λ control.
      on_required s.license (missing NoLicense §97-301)
      (λ class.
      on_required s.sideband (missing NoSideband no_rule)
      (λ sideband.
      on_required dial (missing NoDial no_rule)
      (λ hz. record { alike = λ signal. judge_same table (case_of s control class sideband hz kind direction audio) power plan })))))

  ruled_same :
      (audio : Range) → Same (under_rules_of table (other_station s power plan) dial kind direction audio) (under_rules_of table s dial kind direction audio)
  unfolding under_rules_of
  ruled_same audio = (ready_alike audio).alike (signal_of dial s.sideband audio)

  pub decide_same :
      (policy : Policy) (e : Edges)
      → Same (decide_of table (other_station s power plan) policy dial kind direction e) (decide_of table s policy dial kind direction e)
  unfolding decide_of unruled_of
  decide_same Unset e = record { same = refl }
  decide_same NoneApply e = record { same = refl }
  decide_same Rules e = ruled_same (range_of e (reading_of table.general))
  decide_same Broken e = record { same = refl }

-- "Two accepted station records that differ only in power or plan mark get the same code and segment."
pub same_code_and_segment :
    (r : StationRecord) (known : ℕ) (watts : Float) (plan kind direction : ℕ) (e : Edges) (l : List ℕ)
    → entry_of r (beside_valid kind direction) l ≡ Ok tt → entry_of (other_record r known watts plan) (beside_valid kind direction) l ≡ Ok tt
    → edges_valid e ≡ true
    → keys (evaluate_of (other_record r known watts plan) kind direction e l) ≡ keys (evaluate_of r kind direction e l)
unfolding situation_of
same_code_and_segment r known watts plan kind direction e l a b v =
    ap keys (evaluate_accepted (other_record r known watts plan) kind direction e l b v)
    ∙ (decide_same (table_of l) (situation_of r) (figure_read known watts) (not (eqb plan 0))
    (situation_of r).dial (kind_of kind) (direction_of direction) (situation_of r).policy (edges_read e)).same
    ∙ sym (ap keys (evaluate_accepted r kind direction e l a v))
