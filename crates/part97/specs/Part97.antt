-- What the gate answers for a transmission under 47 CFR Part 97, as a table of an administration's rules states it. The tests stand in
-- the order in which they are made; the last definition, `judge`, makes the first. The paragraphs are named as document 01 and the
-- original's comments name them. After the list of names from other files stands how to read the rules.
use Rattle.std.specs.Prelude.{ℕ, zero, suc, Bool, true, false, not, cond, ◌&&◌, ◌||◌, List, eqb, set, Float, Option, Some, None}
use Rattle.table.specs.declared.Elsewhere.{Elsewhere}
use Rattle.std.specs.Float.{binary64}
use Rattle.std.specs.Float.Ieee.{add, sub, lt, le}
use Rattle.figures.specs.Figure.{zero_hz, max_of, abs_of, midpoint_of, total_less, figure_of}
use Rattle.codes.specs.Code.{kind_code, class_code, bit_of}
use Rattle.codes.specs.declared.EmissionKind.{EmissionKind}
use Rattle.codes.specs.declared.EmissionKind.TheVariants.{Data, Cw, Test, Nothing as NoEmission}
use Rattle.codes.specs.declared.Sideband.{Sideband}
use Rattle.codes.specs.declared.Sideband.TheVariants.{Usb, Lsb}
use Rattle.profile.specs.Range.{range, holds_of, overlaps_of, channel_range_of}
use Rattle.profile.specs.Limit.{data_limit_of, allows_of, meant_of}
use Rattle.profile.specs.declared.Range.{Range}
use Rattle.profile.specs.declared.DataLimit.{DataLimit}
use Rattle.air.specs.Air.{wider}
use Rattle.scan.specs.First.{on_found}
use Rattle.layout.specs.Layout.{bands, segments, channels, privileges, automatic, excluded, power, plan_data, plan_avoid}
use Rattle.table.specs.Table.{Table}
use Rattle.table.specs.Parts.{span_of, band_of, segment_of, centre_of, privilege_of, excluded_of, power_of, data_of, elsewhere_of, channels_of, sixty_of, has_plan}
use Rattle.table.specs.declared.Band.{Band as BandRecord}
use Rattle.table.specs.declared.Segment.{Segment as SegmentRecord}
use Rattle.table.specs.declared.Privilege.{Privilege as PrivilegeRecord}
use Rattle.table.specs.declared.PowerLimit.{PowerLimit}
use Rattle.table.specs.declared.Channels.{Channels}
use Rattle.find.specs.Question.{first_in, some_in}
use Rattle.find.specs.declared.Question.TheVariants.{Holds, Overlaps, OfBand, BandHolds, ClassHolds, ChannelOverlaps}
use Rattle.automatic_97_221.specs.Automatic.{responds}
use Rattle.decision.specs.Number.{§97-301, §97-305a, §97-305b, §97-305c, §97-307f9}
use Rattle.decision.specs.Decision.{no_notes, no_marks, no_advice, finish_of, simple_of}
use Rattle.decision.specs.declared.Verdict.{Verdict}
use Rattle.decision.specs.declared.Verdict.TheVariants.{Legal, Warning, Blocked}
use Rattle.decision.specs.declared.Code.{Code}
use Rattle.decision.specs.Reason.{OutOfBand, AutomaticExcluded, TooWide, OutsideDataSegment, NoDataHere, Privilege}
use Rattle.decision.specs.Reason.{Permitted, AutomaticSegment, AutomaticOutside, AutomaticBandwidth, AutomaticOriginate}
use Rattle.decision.specs.Reason.{AutomaticResponse, SixtyEmission, SixtyOffChannel, SixtyChannel, SixtySegment}
use Rattle.decision.specs.declared.Edge.{Edge}
use Rattle.decision.specs.declared.Edge.TheVariants.{Lower, Upper}
use Rattle.decision.specs.declared.Overshoot.{Overshoot}
use Rattle.decision.specs.declared.Overshoot.TheVariants.{Beyond, TooClose}
use Rattle.decision.specs.declared.Guidance.{Guidance}
use Rattle.decision.specs.declared.Guidance.TheVariants.{Avoid, Inside, Outside}
use Rattle.decision.specs.declared.SixtyNotes.{SixtyNotes}
use Rattle.decision.specs.declared.Draft.{Draft}
use Rattle.decision.specs.declared.Advice.{Advice}
use Rattle.decision.specs.declared.Decision.{Decision}
use Rattle.part97.specs.declared.Case.{Case}
use Rattle.part97.specs.declared.Privileged.{Privileged}
use Rattle.part97.specs.declared.Privileged.TheVariants.{Granted, Forbidden, Unheld}

-- ---- how to read the rules
--
-- A definition is a line with `:`, which says what it is asked about and, last, what it answers, and below it the answer. `f a b` is f
-- asked about a and b. `table` is an accepted table: `table.general` is its general block, `table.at bands i` its band i. `c` is the
-- case, station and signal: `c.air` is the signal's range on the air, `c.guarded` that range with the margin on either side.
--
-- - Tests: `lt a b` is a < b, `le a b` is a ≤ b, `wider a b` is a > b; `&&` is and, `||` is or. `cond t a b` is a where the test t
--   holds, else b.
-- - Scans: `first_in table bands (Holds r)` is the first band of the table whose range holds r, both ends included.
--   `on_found found (λ i. a) b` is a where a record was found, i being its place in its table, else b. `λ i. a` reads: a, for this i.
-- - Answers: a draft has the facts known so far: `draft_of` those of the signal and its band, `draft_inside` a segment too,
--   `draft_automatic` an automatic segment too. `simple_of draft verdict code rule` is the whole answer, the draft's facts with these
--   three; `finish_of draft verdict code rule overshoot advice` has an overshoot, guidance and notes besides.

-- ---- what the table says, record by record

abbrev pub band_at : Table → ℕ → BandRecord
band_at table i = band_of (table.at bands i)

abbrev pub segment_at : Table → ℕ → SegmentRecord
segment_at table i = segment_of (table.at segments i)

abbrev pub privilege_at : Table → ℕ → PrivilegeRecord
privilege_at table i = privilege_of (table.at privileges i)

abbrev pub power_at : Table → ℕ → PowerLimit
power_at table i = power_of (table.at power i)

-- the general limit on the width of data
abbrev pub general_limit : Table → DataLimit
general_limit table = data_of table.general

-- ---- a decision's facts, as they become known

-- the signal alone, on a band (or on none)
unfoldable pub draft_of : Case → Option ℕ → Draft
draft_of c band =
    record {
      audio = c.audio;
      width = c.width;
      air = Some c.air;
      band = band;
      segment = None;
      automatic_segment = None;
    }

-- judged against a segment, which has a rule
unfoldable pub draft_inside : Case → ℕ → Range → ℕ → Draft
draft_inside c band segment rule =
    record {
      audio = c.audio;
      width = c.width;
      air = Some c.air;
      band = Some band;
      segment = Some (segment, rule);
      automatic_segment = None;
    }

-- and inside a segment for automatic control
unfoldable pub draft_automatic : Case → ℕ → Range → ℕ → Range → Draft
draft_automatic c band segment rule inside =
    record {
      audio = c.audio;
      width = c.width;
      air = Some c.air;
      band = Some band;
      segment = Some (segment, rule);
      automatic_segment = Some inside;
    }

-- ---- 97.301, 97.305(a), (b), 97.307(f)(9): the operator's privileges

-- what the first privilege of the operator's class that holds the guarded range says of an emission: it allows it, or forbids it
-- (97.307(f)(9)), or there is none (97.301); a later privilege rescues nothing. It is asked for data, CW and test, never for
-- keying alone.
unfoldable pub privileged_of : Table → Case → EmissionKind → Privileged
privileged_of table c kind =
    on_found (first_in table privileges (ClassHolds (class_code c.class) c.guarded))
    (λ p. cond (allows_of (privilege_at table p).emissions kind) Granted Forbidden)
    Unheld

-- only where the privilege is granted does judging go on
abbrev pub under_privilege : Privileged → Draft → Decision → Decision
under_privilege Granted draft next = next
under_privilege Forbidden draft next = simple_of draft Blocked Privilege §97-307f9
under_privilege Unheld draft next = simple_of draft Blocked Privilege §97-301

-- some privilege of the operator's class holds a range, whatever emissions it allows
abbrev pub some_privilege : Table → Case → Range → Bool
some_privilege table c r = some_in table privileges (ClassHolds (class_code c.class) r)

-- ---- 97.313 and the band plan: what an operator is told of a lawful data transmission over a range

-- a power limit that reaches into the range, is meant for the class, and is exceeded
abbrev pub exceeds : Option Float → Float → Bool
exceeds (Some watts) most = lt most watts
exceeds None most = false

unfoldable pub noted : Case → Range → PowerLimit → Bool
noted c r limit = overlaps_of limit.range r && (meant_of limit.classes c.class && exceeds c.power limit.max_w)

abbrev pub note_at : Table → Case → Range → ℕ → Bool
note_at table c r i = noted c r (power_at table i)

-- a mark for each of the first n power records that has a note, and whether one has
unfoldable pub notes_up_to : (ℕ → Bool) → ℕ → List ℕ
notes_up_to note zero = no_notes
notes_up_to note (suc n) = cond (note n) (set (notes_up_to note n) n 1) (notes_up_to note n)

unfoldable pub any_note : (ℕ → Bool) → ℕ → Bool
any_note note zero = false
any_note note (suc n) = note n || any_note note n

-- the voluntary plan: an area to stay out of that the range touches, else an area for data that holds it, else outside
unfoldable pub plan_says : Table → Range → Guidance
plan_says table r = on_found (first_in table plan_avoid (Overlaps r)) Avoid (on_found (first_in table plan_data (Holds r)) Inside Outside)

-- it is asked where the station says so and the table has a plan
unfoldable pub wants_plan : Table → Case → Bool
wants_plan table c = c.band_plan && has_plan table.general

unfoldable pub guidance_of : Table → Case → Range → Option Guidance
guidance_of table c r = cond (wants_plan table c) (Some (plan_says table r)) None

-- whether the plan calls for a warning; inside an area for data it calls for none, and takes none away that the power limits give
abbrev pub plan_warns : Option Guidance → Bool
plan_warns (Some (Avoid i)) = true
plan_warns (Some (Inside i)) = false
plan_warns (Some Outside) = true
plan_warns None = false

abbrev pub warned : Bool → Verdict
warned b = cond b Warning Legal

unfoldable pub advice_of : Table → Case → Range → Advice
advice_of table c r =
    record { guidance = guidance_of table c r; notes = notes_up_to (note_at table c r) (table.count power); sixty = no_marks }

unfoldable pub advice_warns : Table → Case → Range → Bool
advice_warns table c r = any_note (note_at table c r) (table.count power) || plan_warns (guidance_of table c r)

-- lawful, with what the operator should know
unfoldable pub advised : Table → Case → Range → Draft → Option Code → ℕ → Decision
advised table c r draft code rule = finish_of draft (warned (advice_warns table c r)) code rule None (advice_of table c r)

-- ---- 97.221: automatically controlled digital stations

-- the rule that the automatic segments stand under
abbrev pub automatic_rule_of : Table → ℕ
automatic_rule_of table = table.general.automatic_rule

-- an automatic station's advice goes by the guarded range with the margin taken off again
abbrev pub advised_automatic : Table → Case → Draft → Option Code → ℕ → Decision
advised_automatic table c draft code rule = advised table c c.advised draft code rule

-- 97.221(c), outside the segments of 97.221(b): only where the table allows it at all, no wider than its limit, and, where it
-- requires a response, only answering interrogation
unfoldable pub automatic_elsewhere : Table → Case → Draft → Option Elsewhere → Decision
automatic_elsewhere table c draft (Some e) =
    cond (wider c.width e.max_bandwidth_hz) (simple_of draft Blocked AutomaticBandwidth e.rule)
    (cond (e.requires_response && not (responds c.direction)) (simple_of draft Blocked AutomaticOriginate e.rule)
    (advised_automatic table c draft AutomaticResponse e.rule))
automatic_elsewhere table c draft None = simple_of draft Blocked AutomaticOutside (automatic_rule_of table)

-- 97.221(b): inside a segment for automatic control, or else by (c)
unfoldable pub automatic_data : Table → Case → ℕ → Range → ℕ → Decision
automatic_data table c band segment rule =
    on_found (first_in table automatic (Holds c.guarded))
    (λ a.
    advised_automatic table c (draft_automatic c band segment rule (span_of (table.at automatic a))) AutomaticSegment
    (automatic_rule_of table))
    (automatic_elsewhere table c (draft_inside c band segment rule) (elsewhere_of table.general))

-- ---- 97.305(c), 97.307(b), (f): data off 60 m

-- how far the signal reaches below a segment, and above it
abbrev pub below : Range → Range → Float
below segment air = max_of (sub binary64 segment.low_hz air.low_hz) zero_hz

abbrev pub above : Range → Range → Float
above segment air = max_of (sub binary64 air.high_hz segment.high_hz) zero_hz

abbrev pub reach : Range → Range → Float
reach segment air = add binary64 (below segment air) (above segment air)

-- of two segments the one with the less overshoot, the earlier at a tie
abbrev pub nearer_by : Option (ℕ × Float) → ℕ → Float → Option (ℕ × Float)
nearer_by (Some (j, least)) i by = cond (total_less by least) (Some (i, by)) (Some (j, least))
nearer_by None i by = Some (i, by)

-- segment i is in question where it overlaps the guarded range; its overshoot is the unguarded signal's
unfoldable pub considered : Case → Option (ℕ × Float) → ℕ → Range → Option (ℕ × Float)
considered c best i segment = cond (overlaps_of segment c.guarded) (nearer_by best i (reach segment c.air)) best

-- "among segments overlapping the guarded range take the least overshoot (unguarded), first at a tie": of the first n
unfoldable pub nearest_up_to : Table → Case → ℕ → Option (ℕ × Float)
nearest_up_to table c zero = None
nearest_up_to table c (suc n) = considered c (nearest_up_to table c n) n (segment_at table n).range

abbrev pub on_nearest : {A : Type 0} → Option (ℕ × Float) → (ℕ → A) → A → A
on_nearest (Some (i, by)) f a = f i
on_nearest None f a = a

-- "beyond an edge by a distance or merely too close to an edge"
abbrev pub overshoot_by : Float → Edge → Overshoot
overshoot_by by edge = cond (lt zero_hz by) (Beyond by edge) (TooClose edge)

-- "Above ≥ below names the upper edge." Else below is the greater, so more than nought: `TooClose Lower` is never reached.
unfoldable pub overshoot_of : Range → Range → Overshoot
overshoot_of segment air =
    cond (le (below segment air) (above segment air)) (overshoot_by (above segment air) Upper) (overshoot_by (below segment air) Lower)

-- 97.305(c): no data segment holds the guarded signal; the nearest one says how far it lies outside
unfoldable pub outside_segments : Table → Case → ℕ → Decision
outside_segments table c band =
    on_nearest (nearest_up_to table c (table.count segments))
    (λ i.
    finish_of (draft_inside c band (segment_at table i).range (segment_at table i).rule) Blocked OutsideDataSegment (segment_at table i).rule
    (Some (overshoot_of (segment_at table i).range c.air)) no_advice)
    (simple_of (draft_of c (Some band)) Blocked NoDataHere §97-305c)

-- inside a data segment: the operator's privileges (97.301), then automatic control (97.221)
unfoldable pub inside_segment : Table → Case → ℕ → SegmentRecord → Decision
inside_segment table c band s =
    under_privilege (privileged_of table c Data) (draft_inside c band s.range s.rule)
    (cond c.automatic (automatic_data table c band s.range s.rule)
    (advised table c c.air (draft_inside c band s.range s.rule) Permitted s.rule))

-- 97.307(f): the widest data emission, by the segment that holds the guarded range, else the general limit
abbrev pub limit_for : Table → Option ℕ → DataLimit
limit_for table found =
    on_found found (λ i. data_limit_of (segment_at table i).own (segment_at table i).second (general_limit table)) (general_limit table)

abbrev pub blocked_too_wide : Case → ℕ → DataLimit → Decision
blocked_too_wide c band limit = simple_of (draft_of c (Some band)) Blocked TooWide limit.rule

-- 97.305(c), by the first data segment that holds the guarded range; too wide comes before "no segment"
unfoldable pub judge_data : Table → Case → ℕ → Option ℕ → Decision
judge_data table c band found =
    cond (wider c.width (limit_for table found).max_bandwidth_hz)
    (blocked_too_wide c band (limit_for table found))
    (on_found found (λ i. inside_segment table c band (segment_at table i)) (outside_segments table c band))

-- ---- 97.305(a), (b): CW, test emissions and keying alone, off 60 m

-- the rule that allows CW and test; the cases for data and for keying alone are never reached, since `off_sixty` sends neither here
abbrev pub other_rule : EmissionKind → ℕ
other_rule Data = §97-301
other_rule Cw = §97-305a
other_rule Test = §97-305b
other_rule NoEmission = §97-301

-- an emission that is allowed wherever the operator's privileges allow it
abbrev pub emitted : Table → Case → ℕ → EmissionKind → Decision
emitted table c band kind =
    under_privilege (privileged_of table c kind) (draft_of c (Some band)) (simple_of (draft_of c (Some band)) Legal Permitted (other_rule kind))

-- keyed with no audio: some privilege holds the dial
abbrev pub keyed : Table → Case → ℕ → Decision
keyed table c band =
    cond (some_privilege table c (range c.dial_hz c.dial_hz)) (simple_of (draft_of c (Some band)) Legal Permitted §97-301)
    (simple_of (draft_of c (Some band)) Blocked Privilege table.general.privileges_rule)

-- by the kind of emission, off 60 m
abbrev pub off_sixty : Table → Case → ℕ → EmissionKind → Decision
off_sixty table c band Data = judge_data table c band (first_in table segments (Holds c.guarded))
off_sixty table c band Cw = emitted table c band Cw
off_sixty table c band Test = emitted table c band Test
off_sixty table c band NoEmission = keyed table c band

-- ---- 60 m (97.303(h)(3), 97.305(c), 97.307(f)(14), 97.313(i)), from document 01

-- "Warnings are strictly above 100 W and 9.15 W.": figures of the table since document 02 (6), on a channel
abbrev pub channel_watts_of : Table → Float
channel_watts_of table = figure_of table.general.channel_watts

-- in the segment
abbrev pub segment_watts_of : Table → Float
segment_watts_of table = figure_of table.general.segment_watts

-- allowed on 60 m, with its notes
unfoldable pub allowed_on_sixty : Draft → Bool → Option Code → ℕ → SixtyNotes → Decision
allowed_on_sixty draft warn code rule marks =
    finish_of draft (warned warn) code rule None (record { guidance = None; notes = no_notes; sixty = marks })

-- a CW carrier on the channel's centre, within the tolerance
abbrev pub cw_on_channel : Case → Channels → Float → Bool
cw_on_channel c ch centre =
    le (abs_of (sub binary64 (midpoint_of c.air.low_hz c.air.high_hz) centre)) ch.carrier_tolerance_hz

abbrev pub same_sideband : Sideband → Sideband → Bool
same_sideband Usb Usb = true
same_sideband Usb Lsb = false
same_sideband Lsb Usb = false
same_sideband Lsb Lsb = true

-- any other emission on the channel's sideband, its carrier (the dial) below the centre by the offset, within the tolerance, and
-- all of it, guarded, inside the channel
abbrev pub data_on_channel : Case → Channels → Float → Bool
data_on_channel c ch centre =
    same_sideband c.sideband ch.sideband
    && (le (abs_of (sub binary64 c.dial_hz (sub binary64 centre ch.carrier_offset_hz))) ch.carrier_tolerance_hz
    && holds_of (channel_range_of ch.width_hz centre) c.guarded)

-- by the kind; the case for keying alone is never reached, since `sixty_kind` permits it before
abbrev pub on_channel : Case → Channels → Float → EmissionKind → Bool
on_channel c ch centre Data = data_on_channel c ch centre
on_channel c ch centre Cw = cw_on_channel c ch centre
on_channel c ch centre Test = data_on_channel c ch centre
on_channel c ch centre NoEmission = data_on_channel c ch centre

-- on a channel: set up for it, or blocked
unfoldable pub sixty_channel : Table → Case → Channels → Float → Decision
sixty_channel table c ch centre =
    cond (on_channel c ch centre c.kind)
    (allowed_on_sixty (draft_inside c ch.band (channel_range_of ch.width_hz centre) ch.rule) (exceeds c.power (channel_watts_of table))
    SixtyChannel ch.rule (record { channel_power = exceeds c.power (channel_watts_of table); shared = true; segment_power = false }))
    (simple_of (draft_inside c ch.band (channel_range_of ch.width_hz centre) ch.rule) Blocked SixtyChannel ch.rule)

-- data, whose width is tested; here too the case for keying alone is never reached
abbrev pub is_data : EmissionKind → Bool
is_data Data = true
is_data Cw = false
is_data Test = false
is_data NoEmission = false

-- in the segment: "The segment tests the general width only."
unfoldable pub sixty_segment : Table → Case → ℕ → SegmentRecord → Decision
sixty_segment table c band s =
    cond (is_data c.kind && wider c.width (general_limit table).max_bandwidth_hz)
    (simple_of (draft_inside c band s.range s.rule) Blocked TooWide (general_limit table).rule)
    (allowed_on_sixty (draft_inside c band s.range s.rule) (exceeds c.power (segment_watts_of table)) SixtySegment s.rule
    (record { channel_power = false; shared = false; segment_power = exceeds c.power (segment_watts_of table) }))

-- the first data segment of the band that holds the guarded range, or else
abbrev pub in_sixty_segment : Table → Case → Channels → Decision → Decision
in_sixty_segment table c ch otherwise =
    on_found (first_in table segments (BandHolds ch.band c.guarded)) (λ i. sixty_segment table c ch.band (segment_at table i)) otherwise

-- "a data segment of that band which holds the guarded range goes first, unless the first overlapping channel holds that range as well"
-- (document 02, 4): by that channel
unfoldable pub sixty_overlap : Table → Case → Channels → Float → Decision
sixty_overlap table c ch centre =
    cond (holds_of (channel_range_of ch.width_hz centre) c.guarded) (sixty_channel table c ch centre)
    (in_sixty_segment table c ch (sixty_channel table c ch centre))

-- the first channel that the guarded range overlaps, or else the segment. Neither: off channel
unfoldable pub sixty_place : Table → Case → Channels → Decision
sixty_place table c ch =
    on_found (first_in table channels (ChannelOverlaps ch.width_hz c.guarded))
    (λ i. sixty_overlap table c ch (centre_of (table.at channels i)))
    (in_sixty_segment table c ch (simple_of (draft_of c (Some ch.band)) Blocked SixtyOffChannel ch.rule))

-- 97.307(f)(14): the emissions allowed on 60 m; the bit for keying alone is never asked for
unfoldable pub sixty_emission : Table → Case → Channels → Option (ℕ × ℕ) → Decision
sixty_emission table c ch (Some (bits, rule)) =
    cond (bit_of bits (kind_code c.kind)) (sixty_place table c ch) (simple_of (draft_of c (Some ch.band)) Blocked SixtyEmission rule)
sixty_emission table c ch None = sixty_place table c ch

-- "Nothing is then permitted."
unfoldable pub sixty_kind : Table → Case → Channels → EmissionKind → Decision
sixty_kind table c ch Data = sixty_emission table c ch (sixty_of table.general)
sixty_kind table c ch Cw = sixty_emission table c ch (sixty_of table.general)
sixty_kind table c ch Test = sixty_emission table c ch (sixty_of table.general)
sixty_kind table c ch NoEmission = simple_of (draft_of c (Some ch.band)) Legal Permitted §97-301

-- "some privilege must hold the unguarded range; emission lists of privileges aren't read"
unfoldable pub sixty : Table → Case → Channels → Decision
sixty table c ch =
    cond (some_privilege table c c.air) (sixty_kind table c ch c.kind)
    (simple_of (draft_of c (Some ch.band)) Blocked Privilege §97-301)

-- ---- 97.301, 97.109(d): the band, and where automatic control is not allowed at all

-- 60 m is the band that has the channels' number
unfoldable pub judge_on_band : Table → Case → ℕ → Option Channels → Decision
judge_on_band table c band (Some ch) = cond (eqb ch.band band) (sixty table c ch) (off_sixty table c band c.kind)
judge_on_band table c band None = off_sixty table c band c.kind

-- an excluded band, for a station to which 97.221 applies
unfoldable pub judge_in_band : Table → Case → ℕ → Decision
judge_in_band table c band =
    cond c.automatic
    (on_found (first_in table excluded (OfBand band))
    (λ x. simple_of (draft_of c (Some band)) Blocked AutomaticExcluded (excluded_of (table.at excluded x)).rule)
    (judge_on_band table c band (channels_of table.general)))
    (judge_on_band table c band (channels_of table.general))

-- the first band that the guarded range touches
unfoldable pub touching : Table → Case → Option ℕ
touching table c = on_found (first_in table bands (Overlaps c.guarded)) (λ b. Some (band_at table b).band) None

-- 97.301: the first band that holds the guarded range
unfoldable pub judge : Table → Case → Decision
judge table c =
    on_found (first_in table bands (Holds c.guarded)) (λ b. judge_in_band table c (band_at table b).band)
    (simple_of (draft_of c (touching table c)) Blocked OutOfBand §97-301)
