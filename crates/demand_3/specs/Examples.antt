-- Demand 3 is not vacuous: inputs that meet every premise and get nought, a distance, and "none listed", with an automatic station, the lower
-- sideband and a table with channels among them; and for tidy, eighths, the positive width and a dial off the channel band an input that
-- meets every other premise and breaks the statement. All of it is computed from bytes.
use Rattle.std.specs.Prelude.{ℕ, Bool, true, false, not, List, [], ◌∷◌, ◌++◌, ◌≡◌, refl, pos, replicate, get_or, Float, Option, Some, None, Result, Ok}
use Rattle.codes.specs.declared.Refusal.{Refusal}
use Rattle.std.proofs.Common.{ap}
use Rattle.std.proofs.lemmas.Bool.{not-true}
use Rattle.std.specs.Float.{binary64}
use Rattle.std.specs.Float.Ieee.{of_bits, to_bits, of_int, lt, le, eq, ne, neg, add, sub, mul, div}
use Rattle.figures.specs.Figure.{zero_hz, read_hz}
use Rattle.scan.specs.First.{first_from}
use Rattle.codes.specs.Refusal.{refusal_of}
use Rattle.layout.specs.Bytes.{u16_at, u32_at, u64_at}
use Rattle.layout.specs.Layout.{watts_at, tables_from, records_before, record_at, general_of}
use Rattle.coded.specs.Coded.{coded_of, coded_general}
use Rattle.find.specs.Question.{asks, sound_bits, sound_record}
use Rattle.profile.specs.Range.{range}
use Rattle.air.specs.Air.{margins}
use Rattle.air.specs.declared.Margins.{Margins}
use Rattle.image.specs.Check.{coded_block, miscoded, sound_block, unsound, bare, unlimited, check_of}
use Rattle.table.specs.Table.{record_in, table_of}
use Rattle.tidy.specs.Tidy.{two_share, tidy_table}
use Rattle.station.specs.Station.{codes_valid, figures_valid, situation_of}
use Rattle.station.specs.declared.StationRecord.{StationRecord}
use Rattle.entry.specs.Entry.{edges_valid, edges_read}
use Rattle.occupancy.specs.declared.Edges.{Edges}
use Rattle.decision.specs.Decision.{no_advice, finish_of, simple_of, refused_of}
use Rattle.part97.specs.Part97.{draft_of, draft_inside, draft_automatic, privileged_of, noted, notes_up_to, any_note, plan_says, wants_plan}
use Rattle.part97.specs.Part97.{guidance_of, advice_of, advice_warns, advised, automatic_elsewhere, automatic_data, considered, nearest_up_to}
use Rattle.part97.specs.Part97.{overshoot_of, outside_segments, inside_segment, judge_data, allowed_on_sixty, sixty_channel, sixty_segment}
use Rattle.part97.specs.Part97.{sixty_overlap, sixty_place, sixty_emission, sixty_kind, sixty, judge_on_band, judge_in_band, touching, judge}
use Rattle.verdict.specs.Verdict.{air_of, signal_of, case_of, ready_of, under_rules_of, unruled_of, decide_of, evaluate_of}
use Rattle.dials.specs.List.{situation_rows, list_rows, list_tests, answer_of, bytes_of, SafeDials}
use Rattle.dial_rows.specs.Dials.{request_of, piece_rows, automatic_rows, cut_rows, privilege_rows, privileges_rows}
use Rattle.dial_rows.specs.Dials.{segment_rows, data_rows, channel_found, channel_row, channel_rows, open_rows, rows_of}
use Rattle.byte_writes.specs.Bytes.{little}
use Rattle.rows.specs.Rows.{insert_row, insert_all, figures_of, encode_row, encode_all}
use Rattle.lists.specs.Each.{each}
use Rattle.eighths.specs.Grid.{in_eighths}
use Rattle.distance.specs.Distance.{is_outside, considered_at, least_up_to, distance_of}
use Rattle.demand_3.specs.Words.{record_in_eighths, block_in_eighths, table_in_eighths, edges_in_eighths, dial_in_eighths, station_in_eighths, tuned}
use Rattle.demand_3.specs.Words.{audio_of, accepted, rules_in_force, unrefused, prerequisites_met, guarded_width, positive_width, channel_band_holds}
use Rattle.demand_3.specs.Words.{on_channel_band, table_met, station_met, signal_met, verdict_at, allows, distance_at, Demand3}
use Rattle.demand_3.specs.Tests.{and_both}
use Rattle.demand_3.specs.Grounds.{accepted_of}
use Rattle.demand_3.specs.Theorem.{demand_3}

-- ---- small tables, put together field by field

-- a figure in whole hertz, and its bits
abbrev hz : ℕ → Float
hz n = of_int binary64 (pos n)

abbrev bits : ℕ → ℕ
bits n = to_bits binary64 (hz n)

-- a general block: the data limit, the channels' width, offset and tolerance, the flags and the channel band; the rest is zero
abbrev block : ℕ → ℕ → ℕ → ℕ → ℕ → ℕ → List ℕ
block limit width offset tolerance flags channel =
    little 8 (bits limit) ++ (replicate 8 0 ++ (little 8 (bits width) ++ (little 8 (bits offset) ++ (little 8 (bits tolerance)
    ++ (0 ∷ 0 ∷ flags ∷ channel ∷ replicate 20 0)))))

-- a record: low, high, band, class, flags; no figure, emissions or rules
abbrev entry : ℕ → ℕ → ℕ → ℕ → ℕ → List ℕ
entry low high band class flags =
    little 8 (bits low) ++ (little 8 (bits high) ++ (replicate 8 0 ++ (band ∷ class ∷ 0 ∷ flags ∷ replicate 4 0)))

-- a trailer: so many bands, one segment, so many channels, privileges and automatic segments, and the distance back
abbrev trailer : ℕ → ℕ → ℕ → ℕ → ℕ → List ℕ
trailer bands channels privileges automatic back =
    bands ∷ 0 ∷ 1 ∷ 0 ∷ channels ∷ 0 ∷ privileges ∷ 0 ∷ automatic ∷ 0 ∷ replicate 8 0
    ++ (back ∷ 0 ∷ 0 ∷ 0 ∷ 1 ∷ 0 ∷ 69 ∷ 68 ∷ 71 ∷ 69 ∷ [])

-- band 1 is 0–100, its segment 20–80
abbrev band : List ℕ
band = entry 0 100 1 0 0

abbrev segment : List ℕ
segment = entry 20 80 1 0 0

-- an Extra's privilege, 0–100; the same that forbids every emission; one of 0–20; and one of 0–300
abbrev privilege : List ℕ
privilege = entry 0 100 0 4 0

abbrev forbidding : List ℕ
forbidding = entry 0 100 0 4 1

abbrev lowest : List ℕ
lowest = entry 0 20 0 4 0

abbrev everywhere : List ℕ
everywhere = entry 0 300 0 4 0

-- general limit 10
abbrev plain : List ℕ
plain = block 10 0 0 0 0 0 ++ (band ++ (segment ++ (privilege ++ trailer 1 0 1 0 160)))

-- an automatic segment, 40–60
abbrev automatic : List ℕ
automatic = block 10 0 0 0 0 0 ++ (band ++ (segment ++ (privilege ++ (entry 40 60 0 0 0 ++ trailer 1 0 1 1 192))))

-- a first privilege that forbids data, a second that does not: untidy
abbrev untidy : List ℕ
untidy = block 10 0 0 0 0 0 ++ (band ++ (segment ++ (forbidding ++ (privilege ++ trailer 1 0 2 0 192))))

-- general limit 1,000
abbrev broad : List ℕ
broad = block 1000 0 0 0 0 0 ++ (band ++ (segment ++ (privilege ++ trailer 1 0 1 0 160)))

-- the privilege ends where the segment begins
abbrev meeting : List ℕ
meeting = block 10 0 0 0 0 0 ++ (band ++ (segment ++ (lowest ++ trailer 1 0 1 0 160)))

-- band 1 is the channel band: a channel at 90, width 10, offset 2, tolerance 1
abbrev channelled : List ℕ
channelled = block 10 10 2 1 4 1 ++ (band ++ (segment ++ (entry 90 0 0 0 0 ++ (privilege ++ trailer 1 1 1 0 192))))

-- the channel band is another, band 2, 200–300: a channel at 290
abbrev beside : List ℕ
beside =
    block 10 10 2 1 4 2
    ++ (band ++ (entry 200 300 2 0 0 ++ (segment ++ (entry 290 0 0 0 0 ++ (everywhere ++ trailer 2 1 1 0 224)))))

-- Rules, Extra, no dial; by control (0 local, 2 automatic), sideband (0 upper, 1 lower) and margins
abbrev station : ℕ → ℕ → Margins → StationRecord
station control sideband margin =
    record {
      policy = 2;
      control = control;
      license = 4;
      sideband = sideband;
      itu_region = 0;
      band_plan = 0;
      dial_known = 0;
      power_known = 0;
      margin = margin;
      dial_hz = zero_hz;
      power_w = zero_hz;
    }

-- no margin
abbrev unguarded : Margins
unguarded = margins zero_hz zero_hz

-- local, on the upper sideband, with no margin
abbrev usual : StationRecord
usual = station 0 0 unguarded

abbrev edges : Float → Float → Edges
edges low high = record { power = range low high; spectral = range low high }

-- a signal of 0–5
abbrev narrow : Edges
narrow = edges zero_hz (hz 5)

-- room for two rows
abbrev lent : List ℕ
lent = replicate 72 0

-- ---- the list call's answer and bytes, and the premises' truth

module _ (r : StationRecord) (e : Edges) (l : List ℕ) where
  abbrev answer : Result ℕ Refusal
  answer = answer_of (refusal_of (list_tests r 0 e l lent)) (list_rows r 0 e l)

  abbrev left : List ℕ
  left = bytes_of (refusal_of (list_tests r 0 e l lent)) (list_rows r 0 e l) lent

  call : SafeDials r 0 e l lent left answer
  call = record { answered = refl; bytes = refl }

  -- of the table: no check refuses it, tidy, in eighths; of the station: Rules, prerequisites, in eighths, the list's own dial too; of the
  -- signal: in eighths, a positive width; of the dial: not refused, off the channel band
  abbrev premises : Float → List Bool
  premises dial =
      let table = table_of l in
      let s = situation_of r in
      let there = situation_of (tuned r dial) in
      let audio = audio_of table (edges_read e) in
      unrefused table ∷ tidy_table table ∷ table_in_eighths table ∷ rules_in_force there ∷ prerequisites_met table there ∷ station_in_eighths there
      ∷ dial_in_eighths s.dial ∷ edges_in_eighths (edges_read e) ∷ positive_width s audio ∷ accepted (verdict_at r 0 e l dial).refusal
      ∷ not (on_channel_band table s audio (read_hz dial)) ∷ []

  -- what an input comes to
  record Outcome (dial : Float) (count : ℕ) (met : List Bool) (distance : Result (Option Float) Refusal) (allowed : Bool) : Type 0 where
    premises_are : premises dial ≡ met
    fitted : answer ≡ Ok count
    distance_is : distance_at l count left dial ≡ distance
    verdict_is : allows (verdict_at r 0 e l dial) ≡ allowed

abbrev all : List Bool
all = replicate 11 true

-- ---- every premise met is demand 3's premises

abbrev at : ℕ → List Bool → Bool
at n bs = get_or bs n false

-- So the statement holds of such an input.
holds :
    (r : StationRecord) (e : Edges) (l : List ℕ) (dial : Float) (count : ℕ) (distance : Result (Option Float) Refusal) (allowed : Bool)
    → Outcome r e l dial count all distance allowed → Demand3 r 0 e l count (left r e l) dial
unfolding table_met station_met signal_met
holds r e l dial count distance allowed o =
    demand_3 r 0 e l lent (left r e l) (answer r e l) count dial (call r e l)
    (record {
      table = and_both _ _ (ap (at 0) o.premises_are) (and_both _ _ (ap (at 1) o.premises_are) (ap (at 2) o.premises_are));
      station = and_both _ _ (ap (at 3) o.premises_are) (and_both _ _ (ap (at 4) o.premises_are) (ap (at 5) o.premises_are));
      own_dial = ap (at 6) o.premises_are;
      signal = and_both _ _ (ap (at 7) o.premises_are) (ap (at 8) o.premises_are);
      fitted = o.fitted;
      not_refused = accepted_of (verdict_at r 0 e l dial).refusal (ap (at 9) o.premises_are);
      off_channels = not-true _ (ap (at 10) o.premises_are);
    })

-- ---- computed

-- the definitions that computing from the bytes opens: to unfold `opened` is to unfold them all
opened : Unit {0}
unfolding
    situation_rows list_rows request_of piece_rows automatic_rows cut_rows privilege_rows privileges_rows segment_rows data_rows channel_found channel_row
    channel_rows open_rows rows_of insert_row insert_all little figures_of encode_row encode_all each to_bits evaluate_of decide_of unruled_of under_rules_of
    ready_of case_of signal_of air_of judge touching judge_in_band judge_on_band sixty sixty_kind sixty_emission sixty_place sixty_overlap sixty_segment sixty_channel
    allowed_on_sixty judge_data inside_segment outside_segments overshoot_of nearest_up_to considered automatic_data automatic_elsewhere advised
    advice_warns advice_of guidance_of plan_says wants_plan notes_up_to any_note noted privileged_of draft_automatic draft_inside draft_of refused_of
    simple_of finish_of no_advice edges_read edges_valid situation_of codes_valid figures_valid check_of coded_block miscoded sound_block unsound bare
    unlimited asks sound_bits sound_record coded_of coded_general tables_from records_before record_at watts_at general_of u16_at u32_at u64_at first_from lt le eq ne neg
    add sub mul div of_int of_bits record_in tidy_table two_share in_eighths record_in_eighths block_in_eighths table_in_eighths edges_in_eighths station_in_eighths
    tuned prerequisites_met guarded_width positive_width channel_band_holds on_channel_band is_outside considered_at least_up_to
    distance_of
opened = tt

-- ---- inputs that meet every premise

-- the dial 30 is in the row 20–75
nought : Outcome usual narrow plain (hz 30) 1 all (Ok (Some zero_hz)) true
unfolding opened
nought = record { premises_are = refl; fitted = refl; distance_is = refl; verdict_is = refl }

-- the dial 10 is 10 below it
away : Outcome usual narrow plain (hz 10) 1 all (Ok (Some (hz 10))) false
unfolding opened
away = record { premises_are = refl; fitted = refl; distance_is = refl; verdict_is = refl }

-- a signal wider than the limit has no row
none : Outcome usual (edges zero_hz (hz 20)) plain (hz 30) 0 all (Ok None) false
unfolding opened
none = record { premises_are = refl; fitted = refl; distance_is = refl; verdict_is = refl }

-- an automatic station, its row cut to the automatic segment, 40–55: the dial 50 is in it
automatic_nought : Outcome (station 2 0 unguarded) narrow automatic (hz 50) 1 all (Ok (Some zero_hz)) true
unfolding opened
automatic_nought = record { premises_are = refl; fitted = refl; distance_is = refl; verdict_is = refl }

-- the dial 30, where a local station may send, is 10 below it
automatic_away : Outcome (station 2 0 unguarded) narrow automatic (hz 30) 1 all (Ok (Some (hz 10))) false
unfolding opened
automatic_away = record { premises_are = refl; fitted = refl; distance_is = refl; verdict_is = refl }

-- the lower sideband, with the row 25–80: the dial 78 is in it
lower_nought : Outcome (station 0 1 unguarded) narrow plain (hz 78) 1 all (Ok (Some zero_hz)) true
unfolding opened
lower_nought = record { premises_are = refl; fitted = refl; distance_is = refl; verdict_is = refl }

-- the dial 22, where the upper sideband may send, is 3 below it
lower_away : Outcome (station 0 1 unguarded) narrow plain (hz 22) 1 all (Ok (Some (hz 3))) false
unfolding opened
lower_away = record { premises_are = refl; fitted = refl; distance_is = refl; verdict_is = refl }

-- margins 3 and 7 on the lower sideband, sides of the air all the same, with the row 28–73: its lower end is in it
apart_nought : Outcome (station 0 1 (margins (hz 3) (hz 7))) narrow plain (hz 28) 1 all (Ok (Some zero_hz)) true
unfolding opened
apart_nought = record { premises_are = refl; fitted = refl; distance_is = refl; verdict_is = refl }

-- the dial 74 is 1 above it
apart_away : Outcome (station 0 1 (margins (hz 3) (hz 7))) narrow plain (hz 74) 1 all (Ok (Some (hz 1))) false
unfolding opened
apart_away = record { premises_are = refl; fitted = refl; distance_is = refl; verdict_is = refl }

-- margins −4 and 3: a positive width of 5 − 4 + 3, on the upper sideband with the row 16–72
negative_nought : Outcome (station 0 0 (margins (sub binary64 zero_hz (hz 4)) (hz 3))) narrow plain (hz 16) 1 all (Ok (Some zero_hz)) true
unfolding opened
negative_nought = record { premises_are = refl; fitted = refl; distance_is = refl; verdict_is = refl }

-- a table with a channel on another band, with the rows 20–75 and 288–288: off that band the dial 30 is in the first
beside_nought : Outcome usual narrow beside (hz 30) 2 all (Ok (Some zero_hz)) true
unfolding opened
beside_nought = record { premises_are = refl; fitted = refl; distance_is = refl; verdict_is = refl }

-- the dial 198 is 123 above it; the channel's row, 90 away, does not count
beside_away : Outcome usual narrow beside (hz 198) 2 all (Ok (Some (hz 123))) false
unfolding opened
beside_away = record { premises_are = refl; fitted = refl; distance_is = refl; verdict_is = refl }

-- ---- inputs that meet every premise but one

-- without tidy: the list goes by any privilege that allows data, the verdict by the first that holds
without_tidy : Outcome usual narrow untidy (hz 30) 1 (true ∷ false ∷ replicate 9 true) (Ok (Some zero_hz)) false
unfolding opened
without_tidy = record { premises_are = refl; fitted = refl; distance_is = refl; verdict_is = refl }

-- without eighths: margins 12.200000000000001, edges 0.3–0.7, dial 31.9 is listed and blocked
without_eighths :
    Outcome (station 0 0 (margins (of_bits binary64 0x4028666666666667) (of_bits binary64 0x4028666666666667)))
    (edges (of_bits binary64 0x3fd3333333333333) (of_bits binary64 0x3fe6666666666666)) broad
    (of_bits binary64 0x403fe66666666666) 1 (replicate 5 true ++ (false ∷ true ∷ false ∷ replicate 3 true)) (Ok (Some zero_hz)) false
unfolding opened
without_eighths = record { premises_are = refl; fitted = refl; distance_is = refl; verdict_is = refl }

-- without the positive width: privilege and segment share one figure, where no stretch is listed and data is allowed
without_width : Outcome usual (edges zero_hz zero_hz) meeting (hz 20) 0 (replicate 8 true ++ (false ∷ replicate 2 true)) (Ok None) true
unfolding opened
without_width = record { premises_are = refl; fitted = refl; distance_is = refl; verdict_is = refl }

-- without a dial off the channel band: a channel allows data, and its rows do not count
without_channels : Outcome usual narrow channelled (hz 88) 2 (replicate 10 true ++ (false ∷ [])) (Ok None) true
unfolding opened
without_channels = record { premises_are = refl; fitted = refl; distance_is = refl; verdict_is = refl }
