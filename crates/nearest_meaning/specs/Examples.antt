-- The answer computed from bytes, on small tables, and that what is proved of it is not vacuous: open dials there are.
use Rattle.codes.specs.declared.Refusal.TheVariants as refusal
use Rattle.codes.specs.declared.Refusal.{Refusal}
use Rattle.std.specs.Prelude.{ℕ, List, [], ◌∷◌, ◌++◌, ◌≡◌, refl, pos, replicate, Float, Result, Ok, Err}
use Rattle.std.specs.Float.{binary64}
use Rattle.std.specs.Float.Ieee.{of_bits, to_bits, of_int, lt, le, eq, ne, neg, add, sub, mul, div}
use Rattle.figures.specs.Figure.{zero_hz}
use Rattle.scan.specs.First.{first_from}
use Rattle.layout.specs.Bytes.{u16_at, u32_at, u64_at}
use Rattle.layout.specs.Layout.{watts_at, tables_from, records_before, record_at, general_of}
use Rattle.coded.specs.Coded.{coded_of, coded_general}
use Rattle.find.specs.Question.{asks, sound_bits, sound_record}
use Rattle.profile.specs.Range.{range}
use Rattle.air.specs.Air.{margins}
use Rattle.image.specs.Check.{coded_block, miscoded, sound_block, unsound, bare, unlimited, check_of}
use Rattle.table.specs.Table.{record_in}
use Rattle.tidy.specs.Tidy.{two_share, tidy_table}
use Rattle.station.specs.Station.{codes_valid, figures_valid, situation_of}
use Rattle.station.specs.declared.StationRecord.{StationRecord}
use Rattle.entry.specs.Entry.{edges_valid, edges_read}
use Rattle.occupancy.specs.declared.Edges.{Edges}
use Rattle.decision.specs.Decision.{no_advice, finish_of, simple_of, refused_of}
use Rattle.part97.specs.Part97.{draft_of, draft_inside, draft_automatic, privileged_of, noted, notes_up_to, any_note, plan_says, wants_plan}
use Rattle.part97.specs.Part97.{guidance_of, advice_of, advice_warns, advised, automatic_elsewhere, automatic_data, considered, nearest_up_to}
use Rattle.part97.specs.Part97.{overshoot_of, outside_segments, inside_segment, judge_data, allowed_on_sixty, sixty_channel, sixty_segment}
use Rattle.part97.specs.Part97.{sixty_overlap, sixty_place, sixty_emission, sixty_kind, sixty, judge_on_band, judge_in_band, touching, judge}
use Rattle.verdict.specs.Verdict.{air_of, signal_of, case_of, ready_of, under_rules_of, unruled_of, decide_of, evaluate_of}
use Rattle.dials.specs.List.{situation_rows, list_rows}
use Rattle.dial_rows.specs.Dials.{request_of, piece_rows, automatic_rows, cut_rows, privilege_rows, privileges_rows}
use Rattle.dial_rows.specs.Dials.{segment_rows, data_rows, channel_found, channel_row, channel_rows, open_rows, rows_of}
use Rattle.byte_writes.specs.Bytes.{little}
use Rattle.rows.specs.Rows.{insert_row, insert_all, figures_of, encode_row, encode_all}
use Rattle.lists.specs.Each.{each}
use Rattle.eighths.specs.Grid.{in_eighths}
use Rattle.distance.specs.Distance.{is_outside}
use Rattle.demand_3.specs.Words.{record_in_eighths, block_in_eighths, table_in_eighths, edges_in_eighths, station_in_eighths, tuned}
use Rattle.demand_3.specs.Words.{prerequisites_met, guarded_width, positive_width, channel_band_holds}
use Rattle.demand_3.specs.Words.{on_channel_band, table_met, station_met, signal_met}
use Rattle.on_grid.specs.Within.{figure_met, record_met, block_met, figures_met, edges_met}
use Rattle.nearest_rows.specs.Over.{point_of, far_of, before, nearest_over}
use Rattle.nearest.specs.Nearest.{within38, judged_of, nearest_in, nearest_of}
use Rattle.nearest.specs.declared.Nearest.{Nearest}
use Rattle.nearest.specs.declared.Nearest.TheVariants.{Dial, NoneAllowed, NotJudged}
use Rattle.nearest_meaning.specs.Words.{Open}
use Rattle.nearest_meaning.specs.Theorem.{dial_open}

-- ---- small tables, put together field by field

-- a figure in whole hertz, and its bits
abbrev hz : ℕ → Float
hz n = of_int binary64 (pos n)

abbrev bits : ℕ → ℕ
bits n = to_bits binary64 (hz n)

-- a general block: the data limit, the channels' width, offset and tolerance, the flags and the channel band; the rest is zero
abbrev block : ℕ → ℕ → ℕ → ℕ → ℕ → ℕ → List ℕ
block limit width offset tolerance flags channel =
    little 8 (bits limit) ++ (replicate 8 0 ++ (little 8 (bits width) ++ (little 8 (bits offset) ++ (little 8 (bits tolerance)
    ++ (0 ∷ 0 ∷ flags ∷ channel ∷ replicate 20 0)))))

-- a record: low, high, band, class; no figure, emissions, flags or rules
abbrev entry : ℕ → ℕ → ℕ → ℕ → List ℕ
entry low high band class = little 8 (bits low) ++ (little 8 (bits high) ++ (replicate 8 0 ++ (band ∷ class ∷ replicate 6 0)))

-- a trailer: one band, so many segments, so many channels, one privilege, and the distance back
abbrev trailer : ℕ → ℕ → ℕ → List ℕ
trailer segments channels back =
    1 ∷ 0 ∷ segments ∷ 0 ∷ channels ∷ 0 ∷ 1 ∷ 0 ∷ replicate 10 0 ++ (back ∷ 0 ∷ 0 ∷ 0 ∷ 1 ∷ 0 ∷ 69 ∷ 68 ∷ 71 ∷ 69 ∷ [])

-- band 1 is 0–100, and an Extra's privilege
abbrev band : List ℕ
band = entry 0 100 1 0

abbrev privilege : List ℕ
privilege = entry 0 100 0 4

-- general limit 10; the segment 20–80
abbrev small : List ℕ
small = block 10 0 0 0 0 0 ++ (band ++ (entry 20 80 1 0 ++ (privilege ++ trailer 1 0 160)))

-- two segments, 20–40 and 60–80
abbrev two : List ℕ
two = block 10 0 0 0 0 0 ++ (band ++ (entry 20 40 1 0 ++ (entry 60 80 1 0 ++ (privilege ++ trailer 2 0 192))))

-- band 1 is the channel band: a channel at 90, width 10, offset 2, tolerance 1
abbrev channelled : List ℕ
channelled = block 10 10 2 1 4 1 ++ (band ++ (entry 20 80 1 0 ++ (entry 90 0 0 0 ++ (privilege ++ trailer 1 1 192))))

-- Rules, Extra, local, on the upper sideband, with no margin, at a dial
abbrev station : Float → StationRecord
station dial =
    record {
      policy = 2;
      control = 0;
      license = 4;
      sideband = 0;
      itu_region = 0;
      band_plan = 0;
      dial_known = 1;
      power_known = 0;
      margin = margins zero_hz zero_hz;
      dial_hz = dial;
      power_w = zero_hz;
    }

-- a signal of 0–5
abbrev narrow : Edges
narrow = record { power = range zero_hz (hz 5); spectral = range zero_hz (hz 5) }

abbrev from : List ℕ → Float → Result Nearest Refusal
from l dial = nearest_of (station dial) 0 narrow l

-- ---- computed

-- the definitions that computing from the bytes opens: to unfold `opened` is to unfold them all
opened : Unit {0}
unfolding
    situation_rows list_rows request_of piece_rows automatic_rows cut_rows privilege_rows privileges_rows segment_rows data_rows channel_found channel_row
    channel_rows open_rows rows_of insert_row insert_all little figures_of encode_row encode_all each to_bits evaluate_of decide_of unruled_of under_rules_of
    ready_of case_of signal_of air_of judge touching judge_in_band judge_on_band sixty sixty_kind sixty_emission sixty_place sixty_overlap sixty_segment sixty_channel
    allowed_on_sixty judge_data inside_segment outside_segments overshoot_of nearest_up_to considered automatic_data automatic_elsewhere advised
    advice_warns advice_of guidance_of plan_says wants_plan notes_up_to any_note noted privileged_of draft_automatic draft_inside draft_of refused_of
    simple_of finish_of no_advice edges_read edges_valid situation_of codes_valid figures_valid check_of coded_block miscoded sound_block unsound bare
    unlimited asks sound_bits sound_record coded_of coded_general tables_from records_before record_at watts_at general_of u16_at u32_at u64_at first_from lt le eq ne neg
    add sub mul div of_int of_bits record_in tidy_table two_share in_eighths record_in_eighths block_in_eighths table_in_eighths edges_in_eighths station_in_eighths
    tuned prerequisites_met guarded_width positive_width channel_band_holds on_channel_band is_outside
    judged_of within38 figure_met record_met block_met figures_met edges_met table_met station_met signal_met nearest_in nearest_of nearest_over point_of far_of
    before
opened = tt

-- the row 20–75: from below its lower end, in it the dial itself, from above its upper end
from_below : from small (hz 10) ≡ Ok (Dial (hz 20))
unfolding opened
from_below = refl

in_the_row : from small (hz 30) ≡ Ok (Dial (hz 30))
unfolding opened
in_the_row = refl

from_above : from small (hz 100) ≡ Ok (Dial (hz 75))
unfolding opened
from_above = refl

-- the rows 20–35 and 60–75: from 47.5 they are equally close, and the lower is given; from 47.625 the upper is closer
equally_close : from two (of_bits binary64 0x4047c00000000000) ≡ Ok (Dial (hz 35))
unfolding opened
equally_close = refl

closer : from two (of_bits binary64 0x4047d00000000000) ≡ Ok (Dial (hz 60))
unfolding opened
closer = refl

-- the channel at the dial 88 is not moved to
channel_only : from channelled (hz 88) ≡ Ok NoneAllowed
unfolding opened
channel_only = refl

-- 30.0625 is not in eighths
off_grid : from small (of_bits binary64 0x403e100000000000) ≡ Ok NotJudged
unfolding opened
off_grid = refl

-- no image
no_image : from [] (hz 30) ≡ Err refusal.NoImage
unfolding opened
no_image = refl

-- ---- so an open dial there is

twenty_open : Open (station (hz 10)) 0 narrow small (hz 20)
twenty_open = dial_open (station (hz 10)) 0 narrow small (hz 20) from_below
