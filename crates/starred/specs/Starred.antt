-- The starred cases of document 01's practice table, proved together from the image's bytes, over the definitions that the calls'
-- promises cite. Each answer is as whole as document 01 states it: verdict, code and overshoot.
use Rattle.std.specs.Prelude.{ℕ, List, [], ◌∷◌, ◌++◌, ◌≡◌, refl, true, Float, replicate, drop, Option, Some, None, Result, Ok}
use Rattle.codes.specs.Refusal.{Checked, refusal_of}
use Rattle.codes.specs.declared.Refusal.{Refusal}
use Rattle.std.proofs.Common.{sym, ap, ap₂, ◌∙◌}
use Rattle.codes.specs.Read.{kind_of, direction_of}
use Rattle.std.specs.Float.Ieee.{of_bits, to_bits, of_int, lt, le, eq, ne, neg, add, sub, mul, div}
use Rattle.scan.specs.First.{first_from}
use Rattle.layout.specs.Bytes.{u16_at, u32_at, u64_at}
use Rattle.layout.specs.Layout.{watts_at, tables_from, records_before, record_at, general_of}
use Rattle.table.specs.Table.{record_in, table_of}
use Rattle.coded.specs.Coded.{coded_of, coded_general}
use Rattle.find.specs.Question.{asks, sound_bits, sound_record}
use Rattle.image.specs.Check.{coded_block, miscoded, sound_block, unsound, bare, unlimited, check_of}
use Rattle.station.specs.Station.{codes_valid, figures_valid, situation_of, station_tests}
use Rattle.entry.specs.Entry.{edges_valid, edges_read}
use Rattle.entry.specs.Laws.{entry_check}
use Rattle.occupancy.specs.declared.Edges.{Edges}
use Rattle.decision.specs.Decision.{no_advice, finish_of, simple_of, refused_of}
use Rattle.decision.specs.declared.Verdict.{Verdict}
use Rattle.decision.specs.declared.Verdict.TheVariants.{Legal, Blocked}
use Rattle.decision.specs.declared.Code.{Code}
use Rattle.decision.specs.Reason.{Permitted, Privilege, OutsideDataSegment, NoDataHere, TooWide}
use Rattle.decision.specs.Reason.{AutomaticSegment, AutomaticOriginate, AutomaticResponse, SixtyChannel}
use Rattle.decision.specs.declared.Edge.TheVariants.{Upper}
use Rattle.decision.specs.declared.Overshoot.{Overshoot}
use Rattle.decision.specs.declared.Overshoot.TheVariants.{Beyond, TooClose}
use Rattle.decision.specs.declared.Decision.{Decision}
use Rattle.part97.specs.Part97.{draft_of, draft_inside, draft_automatic, privileged_of, noted, notes_up_to, any_note, plan_says, wants_plan}
use Rattle.part97.specs.Part97.{guidance_of, advice_of, advice_warns, advised, automatic_elsewhere, automatic_data, considered}
use Rattle.part97.specs.Part97.{nearest_up_to, overshoot_of, outside_segments, inside_segment, judge_data, allowed_on_sixty, sixty_channel}
use Rattle.part97.specs.Part97.{sixty_segment, sixty_overlap, sixty_place, sixty_emission, sixty_kind, sixty, judge_on_band, judge_in_band, touching, judge}
use Rattle.verdict.specs.Verdict.{air_of, signal_of, case_of, ready_of, under_rules_of, unruled_of, decide_of, beside_valid, evaluate_of}
use Rattle.verdict.specs.Laws.{evaluate_accepted}
use Rattle.ceiling.specs.Ceiling.{climb_start, ended_of, went_on, climb_after, judge_by, rung_judged, climb_step, climbed, limited, limit_of, ceiling_of}
use Rattle.rungs.specs.Rungs.{rung_of, burst_of, bad_edges, bad_rungs}
use Rattle.ceiling.specs.declared.CeilingAnswer.{CeilingAnswer}
use Rattle.dials.specs.List.{situation_rows, list_rows, list_tests, answer_of, bytes_of}
use Rattle.dial_rows.specs.Dials.{request_of, piece_rows, automatic_rows, cut_rows, privilege_rows, privileges_rows}
use Rattle.dial_rows.specs.Dials.{segment_rows, data_rows, channel_found, channel_row, channel_rows, open_rows, rows_of}
use Rattle.byte_writes.specs.Bytes.{little}
use Rattle.lists.specs.Each.{each}
use Rattle.rows.specs.Rows.{insert_row, insert_all, figures_of, encode_row, encode_all}
use Rattle.rows.specs.declared.SafeDial.{SafeDial}
use Rattle.starred.specs.Practice.{hz, practice, station, edges, usual}

-- what document 01 states of a verdict
pub record Stated : Type 0 where
  pub verdict : Verdict
  pub code : Option Code
  pub overshoot : Option Overshoot

abbrev pub stated : Decision → Stated
stated d = record { verdict = d.verdict; code = d.code; overshoot = d.overshoot }

abbrev pub says : Verdict → Option Code → Option Overshoot → Stated
says v c o = record { verdict = v; code = c; overshoot = o }

-- data at a dial, by control (0 local, 2 automatic) and direction (0 originating, 1 responding)
abbrev pub data_at : ℕ → ℕ → Edges → Float → Stated
data_at control direction e dial = stated (evaluate_of (station control dial) 0 direction e practice)

abbrev pub local : Float → Stated
local dial = data_at 0 0 usual dial

-- the gate's answers, in document 01's order
abbrev pub answers : List Stated
answers =
    local (hz 14_023_800_000)
    ∷ local (hz 14_023_799_875)
    ∷ local (hz 14_148_200_000)
    ∷ local (hz 14_148_200_125)
    ∷ local (hz 14_148_500_000)
    ∷ local (hz 14_149_000_000)
    ∷ data_at 0 0 (edges (hz 100_000) (hz 2_900_000)) (hz 14_100_000_000)
    ∷ data_at 0 0 (edges (hz 100_000) (hz 2_900_125)) (hz 14_100_000_000)
    ∷ data_at 2 0 usual (hz 14_097_700_000)
    ∷ data_at 2 0 usual (hz 14_098_000_000)
    ∷ data_at 2 1 usual (hz 14_098_000_000)
    ∷ local (hz 5_330_550_000)
    ∷ local (hz 5_330_550_125)
    ∷ []

-- document 01's: "14,023,800 permitted; 14,023,799.875 privilege";
-- "14,148,200 permitted; 14,148,200.125 too close, upper; 14,148,500 beyond upper by 250; 14,149,000 no_data_here";
-- "Dial 14,100,000: edges 100–2,900 permitted; 100–2,900.125 too_wide";
-- "Automatic: 14,097,700 automatic_segment; 14,098,000 originating automatic_originate, responding automatic_response";
-- "60 m: 5,330,550 legal 24; 5,330,550.125 blocked 24"
abbrev pub expected : List Stated
expected =
    says Legal Permitted None
    ∷ says Blocked Privilege None
    ∷ says Legal Permitted None
    ∷ says Blocked OutsideDataSegment (Some (TooClose Upper))
    ∷ says Blocked OutsideDataSegment (Some (Beyond (hz 250_000) Upper))
    ∷ says Blocked NoDataHere None
    ∷ says Legal Permitted None
    ∷ says Blocked TooWide None
    ∷ says Legal AutomaticSegment None
    ∷ says Blocked AutomaticOriginate None
    ∷ says Legal AutomaticResponse None
    ∷ says Legal SixtyChannel None
    ∷ says Blocked SixtyChannel None
    ∷ []

-- "Ceiling at 14,100,000, rungs 1,250–1,750, 1,000–2,000, 0–2,900, control 1,250–1,750: rung 1, limit too_wide."
abbrev pub rungs : List Float
rungs =
    hz 1_250_000 ∷ hz 1_750_000 ∷ hz 1_250_000 ∷ hz 1_750_000
    ∷ hz 1_000_000 ∷ hz 2_000_000 ∷ hz 1_000_000 ∷ hz 2_000_000
    ∷ hz 0 ∷ hz 2_900_000 ∷ hz 0 ∷ hz 2_900_000
    ∷ []

abbrev pub climb : CeilingAnswer
climb = ceiling_of (station 0 (hz 14_100_000_000)) 0 usual usual practice rungs (0 ∷ 0 ∷ 0 ∷ [])

-- "Automatic originating list": 80 bytes of 165 are lent, room for two rows and 8 bytes past them
abbrev pub lent : List ℕ
lent = replicate 80 165

abbrev pub refusal : Checked
refusal = refusal_of (list_tests (station 2 (hz 14_100_000_000)) 0 usual practice lent)

abbrev pub listed : List SafeDial
listed = list_rows (station 2 (hz 14_100_000_000)) 0 usual practice

-- what the call answers, and the bytes that it leaves
abbrev pub list_answer : Result ℕ Refusal
list_answer = answer_of refusal listed

abbrev pub left : List ℕ
left = bytes_of refusal listed lent

-- "14,093,800–14,097,700, then 14,099,300–14,110,200": each row's piece (14,095,000–14,099,500, then 14,100,500–14,112,000), its dials,
-- band 20, a zero byte and the automatic segments' rule 9
abbrev pub row_bytes : List ℕ
row_bytes =
    0 ∷ 0 ∷ 0 ∷ 0 ∷ 83 ∷ 226 ∷ 106 ∷ 65 ∷ 0 ∷ 0 ∷ 0 ∷ 128 ∷ 133 ∷ 228 ∷ 106 ∷ 65
    ∷ 0 ∷ 0 ∷ 0 ∷ 0 ∷ 189 ∷ 225 ∷ 106 ∷ 65 ∷ 0 ∷ 0 ∷ 0 ∷ 128 ∷ 164 ∷ 227 ∷ 106 ∷ 65
    ∷ 20 ∷ 0 ∷ 9 ∷ 0
    ∷ 0 ∷ 0 ∷ 0 ∷ 128 ∷ 2 ∷ 229 ∷ 106 ∷ 65 ∷ 0 ∷ 0 ∷ 0 ∷ 0 ∷ 160 ∷ 234 ∷ 106 ∷ 65
    ∷ 0 ∷ 0 ∷ 0 ∷ 128 ∷ 108 ∷ 228 ∷ 106 ∷ 65 ∷ 0 ∷ 0 ∷ 0 ∷ 0 ∷ 191 ∷ 233 ∷ 106 ∷ 65
    ∷ 20 ∷ 0 ∷ 9 ∷ 0 ∷ []

-- The starred cases, in one list: the verdicts, the ceiling, and the dial list: two rows, then the lent bytes past them.
pub record Starred : Type 0 where
  pub verdicts : answers ≡ expected
  pub rung : climb.rung ≡ Some 1
  pub limited : limited climb.limit ≡ true
  pub limit : stated (limit_of climb) ≡ says Blocked TooWide None
  pub rows : list_answer ≡ Ok 2
  pub bytes : left ≡ row_bytes ++ drop 72 lent

-- ---- computed

-- the definitions that computing from the bytes opens: to unfold `opened` is to unfold them all
unfoldable pub opened : Unit {0}
unfolding
    record_in check_of coded_block miscoded sound_block unsound bare unlimited asks sound_bits sound_record coded_of coded_general tables_from records_before
    record_at watts_at general_of u16_at u32_at u64_at first_from lt le eq ne neg add sub mul div of_int of_bits decide_of unruled_of under_rules_of ready_of case_of signal_of
    air_of judge touching judge_in_band judge_on_band sixty sixty_kind sixty_emission sixty_place sixty_overlap sixty_segment sixty_channel allowed_on_sixty judge_data
    inside_segment outside_segments overshoot_of nearest_up_to considered automatic_data automatic_elsewhere advised advice_warns advice_of guidance_of
    plan_says wants_plan notes_up_to any_note noted privileged_of draft_automatic draft_inside draft_of refused_of simple_of finish_of no_advice edges_read
    edges_valid situation_of codes_valid figures_valid rung_of burst_of climb_start ended_of went_on climb_after judge_by rung_judged climb_step climbed bad_edges
    bad_rungs ceiling_of situation_rows list_rows request_of piece_rows automatic_rows cut_rows privilege_rows privileges_rows segment_rows data_rows
    channel_found channel_row channel_rows open_rows rows_of insert_row insert_all little figures_of encode_row encode_all each to_bits
opened = tt

-- The practice image is accepted: computed once.
accepted : check_of practice ≡ Ok tt
unfolding opened
accepted = refl

-- So a station record and edges that are accepted too go on to the judgement.
abbrev judged : ℕ → ℕ → Edges → Float → Stated
judged control direction e dial =
    stated
    (decide_of (table_of practice) (situation_of (station control dial)) (situation_of (station control dial)).policy
    (situation_of (station control dial)).dial (kind_of 0) (direction_of direction) (edges_read e))

goes_on_holds :
    (control direction : ℕ) (e : Edges) (dial : Float)
    → refusal_of (station_tests (station control dial) (beside_valid 0 direction) practice) ≡ Ok tt → edges_valid e ≡ true
    → data_at control direction e dial ≡ judged control direction e dial
goes_on_holds control direction e dial s v =
    ap stated
    (evaluate_accepted (station control dial) 0 direction e practice
    (sym (entry_check (station control dial) (beside_valid 0 direction) practice s refl) ∙ accepted) v)

-- one more case
more : {a b : Stated} {xs ys : List Stated} → a ≡ b → xs ≡ ys → a ∷ xs ≡ b ∷ ys
more p q = ap₂ ◌∷◌ p q

all_verdicts : answers ≡ expected
unfolding opened
all_verdicts =
    more (goes_on_holds 0 0 usual (hz 14_023_800_000) refl refl)
    (more (goes_on_holds 0 0 usual (hz 14_023_799_875) refl refl)
    (more (goes_on_holds 0 0 usual (hz 14_148_200_000) refl refl)
    (more (goes_on_holds 0 0 usual (hz 14_148_200_125) refl refl)
    (more (goes_on_holds 0 0 usual (hz 14_148_500_000) refl refl)
    (more (goes_on_holds 0 0 usual (hz 14_149_000_000) refl refl)
    (more (goes_on_holds 0 0 (edges (hz 100_000) (hz 2_900_000)) (hz 14_100_000_000) refl refl)
    (more (goes_on_holds 0 0 (edges (hz 100_000) (hz 2_900_125)) (hz 14_100_000_000) refl refl)
    (more (goes_on_holds 2 0 usual (hz 14_097_700_000) refl refl)
    (more (goes_on_holds 2 0 usual (hz 14_098_000_000) refl refl)
    (more (goes_on_holds 2 1 usual (hz 14_098_000_000) refl refl)
    (more (goes_on_holds 0 0 usual (hz 5_330_550_000) refl refl)
    (more (goes_on_holds 0 0 usual (hz 5_330_550_125) refl refl) refl))))))))))))

pub starred : Starred
unfolding opened
starred = record { verdicts = all_verdicts; rung = refl; limited = refl; limit = refl; rows = refl; bytes = refl }
