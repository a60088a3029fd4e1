-- Demand 3 over the exports: of the flat answers that the library hands out, distance_hz is nought exactly when the verdict is not 2, and
-- with none listed it is not nought. No mark is looked at.
use Rattle.std.specs.Prelude.{ℕ, Bool, true, false, not, List, ◌≡◌, refl, eqb, Float, Option, Some, None, Result, Ok, Err}
use Rattle.codes.specs.declared.Refusal.{Refusal}
use Rattle.std.proofs.Common.{true≢false, sym, ap, ◌∙◌, arith}
use Rattle.std.specs.Float.Ieee.{eq, of_bits}
use Rattle.figures.specs.Figure.{zero_hz, read_hz}
use Rattle.station.specs.Station.{situation_of}
use Rattle.station.specs.declared.StationRecord.{StationRecord}
use Rattle.layout.specs.Layout.{general_of}
use Rattle.table.specs.Table.{table_of}
use Rattle.entry.specs.Entry.{edges_read}
use Rattle.tidy.specs.Tidy.{tidy_of}
use Rattle.decision.specs.Number.{verdict_number}
use Rattle.decision.specs.declared.Verdict.{Verdict}
use Rattle.decision.specs.declared.Verdict.TheVariants.{Legal, Warning, Blocked}
use Rattle.verdict.specs.Verdict.{evaluate_of}
use Rattle.distance.specs.Distance.{distance_of}
use Rattle.demand_3.specs.Words.{table_in_eighths, dial_in_eighths, tuned, audio_of, on_channel_band, station_met}
use Rattle.demand_3.specs.Words.{signal_met, verdict_at, sent, allows, distance_at, nought, answers, NoneOutside}
use Rattle.demand_3.specs.Grounds.{tidy_met}
use Rattle.demand_3.specs.Theorem.{demand_3}
use Rattle.flat.specs.Flat.{station_record_of, edges_of, flat_of}
use Rattle.flat_answers.specs.Answers.{tidiness_flat, FlatDialed, distance_flat}
use Rattle.fitting.specs.Safe.{verdict_not_refused, list_not_refused}
use Rattle.flat.specs.declared.FlatStation.{FlatStation}
use Rattle.flat.specs.declared.FlatEdges.{FlatEdges}
use Rattle.flat.specs.declared.FlatDecision.{FlatDecision}
use Rattle.flat_answers.specs.declared.FlatDials.{FlatDials}
use Rattle.flat_answers.specs.declared.FlatDistance.{FlatDistance}

-- the station at the dial asked
unfoldable pub tuned_flat : FlatStation → Float → FlatStation
tuned_flat s dial =
    record {
      margin_lower_hz = s.margin_lower_hz;
      margin_upper_hz = s.margin_upper_hz;
      dial_hz = dial;
      power_w = s.power_w;
      policy = s.policy;
      control = s.control;
      license = s.license;
      sideband = s.sideband;
      itu_region = s.itu_region;
      band_plan = s.band_plan;
      dial_known = 1;
      power_known = s.power_known;
    }

-- what pamuklid_evaluate answers on data (kind 0) at a dial
abbrev pub flat_verdict : FlatStation → ℕ → FlatEdges → List ℕ → Float → FlatDecision
flat_verdict s direction e l dial = flat_of (evaluate_of (station_record_of (tuned_flat s dial)) 0 direction (edges_of e) l)

-- what pamuklid_distance_of answers, asked with bytes 42 and 43 of the image and the list's count
abbrev pub flat_distance : List ℕ → ℕ → List ℕ → Float → FlatDistance
flat_distance l count left dial = distance_flat (distance_of dial (general_of l).flags (general_of l).channel_band count left)

-- demand 3's premises, as the exports answer them
pub record FlatPremises (s : FlatStation) (direction : ℕ) (e : FlatEdges) (l : List ℕ) (list : FlatDials) (dial : Float) : Type 0 where
  -- the table: accepted and tidy, and in eighths
  pub tidy : (tidiness_flat (tidy_of l)).tidy ≡ 1
  pub eighths : table_in_eighths (table_of l) ≡ true
  pub station : station_met (table_of l) (situation_of (station_record_of (tuned_flat s dial))) ≡ true
  pub own_dial : dial_in_eighths (situation_of (station_record_of s)).dial ≡ true
  pub signal : signal_met (table_of l) (situation_of (station_record_of s)) (edges_read (edges_of e)) ≡ true
  pub fitted : list.refusal ≡ 0
  pub not_refused : (flat_verdict s direction e l dial).refusal ≡ 0
  pub off_channels : on_channel_band (table_of l) (situation_of (station_record_of s)) (audio_of (table_of l) (edges_read (edges_of e))) (read_hz dial) ≡ false

-- what it says of them
pub record FlatDemand3 (verdict : FlatDecision) (distance : FlatDistance) (l : List ℕ) (count : ℕ) (left : List ℕ) : Type 0 where
  pub answered : distance.refusal ≡ 0
  pub exactly : eq distance.distance_hz zero_hz ≡ not (eqb verdict.verdict 2)
  pub none_listed :
      NoneOutside l count left
      → (distance.listed ≡ 0) × (eq distance.distance_hz zero_hz ≡ false) × (verdict.verdict ≡ 2)

-- ---- the flat parts by the others

tidy_flat : (t : Result Bool Refusal) → (tidiness_flat t).tidy ≡ 1 → t ≡ Ok true
tidy_flat (Ok true) e = refl
tidy_flat (Ok false) e = absurd (omega (arith, e))
tidy_flat (Err n) e = absurd (omega (arith, e))

nought_flat : (d : Result (Option Float) Refusal) → eq (distance_flat d).distance_hz zero_hz ≡ nought d
unfolding eq of_bits
nought_flat (Ok (Some x)) = refl
nought_flat (Ok None) = refl
nought_flat (Err n) = refl

answered_flat : (d : Result (Option Float) Refusal) → answers d ≡ true → (distance_flat d).refusal ≡ 0
answered_flat (Ok (Some x)) e = refl
answered_flat (Ok None) e = refl
answered_flat (Err n) e = absurd (true≢false (sym e))

sent_flat : (v : Verdict) → not (eqb (verdict_number v) 2) ≡ sent v
sent_flat Legal = refl
sent_flat Warning = refl
sent_flat Blocked = refl

tuned_flat_holds : (s : FlatStation) (dial : Float) → station_record_of (tuned_flat s dial) ≡ tuned (station_record_of s) dial
unfolding station_record_of tuned_flat tuned
tuned_flat_holds s dial = refl

-- ---- demand 3

-- Whatever the exported list leaves: the flat distance is nought exactly when the flat verdict is not blocked.
pub demand_3_flat :
    (s : FlatStation) (direction : ℕ) (e : FlatEdges) (l lent left : List ℕ) (list : FlatDials) (dial : Float)
    → FlatDialed (station_record_of s) direction (edges_of e) l lent left list
    → FlatPremises s direction e l list dial
    → FlatDemand3 (flat_verdict s direction e l dial) (flat_distance l list.count left dial) l list.count left
unfolding flat_of
demand_3_flat s direction e l lent left list dial L P =
    let r = station_record_of s in
    let same : station_record_of (tuned_flat s dial) ≡ tuned r dial = tuned_flat_holds s dial in
    let verdict : evaluate_of (station_record_of (tuned_flat s dial)) 0 direction (edges_of e) l ≡ verdict_at r direction (edges_of e) l dial =
    ap (λ (x : StationRecord). evaluate_of x 0 direction (edges_of e) l) same in
    let distance = distance_at l list.count left dial in
    let D =
    demand_3 r direction (edges_of e) l lent left _ list.count dial
    (record { answered = refl; bytes = L.bytes })
    (record {
      table = tidy_met l (tidy_flat (tidy_of l) P.tidy) P.eighths;
      station = rw (← same) P.station;
      own_dial = P.own_dial;
      signal = P.signal;
      fitted = list_not_refused r direction (edges_of e) l lent left list L P.fitted;
      not_refused =
          ap (λ d. d.refusal) (sym verdict)
          ∙ verdict_not_refused (station_record_of (tuned_flat s dial)) 0 direction (edges_of e) l P.not_refused;
      off_channels = P.off_channels;
    }) in
    record {
      answered = answered_flat distance D.answered;
      exactly =
          nought_flat distance ∙ D.exactly ∙ ap allows (sym verdict)
          ∙ sym (sent_flat (evaluate_of (station_record_of (tuned_flat s dial)) 0 direction (edges_of e) l).verdict);
      none_listed = λ none.
          let n = D.none_listed none in (
            ap (λ (d : Result (Option Float) Refusal). (distance_flat d).listed) n.0,
            nought_flat distance ∙ n.1,
            ap (λ d. verdict_number d.verdict) verdict ∙ ap verdict_number n.2,
          );
    }
