-- Demand 3: for a tidy table in force, all hertz figures in eighths, prerequisites met, a positive guarded width, a list that fitted, and a
-- dial that the gate doesn't refuse and whose guarded range the channel band doesn't hold, the distance of the dial from the rows that the
-- list call left is nought exactly when the gate allows data at that dial. The list's own dial is another than the one asked.
use Rattle.std.specs.Prelude.{ℕ, ◌+◌, ◌*◌, ◌/◌, ◌≤◌, true, false, not, ◌≡◌, length, drop, Float, Some, None, Result, Ok, Err}
use Rattle.codes.specs.declared.Refusal.TheVariants as refusal
use Rattle.codes.specs.Refusal.{Checked, test, refusal_of}
use Rattle.codes.specs.declared.Refusal.{Refusal}
use Rattle.std.proofs.Common.{true≢false, sym, subst, ◌∙◌, arith, length-append, eqb-true, le-ltb}
use mathlib.Core.List.{List, [], ◌∷◌, ◌++◌}
use Rattle.std.proofs.Math.Path.{refl, ap}
use Rattle.std.proofs.lemmas.Bool.{not-false}
use Rattle.figures.specs.Figure.{limit40, in_size, read_hz}
use Rattle.codes.specs.Read.{policy_of, direction_of, direction_valid}
use Rattle.codes.specs.Laws.{refusal_both, none_fails}
use Rattle.codes.specs.declared.Policy.{Policy}
use Rattle.codes.specs.declared.EmissionKind.TheVariants.{Data}
use Rattle.profile.specs.declared.Range.{Range}
use Rattle.occupancy.specs.declared.Edges.{Edges}
use Rattle.scan.specs.Laws.{and_true, cond_yes}
use Rattle.station.specs.Station.{under_rules, situation_of}
use Rattle.station.specs.declared.StationRecord.{StationRecord}
use Rattle.station.specs.declared.Situation.{Situation}
use Rattle.layout.specs.Layout.{general_of}
use Rattle.table.specs.Table.{table_of}
use Rattle.table.specs.Parts.{reading_of}
use Rattle.entry.specs.Entry.{entry_tests, edges_valid, edges_read}
use Rattle.rows.specs.Rows.{row_size, sorted, encode_all}
use Rattle.rows.specs.Back.{length_encode}
use Rattle.lists.specs.Laws.{Every}
use Rattle.rows.specs.Order.{any_row, length_sorted}
use Rattle.rows.specs.declared.SafeDial.{SafeDial}
use Rattle.dial_rows.specs.Dials.{request_of, rows_of}
use Rattle.dial_rows.specs.Laws.{DialsFit, rows_fit}
use Rattle.dial_rows.specs.declared.Request.{Request}
use Rattle.dials.specs.List.{situation_rows, list_rows, lent_tests, list_tests, answer_of, bytes_of, SafeDials}
use Rattle.decision.specs.Decision.{refused_of}
use Rattle.decision.specs.declared.Verdict.{Verdict}
use Rattle.decision.specs.declared.Verdict.TheVariants.{Legal, Warning, Blocked}
use Rattle.decision.specs.declared.Decision.{Decision}
use Rattle.verdict.specs.Verdict.{under_rules_of, decide_of, beside_valid, edge_tests, evaluate_tests, unless_refused, evaluate_of}
use Rattle.distance.specs.Distance.{least_up_to, distance_of}
use Rattle.eighths.specs.Grid.{Figure}
use Rattle.exact.specs.Air.{MarginFigures}
use Rattle.demand_3.specs.Words.{edges_in_eighths, station_in_eighths, tuned, audio_of, rules_in_force, prerequisites_met, positive_width, on_channel_band}
use Rattle.demand_3.specs.Words.{station_met, signal_met, verdict_at, sent, allows, distance_at, nought, answers, NoneOutside, Premises, Demand3}
use Rattle.demand_3.specs.Tests.{all_three}
use Rattle.demand_3.specs.Order.{Figures}
use Rattle.demand_3.specs.Listed.{lies}
use Rattle.demand_3.specs.Rows.{OutsideEnds, rows_ends}
use Rattle.demand_3.specs.Nearest.{least_none, least_answers}
use Rattle.demand_3.specs.Read.{sorted_nought}
use Rattle.demand_3.specs.Grounds.{spans, under_rules_holds, figures_valid_holds, margin_figures, dial_figure, audio_figures}
use Rattle.demand_3.specs.Exactly.{rows_for, Prerequisites, prerequisites, requested, rows_are, listed_exactly}

-- ---- what the calls' answers say of their tests

-- a list that fitted
fitted_of : (c : Checked) (xs : List SafeDial) (n : ℕ) → answer_of c xs ≡ Ok n → (c ≡ Ok tt) × (length xs ≡ n)
fitted_of (Ok tt) xs n e = (refl, cc)
fitted_of (Err k) xs n e = absurd (let z : ◌≡◌ {A = ℕ} 0 1 = cc in omega arith)

-- a verdict that was not refused
pub judged_of_refusal : (c : Checked) (d : Decision) → (unless_refused c d).refusal ≡ Ok tt → c ≡ Ok tt
unfolding refused_of
judged_of_refusal (Ok tt) d e = refl
judged_of_refusal (Err n) d e = e

blocked_of : (v : Verdict) → sent v ≡ false → v ≡ Blocked
blocked_of Legal e = absurd (true≢false e)
blocked_of Warning e = absurd (true≢false e)
blocked_of Blocked e = refl

-- ---- the distance call answers

module _ (xs : List SafeDial) (rest : List ℕ) where
  room : length xs ≤ length (encode_all (sorted xs) ++ rest) / row_size
  room =
      let a : length (encode_all (sorted xs) ++ rest) ≡ length (encode_all (sorted xs)) + length rest = length-append (encode_all (sorted xs)) rest in
      let b : length (encode_all (sorted xs)) ≡ length (sorted xs) * row_size = length_encode (sorted xs) in
      let c : length (sorted xs) ≡ length xs = length_sorted xs in
      omega arith

  answered :
      (l : List ℕ) (dial : Float) → in_size limit40 dial ≡ true
      → distance_at l (length xs) (encode_all (sorted xs) ++ rest) dial
      ≡ Ok (least_up_to (read_hz dial) (general_of l).flags (general_of l).channel_band (encode_all (sorted xs) ++ rest) (length xs))
  unfolding distance_of
  answered l dial h =
      rw h (rw (le-ltb (length (encode_all (sorted xs) ++ rest) / row_size) (length xs) room))

-- ---- demand 3

module _
    (r : StationRecord) (direction : ℕ) (e : Edges) (l lent left : List ℕ) (answer : Result ℕ Refusal) (count : ℕ) (dial : Float)
    (L : SafeDials r direction e l lent left answer) (P : Premises r direction e l count answer dial)
  where
    abbrev xs : List SafeDial
    xs = list_rows r direction e l

    abbrev rest : List ℕ
    rest = drop (length xs * row_size) lent

    -- the list call refused nothing, and left its rows
    fit : (refusal_of (list_tests r direction e l lent) ≡ Ok tt) × (length xs ≡ count)
    fit = fitted_of (refusal_of (list_tests r direction e l lent)) xs count (sym L.answered ∙ P.fitted)

    left_is : left ≡ encode_all (sorted xs) ++ rest
    left_is = L.bytes ∙ ap (λ (x : Checked). bytes_of x xs lent) fit.0

    edges_valid_holds : edges_valid e ≡ true
    edges_valid_holds =
        not-false (edges_valid e)
        (none_fails (test refusal.SignalEdge (not (edges_valid e)) ∷ lent_tests xs lent)
        (refusal_both (entry_tests r (direction_valid direction) l) (test refusal.SignalEdge (not (edges_valid e)) ∷ lent_tests xs lent) fit.0).1).0

    -- the station at the dial asked, and the signal
    abbrev there : Situation
    there = situation_of (tuned r dial)

    abbrev audio : Range
    audio = audio_of (table_of l) (edges_read e)

    abbrev decided : Policy → Decision
    decided p = decide_of (table_of l) there p there.dial Data (direction_of direction) (edges_read e)

    -- the verdict was not refused
    judged : refusal_of (evaluate_tests (tuned r dial) 0 direction e l) ≡ Ok tt
    unfolding evaluate_of
    judged = judged_of_refusal (refusal_of (evaluate_tests (tuned r dial) 0 direction e l)) (decided there.policy) P.not_refused

    station : (rules_in_force there ≡ true) × (prerequisites_met (table_of l) there ≡ true) × (station_in_eighths there ≡ true)
    unfolding station_met
    station = all_three (rules_in_force there) (prerequisites_met (table_of l) there) (station_in_eighths there) P.station

    signal : (edges_in_eighths (edges_read e) ≡ true) × (positive_width there audio ≡ true)
    unfolding signal_met positive_width situation_of tuned
    signal = and_true (edges_in_eighths (edges_read e)) (positive_width (situation_of r) audio) P.signal

    rules : under_rules r ≡ true
    unfolding tuned
    rules = under_rules_holds (tuned r dial) station.0

    -- the figures
    entered : refusal_of (entry_tests (tuned r dial) (beside_valid 0 direction) l) ≡ Ok tt
    entered = (refusal_both (entry_tests (tuned r dial) (beside_valid 0 direction) l) (edge_tests e) judged).0

    D : Figure (read_hz dial)
    unfolding situation_of tuned
    D = dial_figure (tuned r dial) (beside_valid 0 direction) l entered station.2 (read_hz dial) refl

    M : MarginFigures there.margin
    M = margin_figures (tuned r dial) (beside_valid 0 direction) l entered station.2

    A : Figures audio
    A = audio_figures e (reading_of (general_of l)) edges_valid_holds signal.0

    -- the rows, and the verdict
    rows_for_holds : xs ≡ rows_for (table_of l) there (direction_of direction) audio
    unfolding list_rows situation_rows situation_of tuned
    rows_for_holds = cond_yes (situation_rows (table_of l) (situation_of r) (direction_of direction) (edges_read e)) [] rules

    verdict_is : verdict_at r direction e l dial ≡ under_rules_of (table_of l) there (Some (read_hz dial)) Data (direction_of direction) audio
    unfolding evaluate_of decide_of situation_of tuned
    verdict_is =
        ap (λ (x : Checked). unless_refused x (decided there.policy)) judged ∙ ap (λ (n : ℕ). decided (policy_of n)) (eqb-true r.policy 2 rules)

    known : Prerequisites (table_of l) there
    known = prerequisites (table_of l) there station.1

    abbrev asked : Request
    asked = requested (table_of l) there (direction_of direction) audio (read_hz dial) known

    rows_are_asked : rows_of (table_of l) asked ≡ xs
    rows_are_asked = sym (rows_for_holds ∙ rows_are (table_of l) there (direction_of direction) audio (read_hz dial) known)

    -- the distance call answers
    distance_is :
        distance_at l count left dial
        ≡ Ok (least_up_to (read_hz dial) (general_of l).flags (general_of l).channel_band (encode_all (sorted xs) ++ rest) (length xs))
    unfolding tuned
    distance_is =
        ap (λ (n : ℕ). distance_at l n left dial) (sym fit.1) ∙ ap (λ (m : List ℕ). distance_at l (length xs) m dial) left_is
        ∙ answered xs rest l dial (figures_valid_holds (tuned r dial) (beside_valid 0 direction) l entered).1

    nought_exactly : nought (distance_at l count left dial) ≡ allows (verdict_at r direction e l dial)
    unfolding request_of on_channel_band situation_of tuned
    nought_exactly =
        let flags = (general_of l).flags in
        let channel = (general_of l).channel_band in
        ap nought distance_is
        ∙ sorted_nought (read_hz dial) flags channel D xs rest (subst (Every DialsFit) rows_are_asked (rows_fit l asked))
        (subst (Every (OutsideEnds flags channel)) rows_are_asked (rows_ends (table_of l) asked (spans (table_of l) P.table) M A))
        ∙ ap (any_row (lies flags channel (read_hz dial))) rows_for_holds
        ∙ listed_exactly (table_of l) there (direction_of direction) audio (read_hz dial) P.table station.1 M A D signal.1 P.off_channels
        ∙ ap allows (sym verdict_is)

    none_is : NoneOutside l count left → distance_at l count left dial ≡ Ok None
    none_is none =
        distance_is
        ∙ ap (λ (m : List ℕ). Ok (least_up_to (read_hz dial) (general_of l).flags (general_of l).channel_band m (length xs))) (sym left_is)
        ∙ ap Ok (least_none (read_hz dial) (general_of l).flags (general_of l).channel_band left (length xs) (λ i h. rw (none i (omega (arith, fit.1)))))

-- Demand 3, over the definitions that the promises of the three calls cite.
pub demand_3 :
    (r : StationRecord) (direction : ℕ) (e : Edges) (l lent left : List ℕ) (answer : Result ℕ Refusal) (count : ℕ) (dial : Float)
    → SafeDials r direction e l lent left answer
    → Premises r direction e l count answer dial
    → Demand3 r direction e l count left dial
demand_3 r direction e l lent left answer count dial L P =
    record {
      answered =
          ap answers (distance_is r direction e l lent left answer count dial L P)
          ∙ least_answers _;
      exactly = nought_exactly r direction e l lent left answer count dial L P;
      none_listed = λ none.
          let d = none_is r direction e l lent left answer count dial L P none in (
            d,
            ap nought d,
            blocked_of (verdict_at r direction e l dial).verdict (sym (nought_exactly r direction e l lent left answer count dial L P) ∙ ap nought d),
          );
    }
