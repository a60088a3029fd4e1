-- Where the call is judged, a figure is a dial that one may move to exactly if it lies in a row outside the channel band.
use Rattle.std.specs.Prelude.{ℕ, Bool, false, cond, ◌&&◌, ◌≡◌, refl, Float, Some, Ok}
use Rattle.codes.specs.Refusal.{Checked, refusal_of}
use Rattle.std.proofs.Math.Bool.{true}
use mathlib.Core.List.{List, []}
use Rattle.std.proofs.Math.Path.{sym, ap, subst}
use Rattle.std.proofs.Common.{◌∙◌, arith, eqb-true}
use Rattle.std.specs.Float.Ieee.{eq}
use Rattle.figures.specs.Figure.{zero_hz, read_hz}
use Rattle.codes.specs.Read.{policy_of, direction_of}
use Rattle.codes.specs.Laws.{refusal_both}
use Rattle.codes.specs.declared.Policy.{Policy}
use Rattle.codes.specs.declared.EmissionKind.TheVariants.{Data}
use Rattle.codes.specs.declared.Direction.{Direction}
use Rattle.profile.specs.declared.Range.{Range}
use Rattle.occupancy.specs.declared.Edges.{Edges}
use Rattle.scan.specs.Laws.{and_true, cond_yes}
use Rattle.lists.specs.Laws.{Every}
use Rattle.station.specs.Station.{under_rules, situation_of}
use Rattle.station.specs.declared.Situation.{Situation}
use Rattle.station.specs.declared.StationRecord.{StationRecord}
use Rattle.layout.specs.Layout.{general_of}
use Rattle.table.specs.Table.{Table, table_of}
use Rattle.table.specs.Parts.{reading_of}
use Rattle.entry.specs.Entry.{entry_tests, edges_read}
use Rattle.decision.specs.declared.Decision.{Decision}
use Rattle.verdict.specs.Verdict.{under_rules_of, decide_of, beside_valid, edge_tests, evaluate_tests, unless_refused, evaluate_of}
use Rattle.rows.specs.Order.{any_row}
use Rattle.rows.specs.declared.SafeDial.{SafeDial}
use Rattle.dial_rows.specs.Dials.{request_of, rows_of}
use Rattle.dial_rows.specs.declared.Request.{Request}
use Rattle.dials.specs.List.{situation_rows, list_rows}
use Rattle.distance.specs.Distance.{is_outside}
use Rattle.eighths.specs.Grid.{Figure}
use Rattle.eighths.specs.Laws.{in_eighths_holds, zero_eighths}
use Rattle.exact.specs.Air.{MarginFigures}
use Rattle.on_grid.specs.Within.{figures_met, edges_met, margins_met}
use Rattle.demand_3.specs.Words.{tuned, audio_of, rules_in_force, prerequisites_met, has_control, has_license, has_sideband, positive_width, verdict_at, allows}
use Rattle.demand_3.specs.Words.{channel_band_holds, channels_hold, on_channel_band, table_met, station_met, signal_met, station_in_eighths, edges_in_eighths}
use Rattle.demand_3.specs.Tests.{and_both, all_three}
use Rattle.demand_3.specs.Order.{Figures}
use Rattle.demand_3.specs.Dial.{guarded_lengthy}
use Rattle.demand_3.specs.Listed.{lies, data_of_holds}
use Rattle.demand_3.specs.Rows.{rows_listed}
use Rattle.demand_3.specs.Grounds.{figure_read_holds, spans, tidied_of, under_rules_holds, figures_valid_holds}
use Rattle.demand_3.specs.Exactly.{Prerequisites, prerequisites, requested, rows_are, ruling, judged_case, listed_exactly}
use Rattle.nearest.specs.Nearest.{dial_met, within38, judged_of}
use Rattle.nearest_meaning.specs.Answers.{refusal, judged}
use Rattle.nearest_meaning.specs.Off.{off_band}
use Rattle.nearest_meaning.specs.Rows.{met_figure, figure, figures, margin_figures38, margins_met_holds, edges_met_holds, spans38, figure_within, figure_in_size, RowDials, rows_dials}
use Rattle.judged.specs.Judged.{judge_judged}
use Rattle.nearest_meaning.specs.Words.{Open}
use Rattle.demand_3.specs.Theorem.{judged_of_refusal}
use Rattle.nearest_meaning.specs.Tuned.{tuned_accepted}

-- a figure as it is read
read_figure : (x : Float) → Figure x → Figure (read_hz x)
read_figure x F = go (eq x zero_hz)
  where
    go : (b : Bool) → Figure (cond b zero_hz x)
    go true = figure_within zero_eighths (omega arith) (omega arith)
    go false = F

module _
    (r : StationRecord) (direction : ℕ) (e : Edges) (l : List ℕ) (ok : refusal r direction e l ≡ Ok tt) (J : judged r direction e l ≡ true)
  where
    abbrev table : Table
    table = table_of l

    abbrev here : Situation
    here = situation_of r

    abbrev audio : Range
    audio = audio_of (table_of l) (edges_read e)

    abbrev way : Direction
    way = direction_of direction

    abbrev flags : ℕ
    flags = (table_of l).general.flags

    abbrev channel : ℕ
    channel = (table_of l).general.channel_band

    -- ---- the premises

    parts : (station_met table here ≡ true) × (signal_met table here (edges_read e) ≡ true) × ((table_met table && within38 table here (edges_read e)) ≡ true)
    unfolding judged_of
    parts = all_three (station_met table here) (signal_met table here (edges_read e)) _ J

    met : table_met table ≡ true
    met = (and_true (table_met table) (within38 table here (edges_read e)) parts.2).0

    within : (figures_met table ≡ true) × (edges_met (edges_read e) ≡ true) × ((margins_met here.margin && dial_met here.dial) ≡ true)
    unfolding within38
    within = all_three (figures_met table) (edges_met (edges_read e)) _ (and_true (table_met table) (within38 table here (edges_read e)) parts.2).1

    station : (rules_in_force here ≡ true) × (prerequisites_met table here ≡ true) × (station_in_eighths here ≡ true)
    unfolding station_met
    station = all_three (rules_in_force here) (prerequisites_met table here) (station_in_eighths here) parts.0

    width : positive_width here audio ≡ true
    unfolding signal_met
    width = (and_true (edges_in_eighths (edges_read e)) (positive_width here audio) parts.1).1

    known : Prerequisites table here
    known = prerequisites table here station.1

    rules : under_rules r ≡ true
    rules = under_rules_holds r station.0

    -- the figures
    margins : MarginFigures here.margin
    margins = margin_figures38 (margins_met_holds here.margin (and_true (margins_met here.margin) (dial_met here.dial) within.2).0)

    audio_figures : Figures audio
    audio_figures = figures (edges_met_holds (edges_read e) (reading_of (general_of l)) within.1)

    pub dial_figure : (present : Float) → here.dial ≡ Some present → Figure present
    dial_figure present d =
        figure (met_figure present (sym (ap dial_met d) ∙ (and_true (margins_met here.margin) (dial_met here.dial) within.2).1))

    -- ---- the rows

    abbrev asked : Request
    asked = requested table here way audio zero_hz known

    -- the rows that the list would have
    abbrev pub rows : List SafeDial
    rows = situation_rows (table_of l) (situation_of r) (direction_of direction) (edges_read e)

    pub rows_list : list_rows r direction e l ≡ rows
    unfolding list_rows
    rows_list = cond_yes rows [] rules

    rows_asked : rows ≡ rows_of table asked
    unfolding situation_rows
    rows_asked = rows_are table here way audio zero_hz known

    -- their dials outside the channel band are figures
    pub dials_of_holds : Every (λ x. is_outside flags channel x.band ≡ true → RowDials x) rows
    unfolding request_of
    dials_of_holds =
        subst (Every (λ x. is_outside flags channel x.band ≡ true → RowDials x)) (sym rows_asked)
        (rows_dials table asked (spans38 table within.0)
        (margins_met_holds here.margin (and_true (margins_met here.margin) (dial_met here.dial) within.2).0)
        (edges_met_holds (edges_read e) (reading_of (general_of l)) within.1))

    -- ---- one dial

    module _ (dial : Float) where
      abbrev there : Situation
      there = situation_of (tuned r dial)

      abbrev decided : Policy → Decision
      decided p = decide_of table there p there.dial Data way (edges_read e)

      -- a row outside the channel band has the dial
      abbrev pub listed : Bool
      listed = any_row (lies flags channel (read_hz dial)) rows

      prerequisites_there : prerequisites_met table there ≡ true
      unfolding prerequisites_met situation_of tuned
      prerequisites_there =
          and_both _ _ known.region
          (and_both _ _ (ap has_control known.has_control_holds)
          (and_both _ _ (ap has_license known.has_license_holds) (and_both _ _ (ap has_sideband known.has_sideband_holds) refl)))

      module _ (accepted : refusal_of (evaluate_tests (tuned r dial) 0 direction e l) ≡ Ok tt) where
        verdict_is : verdict_at r direction e l dial ≡ under_rules_of table there (Some (read_hz dial)) Data way audio
        unfolding evaluate_of decide_of situation_of tuned
        verdict_is =
            ap (λ (x : Checked). unless_refused x (decided there.policy)) accepted ∙ ap (λ (n : ℕ). decided (policy_of n)) (eqb-true r.policy 2 rules)

        unrefused : (verdict_at r direction e l dial).refusal ≡ Ok tt
        unrefused =
            let P = prerequisites table there prerequisites_there in
            ap (λ (d : Decision). d.refusal) (verdict_is ∙ ruling table there way audio (read_hz dial) P)
            ∙ (judge_judged table (judged_case table there way audio (read_hz dial) P)).unrefused

        -- The rows and the gate agree.
        agree :
            Figure (read_hz dial) → on_channel_band table here audio (read_hz dial) ≡ false → listed ≡ allows (verdict_at r direction e l dial)
        unfolding situation_rows situation_of tuned on_channel_band positive_width
        agree F off =
            listed_exactly table there way audio (read_hz dial) met prerequisites_there margins audio_figures F width off ∙ ap allows (sym verdict_is)

      -- A dial in a row outside the channel band is off the channel band.
      off_of : Figure (read_hz dial) → listed ≡ true → on_channel_band table here audio (read_hz dial) ≡ false
      unfolding on_channel_band channel_band_holds request_of positive_width
      off_of F h =
          let long = guarded_lengthy (read_hz dial) here.margin audio F margins audio_figures known.sideband width in
          ap (channels_hold table audio here.margin (read_hz dial)) known.has_sideband_holds
          ∙ off_band flags channel asked (read_hz dial) F margins audio_figures table (spans table met) long (tidied_of table met)
          (data_of_holds flags channel asked (read_hz dial) F margins audio_figures table (spans table met) long
          (sym (rows_listed table asked (read_hz dial)) ∙ sym (ap (any_row (lies flags channel (read_hz dial))) rows_asked) ∙ h))

      -- A figure in a row outside the channel band is open.
      pub listed_open : Figure dial → listed ≡ true → Open r direction e l dial
      listed_open F h =
          let R = read_figure dial F in
          let accepted = tuned_accepted r dial direction e l ok (figure_in_size dial F) in
          let off = off_of R h in
          record {
            on_grid = in_eighths_holds R.eighths;
            not_refused = unrefused accepted;
            off_channels = off;
            allowed = sym (agree accepted R off) ∙ h;
          }

      -- and an open dial is a figure in such a row
      open_accepted : Open r direction e l dial → refusal_of (evaluate_tests (tuned r dial) 0 direction e l) ≡ Ok tt
      unfolding evaluate_of
      open_accepted o = judged_of_refusal (refusal_of (evaluate_tests (tuned r dial) 0 direction e l)) (decided there.policy) o.not_refused

      pub open_figure : Open r direction e l dial → Figure (read_hz dial)
      unfolding tuned
      open_figure o =
          figure_read_holds dial o.on_grid
          (figures_valid_holds (tuned r dial) (beside_valid 0 direction) l
          (refusal_both (entry_tests (tuned r dial) (beside_valid 0 direction) l) (edge_tests e) (open_accepted o)).0).1

      pub open_listed : Open r direction e l dial → listed ≡ true
      open_listed o = agree (open_accepted o) (open_figure o) o.off_channels ∙ o.allowed
