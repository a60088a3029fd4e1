-- The premises as the code asks them lead to the answers of the definitions. These laws rest on `nearest_in` and `nearest_of`.
use Rattle.std.specs.Prelude.{ℕ, Bool, false, ◌&&◌, List, ◌≡◌, refl, Float, Option, Some, None, Ok, Err}
use Rattle.codes.specs.Refusal.{Checked, refusal_of}
use Rattle.codes.specs.declared.Refusal.{Refusal}
use Rattle.std.proofs.Math.Bool.{true, cond}
use Rattle.std.proofs.Math.Path.{sym, ap}
use Rattle.std.proofs.Common.{◌∙◌}
use Rattle.std.proofs.Math.Dec.{eqb}
use Rattle.codes.specs.Code.{policy_code}
use Rattle.codes.specs.Read.{direction_of}
use Rattle.codes.specs.Laws.{refusal_both}
use Rattle.codes.specs.declared.ControlMode.{ControlMode}
use Rattle.codes.specs.declared.LicenseClass.{LicenseClass}
use Rattle.codes.specs.declared.Sideband.{Sideband}
use Rattle.codes.specs.declared.Direction.{Direction}
use Rattle.codes.specs.declared.Policy.{Policy}
use Rattle.codes.specs.declared.Policy.TheVariants.{Unset, NoProfile, Rules, Broken}
use Rattle.profile.specs.declared.Range.{Range}
use Rattle.occupancy.specs.declared.Edges.{Edges}
use Rattle.scan.specs.Laws.{and_true}
use Rattle.station.specs.Station.{situation_of}
use Rattle.station.specs.declared.Situation.{Situation}
use Rattle.station.specs.declared.StationRecord.{StationRecord}
use Rattle.layout.specs.Form.{form_tests}
use Rattle.table.specs.Table.{Table, table_of}
use Rattle.image.specs.Check.{content_tests, check_of}
use Rattle.entry.specs.Entry.{entry_tests, entry_of, edges_read}
use Rattle.entry.specs.Laws.{entry_accepted}
use Rattle.verdict.specs.Verdict.{beside_valid, edge_tests}
use Rattle.verdict.specs.Laws.{rules_code}
use Rattle.dials.specs.List.{known_rows}
use Rattle.dials.specs.Answer.{all_known}
use Rattle.tidy.specs.Tidy.{tidy_table}
use Rattle.on_grid.specs.Within.{figure_met, figures_met, edges_met, margins_met}
use Rattle.demand_3.specs.Words.{table_in_eighths, edges_in_eighths, dial_in_eighths}
use Rattle.demand_3.specs.Words.{station_in_eighths, audio_of, accepted, rules_in_force, unrefused, has_control, has_license, has_sideband}
use Rattle.demand_3.specs.Words.{has_dial, prerequisites_met, positive_width, table_met, station_met, signal_met}
use Rattle.demand_3.specs.Tests.{and_both, all_three, same}
use Rattle.nearest.specs.Nearest.{dial_met, within38, judged_of, answer_of, nearest_from, nearest_in, nearest_tests, nearest_unless_refused, nearest_of}
use Rattle.nearest_rows.specs.Over.{nearest_over}
use Rattle.nearest.specs.declared.Nearest.TheVariants.{NotJudged}
use Rattle.nearest.specs.Laws.{premises_of, known_nearest, grid_of, pair_of, edges_of_holds, table_of_holds}

-- ---- the premises

and_left : (a b : Bool) → a ≡ false → (a && b) ≡ false
and_left a b e = rw e

and_right : (a b : Bool) → b ≡ false → (a && b) ≡ false
and_right true b e = e
and_right false b e = refl

module _ (table : Table) (s : Situation) (direction : Direction) (e : Edges) where
  -- a prerequisite that is missing
  missing : prerequisites_met table s ≡ false → NotJudged ≡ nearest_in table s direction e
  unfolding nearest_in judged_of station_met
  missing h =
      sym
      (ap (λ (b : Bool). cond b (answer_of (nearest_from table s direction e s.dial)) NotJudged)
      (and_left _ (signal_met table s e && (table_met table && within38 table s e))
      (and_right (rules_in_force s) _ (and_left _ (station_in_eighths s) h))))

  abbrev region : Bool
  region = eqb s.itu_region table.general.region

  abbrev last : Bool
  last = has_sideband s.sideband && has_dial s.dial

  abbrev most : Bool
  most = has_license s.license && last

  pub no_region : region ≡ false → NotJudged ≡ nearest_in table s direction e
  unfolding prerequisites_met
  no_region h = missing (and_left region (has_control s.control && most) h)

  pub no_control : s.control ≡ None → NotJudged ≡ nearest_in table s direction e
  unfolding prerequisites_met
  no_control h = missing (and_right region (has_control s.control && most) (and_left (has_control s.control) most (ap has_control h)))

  after_control : most ≡ false → NotJudged ≡ nearest_in table s direction e
  unfolding prerequisites_met
  after_control h = missing (and_right region (has_control s.control && most) (and_right (has_control s.control) most h))

  pub no_license : s.license ≡ None → NotJudged ≡ nearest_in table s direction e
  no_license h = after_control (and_left (has_license s.license) last (ap has_license h))

  pub no_sideband : s.sideband ≡ None → NotJudged ≡ nearest_in table s direction e
  no_sideband h =
      after_control (and_right (has_license s.license) last (and_left (has_sideband s.sideband) (has_dial s.dial) (ap has_sideband h)))

  pub no_dial : s.dial ≡ None → NotJudged ≡ nearest_in table s direction e
  no_dial h =
      after_control (and_right (has_license s.license) last (and_right (has_sideband s.sideband) (has_dial s.dial) (ap has_dial h)))

  -- all of them met
  module _
      (rules : s.policy ≡ Rules) (ok : unrefused table ≡ true) (here : eqb s.itu_region table.general.region ≡ true)
      (control : ControlMode) (c : s.control ≡ Some control) (license : LicenseClass) (l : s.license ≡ Some license)
      (sideband : Sideband) (b : s.sideband ≡ Some sideband) (dial : Float) (d : s.dial ≡ Some dial)
    where
      abbrev audio : Range
      audio = audio_of table e

      met : prerequisites_met table s ≡ true
      unfolding prerequisites_met
      met = and_both _ _ here (and_both _ _ (ap has_control c) (and_both _ _ (ap has_license l) (and_both _ _ (ap has_sideband b) (ap has_dial d))))

      judged_to : judged_of table s e ≡ true → premises_of table s e dial audio ≡ true
      unfolding judged_of premises_of signal_met table_met within38
      judged_to h =
          let p = all_three (station_met table s) (signal_met table s e) _ h in
          let g = and_true (edges_in_eighths e) (positive_width s audio) p.1 in
          let t = and_true (table_met table) (within38 table s e) p.2 in
          let u = all_three (unrefused table) (tidy_table table) (table_in_eighths table) t.0 in
          let w = all_three (figures_met table) (edges_met e) (margins_met s.margin && dial_met s.dial) t.1 in
          let m = and_true (margins_met s.margin) (dial_met s.dial) w.2 in
          and_both _ _ (ap dial_met (sym d) ∙ m.1)
          (and_both _ _ m.0 (and_both _ _ w.1 (and_both _ _ g.1 (and_both _ _ w.0 u.1))))

      judged_from : premises_of table s e dial audio ≡ true → judged_of table s e ≡ true
      unfolding judged_of premises_of signal_met table_met within38 station_met station_in_eighths
      judged_from h =
          let p = all_three (figure_met dial) (margins_met s.margin) _ h in
          let q = all_three (edges_met e) (positive_width s audio) (figures_met table && tidy_table table) p.2 in
          let t = and_true (figures_met table) (tidy_table table) q.2 in
          let dm : dial_met s.dial ≡ true = ap dial_met d ∙ p.0 in
          let de : dial_in_eighths s.dial ≡ true = ap dial_in_eighths d ∙ grid_of dial p.0 in
          and_both _ _
          (and_both _ _ (ap (λ (x : Policy). eqb (policy_code x) (policy_code Rules)) rules)
          (and_both _ _ met (and_both _ _ (pair_of s.margin.lower_hz s.margin.upper_hz p.1) de)))
          (and_both _ _ (and_both _ _ (edges_of_holds e q.0) q.1)
          (and_both _ _ (and_both _ _ ok (and_both _ _ t.1 (table_of_holds table t.0)))
          (and_both _ _ t.0 (and_both _ _ q.0 (and_both _ _ p.1 dm)))))

      pub known_nearest_holds : known_nearest table s direction e sideband license control dial ≡ nearest_in table s direction e
      unfolding nearest_in known_nearest
      known_nearest_holds =
          let flags = table.general.flags in
          let channel = table.general.channel_band in
          ap (λ (k : Bool). cond k (answer_of (nearest_over dial flags channel None (known_rows table s direction e sideband license control))) NotJudged)
          (same (premises_of table s e dial audio) (judged_of table s e) judged_from judged_to)
          ∙ ap (λ (x : Option Float). cond (judged_of table s e) (answer_of x) NotJudged)
          (ap (nearest_over dial flags channel None) (sym (all_known table s direction e sideband license control b l c))
          ∙ ap (nearest_from table s direction e) (sym d))

-- ---- the call

module _ (r : StationRecord) (direction : ℕ) (e : Edges) (l : List ℕ) where
  pub dial_refused : (n : Refusal) → refusal_of (nearest_tests r direction e l) ≡ Err n → Err n ≡ nearest_of r direction e l
  unfolding nearest_of
  dial_refused n h =
      sym (ap (λ (x : Checked). nearest_unless_refused x (nearest_in (table_of l) (situation_of r) (direction_of direction) (edges_read e))) h)

  pub dial_judged :
      refusal_of (nearest_tests r direction e l) ≡ Ok tt
      → Ok (nearest_in (table_of l) (situation_of r) (direction_of direction) (edges_read e)) ≡ nearest_of r direction e l
  unfolding nearest_of
  dial_judged h =
      sym (ap (λ (x : Checked). nearest_unless_refused x (nearest_in (table_of l) (situation_of r) (direction_of direction) (edges_read e))) h)

  -- no Rules in force
  not_rules : (p : Policy) → (p ≡ Rules → ⊥) → eqb (policy_code p) (policy_code Rules) ≡ false
  not_rules Unset h = refl
  not_rules NoProfile h = refl
  not_rules Rules h = absurd (h refl)
  not_rules Broken h = refl

  pub dial_free :
      refusal_of (nearest_tests r direction e l) ≡ Ok tt → ((situation_of r).policy ≡ Rules → ⊥) → Ok NotJudged ≡ nearest_of r direction e l
  unfolding nearest_in judged_of station_met
  dial_free h p =
      let table = table_of l in
      let s = situation_of r in
      let rest = prerequisites_met table s && station_in_eighths s in
      let more = signal_met table s (edges_read e) && (table_met table && within38 table s (edges_read e)) in
      sym
      (ap (λ (b : Bool). Ok (cond b (answer_of (nearest_from table s (direction_of direction) (edges_read e) s.dial)) NotJudged))
      (and_left (rules_in_force s && rest) more (and_left (rules_in_force s) rest (not_rules s.policy p))))
      ∙ dial_judged h

  -- Rules in force: the table is refused by no check
  pub dial_unrefused : refusal_of (nearest_tests r direction e l) ≡ Ok tt → (situation_of r).policy ≡ Rules → unrefused (table_of l) ≡ true
  unfolding entry_of check_of situation_of
  dial_unrefused h p =
      ap accepted
      (refusal_both (form_tests l) (content_tests (table_of l))
      (entry_accepted r (beside_valid 0 direction) l (refusal_both (entry_tests r (beside_valid 0 direction) l) (edge_tests e) h).0 (rules_code r.policy p))).1
