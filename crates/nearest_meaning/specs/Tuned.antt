-- The tests of a call at another dial: "only the dial may differ", so a dial in size meets none where the record meets none.
use Rattle.std.specs.Prelude.{ℕ, Bool, true, false, cond, ◌||◌, List, ◌≡◌, Float, Ok, Err}
use Rattle.std.proofs.Math.Bool.{not}
use Rattle.std.proofs.Common.{true≢false, ap, ◌∙◌}
use Rattle.std.proofs.Math.Path.{refl}
use Rattle.std.proofs.lemmas.Bool.{not-false}
use Rattle.figures.specs.Figure.{limit40, in_size}
use Rattle.codes.specs.declared.Refusal.TheVariants as refusal
use Rattle.codes.specs.Read.{policy_valid, control_valid, license_valid, sideband_valid}
use Rattle.codes.specs.Refusal.{Checked, refusal_of}
use Rattle.codes.specs.Laws.{refusal_both, refusal_next, none_fails}
use Rattle.occupancy.specs.declared.Edges.{Edges}
use Rattle.station.specs.Station.{codes_valid, figures_valid, margins_valid, figure_valid, mark_valid, station_tests}
use Rattle.station.specs.declared.StationRecord.{StationRecord}
use Rattle.entry.specs.Entry.{image_tests, entry_tests}
use Rattle.verdict.specs.Verdict.{beside_valid, edge_tests, evaluate_tests}
use Rattle.demand_3.specs.Words.{tuned}
use Rattle.demand_3.specs.Tests.{and_both, all_three}

no_test :
    (a b c : Bool) → a ≡ false → b ≡ false → c ≡ false
    → ◌≡◌ {A = Checked} (cond a (Err refusal.StationCode) (cond b (Err refusal.StationFigure) (cond c (Err refusal.NoImage) (Ok tt)))) (Ok tt)
no_test a b c p q r = rw p (rw q (rw r))

or_parts : (a b : Bool) → (not a || not b) ≡ false → (a ≡ true) × (b ≡ true)
or_parts true true h = (refl, refl)
or_parts true false h = absurd (true≢false h)
or_parts false b h = absurd (true≢false h)

or_none : (a b : Bool) → a ≡ true → b ≡ true → (not a || not b) ≡ false
or_none a b p q = rw p (rw q)

module _ (r : StationRecord) (dial : Float) where
  codes_tuned : codes_valid r ≡ true → codes_valid (tuned r dial) ≡ true
  unfolding codes_valid tuned
  codes_tuned h =
      let a = all_three (policy_valid r.policy) (control_valid r.control) _ h in
      let b = all_three (license_valid r.license) (sideband_valid r.sideband) _ a.2 in
      let c = all_three (mark_valid r.band_plan) (mark_valid r.dial_known) (mark_valid r.power_known) b.2 in
      and_both _ _ a.0 (and_both _ _ a.1 (and_both _ _ b.0 (and_both _ _ b.1 (and_both _ _ c.0 (and_both _ _ refl c.2)))))

  figures_tuned : figures_valid r ≡ true → in_size limit40 dial ≡ true → figures_valid (tuned r dial) ≡ true
  unfolding figures_valid tuned
  figures_tuned h k =
      let a = all_three (margins_valid r.margin) (figure_valid r.dial_known r.dial_hz) (figure_valid r.power_known r.power_w) h in
      and_both _ _ a.0 (and_both _ _ k a.2)

  -- A record that no test refuses, at another dial that is in size.
  pub tuned_accepted :
      (direction : ℕ) (e : Edges) (l : List ℕ) → refusal_of (evaluate_tests r 0 direction e l) ≡ Ok tt → in_size limit40 dial ≡ true
      → refusal_of (evaluate_tests (tuned r dial) 0 direction e l) ≡ Ok tt
  unfolding tuned
  tuned_accepted direction e l h k =
      let beside = beside_valid 0 direction in
      let outer = refusal_both (entry_tests r beside l) (edge_tests e) h in
      let inner = refusal_both (station_tests r beside l) (image_tests r l) outer.0 in
      let tests = none_fails (station_tests r beside l) inner.0 in
      let codes = or_parts (codes_valid r) beside tests.0 in
      let station : refusal_of (station_tests (tuned r dial) beside l) ≡ Ok tt =
      no_test (not (codes_valid (tuned r dial)) || not beside) (not (figures_valid (tuned r dial))) _
      (or_none (codes_valid (tuned r dial)) beside (codes_tuned codes.0) codes.1)
      (ap not (figures_tuned (not-false (figures_valid r) tests.1.0) k)) tests.1.1.0 in
      refusal_next (entry_tests (tuned r dial) beside l) (edge_tests e)
      (refusal_next (station_tests (tuned r dial) beside l) (image_tests (tuned r dial) l) station ∙ inner.1)
      ∙ outer.1
