-- No number of a step's answer is cut at the boundary: its rung is below 256, and the guidance of its limit has an index below 256.
use Rattle.std.specs.Prelude.{ℕ, ◌-◌, ◌/◌, ◌<◌, Bool, cond, List, ◌≡◌, eqb, ltb, length, Float, Some, None, Ok, Err}
use Rattle.codes.specs.declared.Refusal.{Refusal}
use Rattle.codes.specs.Refusal.{Checked, refusal_of}
use Rattle.std.proofs.Math.Bool.{true, false}
use Rattle.std.proofs.Math.Path.{refl}
use Rattle.std.proofs.Common.{arith}
use Rattle.std.proofs.lemmas.Bool.{not-false}
use Rattle.codes.specs.Laws.{none_fails}
use Rattle.occupancy.specs.declared.Edges.{Edges}
use Rattle.station.specs.declared.StationRecord.{StationRecord}
use Rattle.decision.specs.Decision.{is_blocked}
use Rattle.decision.specs.declared.Decision.{Decision}
use Rattle.ceiling.specs.Ceiling.{limit_or, limit_of, joined_of, ended_of as climb_ended, went_on, climb_after, rung_judged}
use Rattle.rungs.specs.Rungs.{ceiling_tests}
use Rattle.ceiling.specs.Run.{judging, bursts}
use Rattle.ceiling.specs.declared.CeilingAnswer.{CeilingAnswer}
use Rattle.ceiling.specs.declared.Climb.{Climb}
use Rattle.walk_step.specs.Step.{rung_so_far, envelope_so_far, climb_so_far, step_none, step_judged, step_by, refused_step, step_unless_refused, step_under, walk_image}
use Rattle.walk_step.specs.Step.{step_tests, step_of}
use Rattle.walk_step.specs.Laws.{valid_place}
use Rattle.walk.specs.declared.WalkState.{WalkState}
use Rattle.flat.specs.Fits.{RungFits, Indexed}
use Rattle.fitting.specs.Fits.{absent_fits}
use Rattle.fitting.specs.Guided.{absent, judging_indexed}

-- what the boundary asks of a ceiling
abbrev pub Fitting : CeilingAnswer → Type 0
Fitting a = (RungFits a.rung) × (Indexed (limit_of a))

abbrev FittingClimb : Climb → Type 0
FittingClimb c = (RungFits c.rung) × (Indexed (limit_or (Ok tt) c.limit))

fastest_fits : (k : ℕ) → k < 256 → RungFits (Some k)
fastest_fits k h i e = let q : k ≡ i = cc in omega arith

so_far_fits : (place : ℕ) → place < 256 → RungFits (rung_so_far place)
so_far_fits place h = go (eqb place 0)
  where
    go : (b : Bool) → RungFits (cond b None (Some (place - 1)))
    go true = absent_fits None refl
    go false = fastest_fits (place - 1) (omega (arith, h))

module _ (judge : Edges → Decision) (fits : (e : Edges) → Indexed (judge e)) (burst : ℕ → Edges) (n : ℕ) (w : WalkState) (low : w.place < 256) where
  so_far : FittingClimb (climb_so_far w)
  so_far = (so_far_fits w.place low, absent (Ok tt))

  judged : FittingClimb (rung_judged judge (climb_so_far w) w.place (burst w.place))
  unfolding rung_judged climb_after climb_ended went_on
  judged = go (is_blocked (judge e).verdict)
    where
      e : Edges
      e = joined_of (envelope_so_far w) (burst w.place)

      go : (b : Bool) → FittingClimb (cond b (climb_ended (rung_so_far w.place) e (judge e)) (went_on w.place e))
      go true = (so_far_fits w.place low, fits e)
      go false = (fastest_fits w.place low, absent (Ok tt))

  by_fits : Fitting (step_by judge burst n w).ceiling
  unfolding step_by step_judged step_none
  by_fits = go (ltb w.place n)
    where
      go :
          (b : Bool)
          → Fitting (cond b (step_judged w n (rung_judged judge (climb_so_far w) w.place (burst w.place))) (step_none w)).ceiling
      go true = judged
      go false = so_far

refused_fits : (w : WalkState) (n : Refusal) → Fitting (refused_step w n).ceiling
unfolding refused_step
refused_fits w n = (absent_fits None refl, absent (Err n))

module _
    (w : WalkState) (r : StationRecord) (direction : ℕ) (ordinary floor : Edges) (l₀ l₁ : List ℕ) (rungs : List Float) (floors : List ℕ) where
  abbrev l : List ℕ
  l = walk_image w l₀ l₁

  under_fits : w.place < 256 → Fitting (step_under w r direction ordinary floor l rungs floors).ceiling
  unfolding step_under
  under_fits low = go (refusal_of (ceiling_tests r direction ordinary floor l rungs floors)) refl
    where
      judge : Edges → Decision
      judge = judging r direction ordinary floor l rungs floors

      burst : ℕ → Edges
      burst = bursts r direction ordinary floor l rungs floors

      go :
          (x : Checked) → refusal_of (ceiling_tests r direction ordinary floor l rungs floors) ≡ x
          → Fitting (step_unless_refused x w (step_by judge burst (length rungs / 4) w)).ceiling
      go (Ok tt) e = by_fits judge (judging_indexed r direction ordinary floor l rungs floors e) burst (length rungs / 4) w low
      go (Err n) e = refused_fits w n

  pub step_fits : Fitting (step_of w r direction ordinary floor l₀ l₁ rungs floors).ceiling
  unfolding step_of
  step_fits = go (refusal_of (step_tests w)) refl
    where
      go :
          (x : Checked) → refusal_of (step_tests w) ≡ x
          → Fitting (step_unless_refused x w (step_under w r direction ordinary floor l rungs floors)).ceiling
      go (Ok tt) e = under_fits (valid_place w (not-false _ (none_fails (step_tests w) e).1.0))
      go (Err n) e = refused_fits w n
