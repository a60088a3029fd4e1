-- A step of a walk: one rung judged, by the ceiling's own step, under the image that was in force as the walk was opened (document 02, 10).
use Rattle.codes.specs.declared.Refusal.{Refusal}
use Rattle.codes.specs.declared.Refusal.TheVariants as refusal
use Rattle.std.specs.Prelude.{ℕ, ◌+◌, ◌-◌, ◌/◌, Bool, true, false, not, cond, ◌||◌, List, eqb, ltb, length, Float, Option, Some, None, Ok, Err}
use Rattle.codes.specs.Refusal.{Checked, Test, refusal_of}
use Rattle.codes.specs.Read.{direction_of}
use Rattle.occupancy.specs.declared.Edges.{Edges}
use Rattle.station.specs.Station.{situation_of}
use Rattle.station.specs.declared.StationRecord.{StationRecord}
use Rattle.table.specs.Table.{table_of}
use Rattle.entry.specs.Entry.{edges_read}
use Rattle.decision.specs.declared.Decision.{Decision}
use Rattle.ceiling.specs.Ceiling.{limited, judge_by, rung_judged, ceiling_unless_refused}
use Rattle.rungs.specs.Rungs.{burst_of, ceiling_tests}
use Rattle.ceiling.specs.declared.Climb.{Climb}
use Rattle.walk.specs.declared.WalkState.{WalkState}
use Rattle.walk.specs.Walk.{resting, other_image, state_tests}
use Rattle.walk_step.specs.declared.StepAnswer.{StepAnswer}

-- the climb of the rungs judged so far, none of which was blocked
abbrev pub envelope_so_far : WalkState → Option Edges
envelope_so_far w = cond (eqb w.place 0) None (Some (edges_read w.occupied))

abbrev pub rung_so_far : ℕ → Option ℕ
rung_so_far place = cond (eqb place 0) None (Some (place - 1))

abbrev pub climb_so_far : WalkState → Climb
climb_so_far w = record { envelope = envelope_so_far w; rung = rung_so_far w.place; limit = None }

-- "the walk finishes under the table it began with, the next begins under the new one"
unfoldable pub ended_of : WalkState → WalkState
ended_of w = resting (cond (eqb w.waiting 1) (other_image w.image) w.image)

-- a walk that goes on from its place, with what is occupied by then
unfoldable pub goes_on : WalkState → Edges → WalkState
goes_on w e = record { occupied = e; place = w.place + 1; image = w.image; waiting = w.waiting; walking = 1 }

abbrev pub going : WalkState → Option Edges → WalkState
going w (Some e) = goes_on w e
going w None = w

-- the ceiling of a climb, and where the walk stands after it
abbrev pub step_gives : WalkState → Climb → Bool → StepAnswer
step_gives w c over =
    record { state = cond over (ended_of w) (going w c.envelope); over = over; ceiling = ceiling_unless_refused (Ok tt) c }

-- "a step lent no rung at its place ends it, judging nothing"
unfoldable pub step_none : WalkState → StepAnswer
step_none w = step_gives w (climb_so_far w) true

-- "A walk ends with its first blocked rung or its last rung": of n rungs, the one at the walk's place was judged, and this is the climb
unfoldable pub step_judged : WalkState → ℕ → Climb → StepAnswer
step_judged w n c = step_gives w c (limited c.limit || not (ltb (w.place + 1) n))

-- "a walk that judges one rung a step", by the ceiling's own step
unfoldable pub step_by : (Edges → Decision) → (ℕ → Edges) → ℕ → WalkState → StepAnswer
step_by judge burst n w =
    cond (ltb w.place n) (step_judged w n (rung_judged judge (climb_so_far w) w.place (burst w.place))) (step_none w)

-- a refusal has the ceiling's form; whether the walk is over is not said
unfoldable pub refused_step : WalkState → Refusal → StepAnswer
refused_step w n =
    record { state = w; over = false; ceiling = record { refusal = Err n; rung = None; limit = None } }

abbrev pub step_unless_refused : Checked → WalkState → StepAnswer → StepAnswer
step_unless_refused (Ok tt) w a = a
step_unless_refused (Err n) w a = refused_step w n

-- under its walk's image: refusals "of the ceiling in their order", over all that is lent
unfoldable pub step_under : WalkState → StationRecord → ℕ → Edges → Edges → List ℕ → List Float → List ℕ → StepAnswer
step_under w r direction ordinary floor l rungs floors =
    step_unless_refused (refusal_of (ceiling_tests r direction ordinary floor l rungs floors)) w
    (step_by (judge_by (table_of l) (situation_of r) (direction_of direction)) (burst_of (edges_read ordinary) (edges_read floor) rungs floors)
    (length rungs / 4) w)

-- "A step reads only its walk's image."
abbrev pub walk_image : WalkState → List ℕ → List ℕ → List ℕ
walk_image w l₀ l₁ = cond (eqb w.image 0) l₀ l₁

-- "(30, next) a step with no walk open …, before every other check"; then a state that no call gives
abbrev pub step_tests : WalkState → List Test
step_tests w = state_tests w (eqb w.walking 0) refusal.Walk

unfoldable pub step_of : WalkState → StationRecord → ℕ → Edges → Edges → List ℕ → List ℕ → List Float → List ℕ → StepAnswer
step_of w r direction ordinary floor l₀ l₁ rungs floors =
    step_unless_refused (refusal_of (step_tests w)) w (step_under w r direction ordinary floor (walk_image w l₀ l₁) rungs floors)
