-- The ceiling: rungs are climbed from the slowest on, each judged as data with its control frame and every slower one, up to the
-- first that is blocked. A climb is a fold of a one-rung step on a record by value.
use Rattle.std.specs.Prelude.{ℕ, zero, suc, ◌/◌, Bool, true, false, cond, List, ◌≡◌, ℤ, pos, negsuc, length, Float, Option, Some, None, Result, Ok, Err}
use Rattle.codes.specs.Refusal.{Checked, refusal_of}
use Rattle.codes.specs.Read.{direction_of}
use Rattle.codes.specs.declared.EmissionKind.TheVariants.{Data}
use Rattle.codes.specs.declared.Direction.{Direction}
use Rattle.occupancy.specs.Edges.{union_of}
use Rattle.occupancy.specs.declared.Edges.{Edges}
use Rattle.station.specs.Station.{situation_of}
use Rattle.station.specs.declared.StationRecord.{StationRecord}
use Rattle.station.specs.declared.Situation.{Situation}
use Rattle.table.specs.Table.{Table, table_of}
use Rattle.entry.specs.Entry.{edges_read}
use Rattle.decision.specs.Decision.{is_blocked, absent_of}
use Rattle.decision.specs.declared.Decision.{Decision}
use Rattle.part97.specs.declared.Finding.{Finding}
use Rattle.verdict.specs.Verdict.{decide_of}
use Rattle.barred.specs.Barring.{led_to}
use Rattle.rungs.specs.Rungs.{burst_of, ceiling_tests}
use Rattle.ceiling.specs.declared.Climb.{Climb}
use Rattle.ceiling.specs.declared.CeilingAnswer.{CeilingAnswer}

-- "The envelope gathers rung and control edges."
abbrev pub joined_of : Option Edges → Edges → Edges
joined_of (Some e) more = union_of e more
joined_of None more = more

-- whether a climb is over: its limit is met
abbrev pub limited : Option Decision → Bool
limited (Some d) = true
limited None = false

-- below the first rung
unfoldable pub climb_start : Climb
climb_start = record { envelope = None; rung = None; limit = None }

-- a climb that rung k ends, and one that goes on from it
unfoldable pub ended_of : Option ℕ → Edges → Decision → Climb
ended_of rung e d = record { envelope = Some e; rung = rung; limit = Some d }

unfoldable pub went_on : ℕ → Edges → Climb
went_on k e = record { envelope = Some e; rung = Some k; limit = None }

-- a climb after the decision on rung k's envelope
unfoldable pub climb_after : Climb → ℕ → Edges → Decision → Climb
climb_after c k e d = cond (is_blocked d.verdict) (ended_of c.rung e d) (went_on k e)

-- how an envelope is judged: as data, by the verdict's own definition
unfoldable pub judge_by : Table → Situation → Direction → Edges → Decision
judge_by table s direction e = decide_of table s s.policy s.dial Data direction e

-- the decision that what was found on an envelope leads to
unfoldable pub lead_by : Table → Situation → Direction → Edges → Finding → Decision
lead_by table s direction e f = led_to table s s.policy s.dial Data direction e f

-- what a step reached, and whether it stopped there
abbrev pub step_envelope : Result Edges (Edges × Finding) → Edges
step_envelope (Ok e) = e
step_envelope (Err (e, f)) = e

abbrev pub stops : Result Edges (Edges × Finding) → Bool
stops (Ok e) = false
stops (Err (e, f)) = true

-- one rung's step: the envelope with what the rung adds, whether that is blocked, and a finding that leads to the decision on it
pub record Stepped (judge : Edges → Decision) (lead : Edges → Finding → Decision) (envelope : Option Edges) (more : Edges) (t : Result Edges (Edges × Finding)) : Type 0 where
  pub reached : step_envelope t ≡ joined_of envelope more
  pub blocks : stops t ≡ is_blocked (judge (step_envelope t)).verdict
  pub leads : (e : Edges) (f : Finding) → t ≡ Err (e, f) → lead e f ≡ judge e

-- rung k judged, with what it adds to the envelope
unfoldable pub rung_judged : (Edges → Decision) → Climb → ℕ → Edges → Climb
rung_judged judge c k more = climb_after c k (joined_of c.envelope more) (judge (joined_of c.envelope more))

-- one rung more; a climb that is over stays as it is
unfoldable pub climb_step : (Edges → Decision) → Climb → ℕ → Edges → Climb
climb_step judge c k more = cond (limited c.limit) c (rung_judged judge c k more)

-- the climb over the first n rungs
unfoldable pub climbed : (Edges → Decision) → (ℕ → Edges) → ℕ → Climb
climbed judge burst zero = climb_start
climbed judge burst (suc n) = climb_step judge (climbed judge burst n) n (burst n)

-- the answer of a climb, or the refusal: its number, no rung and no limit
abbrev pub ceiling_unless_refused : Checked → Climb → CeilingAnswer
ceiling_unless_refused (Ok tt) c = record { refusal = Ok tt; rung = c.rung; limit = c.limit }
ceiling_unless_refused (Err n) c = record { refusal = Err n; rung = None; limit = None }

-- an absent decision is Blocked: nobody may take it for a permission
abbrev pub no_decision : Decision
no_decision = absent_of (Ok tt)

-- the limit to hand out: where none is met, an absent decision, Blocked, with the answer's refusal; nobody may take it for a permission
abbrev pub limit_or : Checked → Option Decision → Decision
limit_or refusal (Some d) = d
limit_or refusal None = absent_of refusal

abbrev pub limit_of : CeilingAnswer → Decision
limit_of a = limit_or a.refusal a.limit

-- `ceiling`: "No rungs: rung and limit are both absent under every policy."
unfoldable pub ceiling_of : StationRecord → ℕ → Edges → Edges → List ℕ → List Float → List ℕ → CeilingAnswer
ceiling_of r direction ordinary floor l rungs floors =
    ceiling_unless_refused (refusal_of (ceiling_tests r direction ordinary floor l rungs floors))
    (climbed (judge_by (table_of l) (situation_of r) (direction_of direction)) (burst_of (edges_read ordinary) (edges_read floor) rungs floors)
    (length rungs / 4))

-- a rung or none: the rung's number, and -1 where there is none, which is below every rung
abbrev pub rung_number : Option ℕ → ℤ
rung_number (Some k) = pos k
rung_number None = negsuc 0
