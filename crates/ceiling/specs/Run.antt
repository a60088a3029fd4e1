-- Proved over the definition: the rungs up to the ceiling are each allowed with their envelope, and the one above is not. So the
-- answer is a run from rung 0.
use Prim.Native.Nat.{ℕ, zero, suc, ◌+◌, ◌/◌, ◌<◌, ◌≤◌}
use Rattle.std.specs.Prelude.{Option, Some, None, Ok, Err, Bool, List, ◌≡◌, Float}
use Rattle.codes.specs.Refusal.{Checked, refusal_of}
use Rattle.std.proofs.Math.Bool.{true, false, cond}
use Rattle.std.proofs.Math.Path.{refl, sym, ap, subst}
use Rattle.std.proofs.Common.{◌∙◌, arith}
use Rattle.std.proofs.Math.ListN.{length}
use Rattle.codes.specs.Read.{direction_of}
use Rattle.occupancy.specs.Edges.{union_of}
use Rattle.occupancy.specs.declared.Edges.{Edges}
use Rattle.scan.specs.First.{first_from, first, on_found}
use Rattle.scan.specs.Laws.{Hit, first_at, first_nothing}
use Rattle.station.specs.Station.{situation_of}
use Rattle.station.specs.declared.StationRecord.{StationRecord}
use Rattle.table.specs.Table.{table_of}
use Rattle.entry.specs.Entry.{edges_read}
use Rattle.decision.specs.Decision.{is_blocked}
use Rattle.decision.specs.declared.Decision.{Decision}
use Rattle.ceiling.specs.Ceiling.{joined_of, climb_start, ended_of, went_on, climb_after, judge_by, rung_judged}
use Rattle.ceiling.specs.Ceiling.{climb_step, climbed, ceiling_unless_refused, no_decision, limit_or, limit_of, ceiling_of}
use Rattle.rungs.specs.Rungs.{burst_of, ceiling_tests}
use Rattle.ceiling.specs.declared.Climb.{Climb}
use Rattle.ceiling.specs.declared.CeilingAnswer.{CeilingAnswer}

-- a scan of one index more
from_more :
    (test : ℕ → Bool) (n i : ℕ)
    → first_from test (suc n) i ≡ on_found (first_from test n i) Some (cond (test (n + i)) (Some (n + i)) None)
unfolding first_from
from_more test zero i = let e : zero + i ≡ i = omega arith in rw e
from_more test (suc n) i = go (test i) (from_more test n (suc i))
  where
    go :
        (b : Bool) → first_from test (suc n) (suc i) ≡ on_found (first_from test n (suc i)) Some (cond (test (n + suc i)) (Some (n + suc i)) None)
        → cond b (Some i) (first_from test (suc n) (suc i))
        ≡ on_found (cond b (Some i) (first_from test n (suc i))) Some (cond (test (suc n + i)) (Some (suc n + i)) None)
    go true q = refl
    go false q = let e : n + suc i ≡ suc n + i = omega arith in q ∙ ap (λ (k : ℕ). on_found (first_from test n (suc i)) Some (cond (test k) (Some k) None)) e

first_more : (test : ℕ → Bool) (n : ℕ) → first test (suc n) ≡ on_found (first test n) Some (cond (test n) (Some n) None)
first_more test n =
    let e : n + 0 ≡ n = omega arith in
    from_more test n 0 ∙ ap (λ (k : ℕ). on_found (first test n) Some (cond (test k) (Some k) None)) e

-- where no rung is blocked, an absent decision is handed out
pub no_limit : limit_or (Ok tt) None ≡ no_decision
no_limit = refl

-- the rung below rung j, and a run of j rungs ends there
abbrev pub rung_below : ℕ → Option ℕ
rung_below zero = None
rung_below (suc k) = Some k

-- the envelope of rung k: it, its control frame and every slower envelope
unfoldable pub envelope_of : (ℕ → Edges) → ℕ → Edges
envelope_of burst zero = burst 0
envelope_of burst (suc k) = union_of (envelope_of burst k) (burst (suc k))

-- whether rung k is blocked with its envelope
abbrev pub blocked_at : (Edges → Decision) → (ℕ → Edges) → ℕ → Bool
blocked_at judge burst k = is_blocked (judge (envelope_of burst k)).verdict

-- a run of j rungs from rung 0, of n: each is allowed with its envelope, and the one above it, if there is one, is not
pub record Run (judge : Edges → Decision) (burst : ℕ → Edges) (n : ℕ) (rung : Option ℕ) (limit : Option Decision) (j : ℕ) : Type 0 where
  pub within : j ≤ n
  pub fastest : rung ≡ rung_below j
  pub allowed : (k : ℕ) → k < j → blocked_at judge burst k ≡ false
  pub above : j < n → (blocked_at judge burst j ≡ true) × (limit ≡ Some (judge (envelope_of burst j)))
  pub all : j ≡ n → limit ≡ None

module _ (judge : Edges → Decision) (burst : ℕ → Edges) where
  abbrev pub envelope_below : ℕ → Option Edges
  envelope_below zero = None
  envelope_below (suc k) = Some (envelope_of burst k)

  -- a climb that rung j ended, and one that n rungs didn't end
  abbrev pub stopped_at : ℕ → Climb
  stopped_at j = ended_of (rung_below j) (envelope_of burst j) (judge (envelope_of burst j))

  abbrev pub free_at : ℕ → Climb
  free_at n = record { envelope = envelope_below n; rung = rung_below n; limit = None }

  grows : (n : ℕ) → joined_of (envelope_below n) (burst n) ≡ envelope_of burst n
  unfolding envelope_of
  grows zero = refl
  grows (suc n) = refl

  -- one rung more, from either
  more_free : (n : ℕ) → climb_step judge (free_at n) n (burst n) ≡ on_found (cond (blocked_at judge burst n) (Some n) None) stopped_at (free_at (suc n))
  unfolding climb_step rung_judged climb_after went_on
  more_free n = ap (λ (e : Edges). climb_after (free_at n) n e (judge e)) (grows n) ∙ go (blocked_at judge burst n)
    where
      go :
          (b : Bool) → cond b (stopped_at n) (went_on n (envelope_of burst n)) ≡ on_found (cond b (Some n) None) stopped_at (free_at (suc n))
      go true = refl
      go false = refl

  more_over : (j n : ℕ) → climb_step judge (stopped_at j) n (burst n) ≡ stopped_at j
  unfolding climb_step ended_of
  more_over j n = refl

  -- The climb is that up to the first rung that is blocked.
  pub climb_first : (n : ℕ) → climbed judge burst n ≡ on_found (first (blocked_at judge burst) n) stopped_at (free_at n)
  unfolding climbed climb_start first_from
  climb_first zero = refl
  climb_first (suc n) =
      ap (λ (c : Climb). climb_step judge c n (burst n)) (climb_first n) ∙ go (first (blocked_at judge burst) n)
      ∙ sym (ap (λ (f : Option ℕ). on_found f stopped_at (free_at (suc n))) (first_more (blocked_at judge burst) n))
    where
      go :
          (f : Option ℕ)
          → climb_step judge (on_found f stopped_at (free_at n)) n (burst n)
          ≡ on_found (on_found f Some (cond (blocked_at judge burst n) (Some n) None)) stopped_at (free_at (suc n))
      go (Some j) = more_over j n
      go None = more_free n

  abbrev pub RunOf : ℕ → Climb → ℕ → Type 0
  RunOf n c j = Run judge burst n c.rung c.limit j

  run_ended : (n j : ℕ) → Hit (blocked_at judge burst) n j → RunOf n (stopped_at j) j
  unfolding ended_of
  run_ended n j h =
      record {
        within = omega (arith, h.below);
        fastest = refl;
        allowed = h.earlier;
        above = λ q. (h.passes, refl);
        all = λ q. absurd (omega (arith, h.below, q));
      }

  run_free : (n : ℕ) → ((k : ℕ) → k < n → blocked_at judge burst k ≡ false) → RunOf n (free_at n) n
  run_free n h =
      record {
        within = omega arith;
        fastest = refl;
        allowed = h;
        above = λ q. absurd (omega (arith, q));
        all = λ q. refl;
      }

  -- The rungs climbed are a run from rung 0.
  pub climb_run : (n : ℕ) → (j : ℕ) × RunOf n (climbed judge burst n) j
  climb_run n = go (first (blocked_at judge burst) n) refl
    where
      at : {f : Option ℕ} → first (blocked_at judge burst) n ≡ f → on_found f stopped_at (free_at n) ≡ climbed judge burst n
      at p = sym (climb_first n ∙ ap (λ (f : Option ℕ). on_found f stopped_at (free_at n)) p)

      go : (f : Option ℕ) → first (blocked_at judge burst) n ≡ f → (j : ℕ) × RunOf n (climbed judge burst n) j
      go (Some j) p = (j, subst (λ (c : Climb). RunOf n c j) (at p) (run_ended n j (first_at (blocked_at judge burst) n j p)))
      go None p = (n, subst (λ (c : Climb). RunOf n c n) (at p) (run_free n (first_nothing (blocked_at judge burst) n p)))

climb_zero : (judge : Edges → Decision) (burst : ℕ → Edges) → climbed judge burst 0 ≡ climb_start
unfolding climbed
climb_zero judge burst = refl

absent_by : (x : Checked) (c : Climb) → c ≡ climb_start → ((ceiling_unless_refused x c).rung ≡ None) × ((ceiling_unless_refused x c).limit ≡ None)
unfolding climb_start
absent_by (Ok tt) c e = (ap (λ (y : Climb). y.rung) e, ap (λ (y : Climb). y.limit) e)
absent_by (Err n) c e = (refl, refl)

climb_blocked : (x : Checked) (judge : Edges → Decision) (burst : ℕ → Edges) (n : ℕ) → is_blocked (limit_or x (climbed judge burst n).limit).verdict ≡ true
unfolding ended_of
climb_blocked x judge burst n =
    go (first (blocked_at judge burst) n) refl
  where
    at : {f : Option ℕ} → first (blocked_at judge burst) n ≡ f → climbed judge burst n ≡ on_found f (stopped_at judge burst) (free_at judge burst n)
    at p = climb_first judge burst n ∙ ap (λ (f : Option ℕ). on_found f (stopped_at judge burst) (free_at judge burst n)) p

    go : (f : Option ℕ) → first (blocked_at judge burst) n ≡ f → is_blocked (limit_or x (climbed judge burst n).limit).verdict ≡ true
    go (Some j) p = ap (λ (c : Climb). is_blocked (limit_or x c.limit).verdict) (at p) ∙ (first_at (blocked_at judge burst) n j p).passes
    go None p = ap (λ (c : Climb). is_blocked (limit_or x c.limit).verdict) (at p)

unless_blocked :
    (x : Checked) (c : Climb) → is_blocked (limit_or x c.limit).verdict ≡ true → is_blocked (limit_of (ceiling_unless_refused x c)).verdict ≡ true
unless_blocked (Ok tt) c e = e
unless_blocked (Err n) c e = refl

module _ (r : StationRecord) (direction : ℕ) (ordinary floor : Edges) (l : List ℕ) (rungs : List Float) (floors : List ℕ) where
  abbrev pub judging : Edges → Decision
  judging = judge_by (table_of l) (situation_of r) (direction_of direction)

  abbrev pub bursts : ℕ → Edges
  bursts = burst_of (edges_read ordinary) (edges_read floor) rungs floors

  abbrev pub answer : CeilingAnswer
  answer = ceiling_of r direction ordinary floor l rungs floors

  -- The answer of a call that isn't refused is a run from rung 0.
  pub ceiling_run :
      refusal_of (ceiling_tests r direction ordinary floor l rungs floors) ≡ Ok tt
      → (j : ℕ) × Run judging bursts (length rungs / 4) answer.rung answer.limit j
  unfolding ceiling_of
  ceiling_run e =
      let c = climb_run judging bursts (length rungs / 4) in (
        c.0,
        subst (λ (x : Checked). Run judging bursts (length rungs / 4) (ceiling_unless_refused x (climbed judging bursts
            (length rungs / 4))).rung (ceiling_unless_refused x (climbed judging bursts (length rungs / 4))).limit c.0)
            (sym e) c.1,
      )

  -- "No rungs: rung and limit are both absent under every policy."
  pub no_rungs : length rungs ≡ 0 → (answer.rung ≡ None) × (answer.limit ≡ None)
  unfolding ceiling_of
  no_rungs e =
      let q : length rungs / 4 ≡ 0 = omega (arith, e) in
      absent_by (refusal_of (ceiling_tests r direction ordinary floor l rungs floors)) (climbed judging bursts (length rungs / 4))
      (ap (climbed judging bursts) q ∙ climb_zero judging bursts)

  -- The limit that every answer hands out is Blocked: met, absent or refused.
  pub limit_blocked : is_blocked (limit_of answer).verdict ≡ true
  unfolding ceiling_of
  limit_blocked =
      unless_blocked (refusal_of (ceiling_tests r direction ordinary floor l rungs floors)) (climbed judging bursts (length rungs / 4))
      (climb_blocked (refusal_of (ceiling_tests r direction ordinary floor l rungs floors)) judging bursts (length rungs / 4))
