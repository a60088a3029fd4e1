-- The climb by its laws, for the loop that makes it.
use Prim.Native.Nat.{ℕ, zero, suc, ◌+◌, ◌<◌, ◌≤◌, ◌-◌}
use Rattle.std.specs.Prelude.{Option, Some, None, Result, Ok, Err, Bool, cond, ◌≡◌}
use Rattle.std.proofs.Math.Bool.{true, false}
use Rattle.std.proofs.Common.{true≢false, sym, subst, ◌∙◌}
use Rattle.std.proofs.Math.Path.{refl, ap}
use native.Mathlib.Omega.{arith}
use Rattle.occupancy.specs.declared.Edges.{Edges}
use Rattle.scan.specs.Laws.{cond_yes, cond_not}
use Rattle.decision.specs.Decision.{is_blocked}
use Rattle.decision.specs.declared.Decision.{Decision}
use Rattle.part97.specs.declared.Finding.{Finding}
use Rattle.barred.specs.Barring.{bars, Barred}
use Rattle.ceiling.specs.Ceiling.{limited, climb_start, joined_of, ended_of, went_on, climb_after, step_envelope, stops, Stepped, rung_judged, climb_step, climbed}
use Rattle.ceiling.specs.declared.Climb.{Climb}

-- What a loop over n rungs knows at rung i: c is the climb so far, and it goes on.
pub record Climbing (judge : Edges → Decision) (burst : ℕ → Edges) (n i : ℕ) (c : Climb) : Type 0 where
  pub within : i ≤ n
  pub is : c ≡ climbed judge burst i
  pub free : limited c.limit ≡ false

module _ (judge : Edges → Decision) (burst : ℕ → Edges) where
  pub one_more : (i : ℕ) → climbed judge burst (i + 1) ≡ climb_step judge (climbed judge burst i) i (burst i)
  unfolding climbed
  one_more i = let e : i + 1 ≡ suc i = omega arith in rw e

  pub step_free : (c : Climb) (k : ℕ) (more : Edges) → limited c.limit ≡ false → climb_step judge c k more ≡ rung_judged judge c k more
  unfolding climb_step
  step_free c k more e = cond_not c (rung_judged judge c k more) e

  step_over : (c : Climb) (k : ℕ) (more : Edges) → limited c.limit ≡ true → climb_step judge c k more ≡ c
  unfolding climb_step
  step_over c k more e = cond_yes c (rung_judged judge c k more) e

  -- A climb that is over stays as it is.
  pub stays : (d k : ℕ) → limited (climbed judge burst k).limit ≡ true → climbed judge burst (d + k) ≡ climbed judge burst k
  stays zero k h = let e : zero + k ≡ k = omega arith in ap (climbed judge burst) e
  stays (suc d) k h =
      let e : suc d + k ≡ d + k + 1 = omega arith in
      ap (climbed judge burst) e ∙ one_more (d + k) ∙ ap (λ (c : Climb). climb_step judge c (d + k) (burst (d + k))) (stays d k h)
      ∙ step_over (climbed judge burst k) (d + k) (burst (d + k)) h

  module _ (n : ℕ) where
    pub climbing_start : (c : Climb) → c ≡ climb_start → Climbing judge burst n 0 c
    unfolding climbed climb_start
    climbing_start c e = record { within = omega arith; is = e; free = ap (λ (x : Climb). limited x.limit) e }

    module _ (i : ℕ) (c x : Climb) (p : Climbing judge burst n i c) where
      -- x is the climb after one rung more
      turned : x ≡ rung_judged judge c i (burst i) → x ≡ climbed judge burst (i + 1)
      turned e =
          e ∙ sym (step_free c i (burst i) p.free) ∙ ap (λ (y : Climb). climb_step judge y i (burst i)) p.is ∙ sym (one_more i)

      pub climbing_again : i < n → x ≡ rung_judged judge c i (burst i) → limited x.limit ≡ false → Climbing judge burst n (i + 1) x
      climbing_again h e f = record { within = omega arith; is = turned e; free = f }

      pub climb_over : i < n → x ≡ rung_judged judge c i (burst i) → limited x.limit ≡ true → x ≡ climbed judge burst n
      climb_over h e f =
          let t = turned e in
          let q : n - (i + 1) + (i + 1) ≡ n = omega arith in
          t ∙ sym (stays (n - (i + 1)) (i + 1) (sym (ap (λ (y : Climb). limited y.limit) t) ∙ f)) ∙ ap (climbed judge burst) q

    pub climb_done : (i : ℕ) (c : Climb) → Climbing judge burst n i c → n ≤ i → c ≡ climbed judge burst n
    climb_done i c p h = let q : i ≡ n = omega (arith, p.within) in p.is ∙ ap (climbed judge burst) q

-- ---- a climb that goes on, by its envelope and its rung

abbrev pub free_climb : Option Edges → Option ℕ → Climb
free_climb envelope rung = record { envelope = envelope; rung = rung; limit = None }

-- What the loop knows at rung i of n.
abbrev pub Free : (Edges → Decision) → (ℕ → Edges) → ℕ → ℕ → Option Edges → Option ℕ → Type 0
Free judge burst n i envelope rung = Climbing judge burst n i (free_climb envelope rung)

-- a step by the envelope before it, what the rung adds, and how it ended
pub step_of :
    {judge : Edges → Decision} {lead : Edges → Finding → Decision} {envelope before : Option Edges} {more x : Edges} {t u : Result Edges (Edges × Finding)}
    → envelope ≡ before → more ≡ x → t ≡ u → Stepped judge lead envelope more t → Stepped judge lead before x u
step_of {judge} {lead} {envelope} {before} {more} {x} {t} {u} p q r e =
    subst (Stepped judge lead before x) r
    (subst (λ (y : Option Edges). Stepped judge lead y x t) p (subst (λ (y : Edges). Stepped judge lead envelope y t) q e))

-- a step from what bars its envelope
abbrev found_of : Finding → Result Edges (Edges × Finding) → Finding
found_of other (Ok e) = other
found_of other (Err (e, f)) = f

module _
    {judge : Edges → Decision} {lead : Edges → Finding → Decision} {envelope : Option Edges} {more x : Edges} {b : Option Finding} (e : x ≡ joined_of envelope more)
    (q : Barred (lead x) (judge x) b) where
  pub stopped_by : (f : Finding) → b ≡ Some f → Stepped judge lead envelope more (Err (x, f))
  stopped_by f r =
      record {
        reached = e;
        blocks = sym (ap bars r) ∙ q.blocks;
        leads = λ y g t.
            subst (λ (z : Edges). lead z g ≡ judge z) (ap step_envelope t) (ap (lead x) (sym (ap (found_of f) t)) ∙ q.leads f r);
      }

  pub passed_by : b ≡ None → Stepped judge lead envelope more (Ok x)
  passed_by r =
      record { reached = e; blocks = sym (ap bars r) ∙ q.blocks; leads = λ y g t. absurd (true≢false (sym (ap stops t))) }

module _ (judge : Edges → Decision) (burst : ℕ → Edges) (n : ℕ) where
  pub free_start : Free judge burst n 0 None None
  unfolding climb_start
  free_start = climbing_start judge burst n (free_climb None None) refl

  -- the climb after a step
  abbrev after : Option ℕ → ℕ → Edges → Bool → Climb
  after rung i x b = cond b (ended_of rung x (judge x)) (went_on i x)

  module _ (lead : Edges → Finding → Decision) (i : ℕ) (envelope : Option Edges) (rung : Option ℕ) (p : Free judge burst n i envelope rung) (h : i < n) where
    by_step :
        (x : Edges) (b : Bool) → x ≡ joined_of envelope (burst i) → b ≡ is_blocked (judge x).verdict
        → after rung i x b ≡ rung_judged judge (free_climb envelope rung) i (burst i)
    unfolding rung_judged climb_after
    by_step x b e q = ap (after rung i x) q ∙ ap (λ (y : Edges). after rung i y (is_blocked (judge y).verdict)) e

    -- rung i is allowed
    pub free_again : (x : Edges) → Stepped judge lead envelope (burst i) (Ok x) → Free judge burst n (i + 1) (Some x) (Some i)
    unfolding went_on
    free_again x e =
        climbing_again judge burst n i (free_climb envelope rung) (after rung i x false) p h (by_step x false e.reached e.blocks) refl

    -- rung i is blocked
    pub free_over :
        (x : Edges) (f : Finding) → Stepped judge lead envelope (burst i) (Err (x, f)) → ended_of rung x (lead x f) ≡ climbed judge burst n
    unfolding ended_of
    free_over x f e =
        ap (ended_of rung x) (e.leads x f refl)
        ∙ climb_over judge burst n i (free_climb envelope rung) (after rung i x true) p h (by_step x true e.reached e.blocks) refl
