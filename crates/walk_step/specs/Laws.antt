-- A step by its cases, for the function that makes it.
use Rattle.std.specs.Prelude.{ℕ, ◌+◌, ◌<◌, ◌≤◌, Bool, cond, ◌||◌, ◌≡◌, ltb, Option, Some, None, Result, Ok, Err}
use Rattle.std.proofs.Math.Bool.{true, false, not}
use Rattle.std.proofs.Common.{true≢false, arith, sym, ◌∙◌, lt-ltb, le-ltb, ltb-false}
use Rattle.std.proofs.Math.Path.{refl, ap}
use Rattle.occupancy.specs.declared.Edges.{Edges}
use Rattle.scan.specs.Laws.{and_true}
use Rattle.decision.specs.declared.Decision.{Decision}
use Rattle.part97.specs.declared.Finding.{Finding}
use Rattle.ceiling.specs.Ceiling.{climb_after, went_on, Stepped, rung_judged, ended_of as climb_ended}
use Rattle.walk.specs.Walk.{state_valid}
use Rattle.walk_step.specs.Step.{envelope_so_far, rung_so_far, climb_so_far, ended_of, goes_on, step_none, step_judged, step_by}
use Rattle.walk.specs.declared.WalkState.{WalkState}
use Rattle.walk_step.specs.declared.StepAnswer.{StepAnswer}

-- an answer that is not refused
abbrev pub gives : WalkState → Bool → Option ℕ → Option Decision → StepAnswer
gives w over rung limit = record { state = w; over = over; ceiling = record { refusal = Ok tt; rung = rung; limit = limit } }

module _ (judge : Edges → Decision) (burst : ℕ → Edges) (n : ℕ) (w : WalkState) where
  pub step_none_holds : n ≤ w.place → step_by judge burst n w ≡ step_none w
  unfolding step_by
  step_none_holds h = rw (le-ltb _ _ h)

  there : w.place < n → step_by judge burst n w ≡ step_judged w n (rung_judged judge (climb_so_far w) w.place (burst w.place))
  unfolding step_by
  there h = rw (lt-ltb _ _ h)

  abbrev pub StepHere : (Edges → Finding → Decision) → Result Edges (Edges × Finding) → Type 0
  StepHere lead t = Stepped judge lead (envelope_so_far w) (burst w.place) t

  module _ (lead : Edges → Finding → Decision) (h : w.place < n) where
    -- the climb after the rung
    after_blocked :
        (x : Edges) (f : Finding) → StepHere lead (Err (x, f))
        → rung_judged judge (climb_so_far w) w.place (burst w.place) ≡ climb_ended (rung_so_far w.place) x (lead x f)
    unfolding rung_judged climb_after
    after_blocked x f e =
        rw (← e.reached) (rw (← e.blocks) (ap (climb_ended (rung_so_far w.place) x) (sym (e.leads x f refl))))

    after_free : (x : Edges) → StepHere lead (Ok x) → rung_judged judge (climb_so_far w) w.place (burst w.place) ≡ went_on w.place x
    unfolding rung_judged climb_after
    after_free x e = rw (← e.reached) (rw (← e.blocks))

    -- "A walk ends with its first blocked rung …"
    pub step_blocked :
        (x : Edges) (f : Finding) → StepHere lead (Err (x, f))
        → step_by judge burst n w ≡ gives (ended_of w) true (rung_so_far w.place) (Some (lead x f))
    unfolding step_judged climb_ended
    step_blocked x f e = there h ∙ ap (step_judged w n) (after_blocked x f e)

    -- "… or its last rung"
    pub step_last :
        (x : Edges) → StepHere lead (Ok x) → n ≤ w.place + 1
        → step_by judge burst n w ≡ gives (ended_of w) true (Some w.place) None
    unfolding step_judged went_on
    step_last x e last = there h ∙ ap (step_judged w n) (after_free x e) ∙ go (ltb (w.place + 1) n) (le-ltb _ _ last)
      where
        go :
            (b : Bool) → b ≡ false
            → gives (cond (false || not b) (ended_of w) (goes_on w x)) (false || not b) (Some w.place) None
            ≡ gives (ended_of w) true (Some w.place) None
        go true p = absurd (true≢false p)
        go false p = refl

    pub step_on_holds :
        (x : Edges) → StepHere lead (Ok x) → w.place + 1 < n → step_by judge burst n w ≡ gives (goes_on w x) false (Some w.place) None
    unfolding step_judged went_on
    step_on_holds x e more = there h ∙ ap (step_judged w n) (after_free x e) ∙ go (ltb (w.place + 1) n) (lt-ltb _ _ more)
      where
        go :
            (b : Bool) → b ≡ true
            → gives (cond (false || not b) (ended_of w) (goes_on w x)) (false || not b) (Some w.place) None
            ≡ gives (goes_on w x) false (Some w.place) None
        go true p = refl
        go false p = absurd (true≢false (sym p))

-- a state that a call gives has a place below 256
pub valid_place : (w : WalkState) → state_valid w ≡ true → w.place < 256
unfolding state_valid
valid_place w e =
    let a = and_true (not (ltb 1 w.image)) _ e in
    let b = and_true (not (ltb 1 w.waiting)) _ a.1 in
    let c = and_true (not (ltb 1 w.walking)) _ b.1 in
    let d = and_true (not (ltb 255 w.place)) _ c.1 in
    go (ltb 255 w.place) refl d.0
  where
    go : (x : Bool) → ltb 255 w.place ≡ x → not x ≡ true → w.place < 256
    go true p q = absurd (true≢false (sym q))
    go false p q = let h = ltb-false 255 w.place p in omega (arith, h)
