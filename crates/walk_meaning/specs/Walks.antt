-- "If every step is lent the same two images, rungs, control edges, direction and station record, a finished walk equals one call of the ceiling
-- on the table at its start", whatever swaps come between; each step before gives the ceiling of the rungs judged so far; and where the image
-- in force stands after it.
use Prim.Native.Nat.{ℕ, zero, suc, ◌+◌, ◌*◌, ◌-◌, ◌/◌, ◌%◌, ◌<◌, ◌≤◌}
use Rattle.std.specs.Prelude.{Option, Some, None, Ok, Err, Bool, cond, ◌||◌, List, ◌≡◌, eqb, length, take, Float}
use Rattle.codes.specs.Refusal.{Checked, refusal_of}
use Rattle.codes.specs.declared.Refusal.{Refusal}
use Rattle.std.proofs.Math.Bool.{true, false, not}
use Rattle.std.proofs.Common.{true≢false, sym, ◌∙◌, arith}
use Rattle.std.proofs.Math.Path.{refl, ap}
use borrow.Author.Tests.{lt-ltb, le-ltb, ltb-true, ltb-false, ne_eqb, not-true, not-false}
use Rattle.std.proofs.Math.Dec.{ltb}
use Rattle.codes.specs.Read.{direction_valid}
use Rattle.codes.specs.Laws.{refusal_both, none_fails}
use Rattle.occupancy.specs.declared.Edges.{Edges}
use Rattle.scan.specs.First.{first, on_found}
use Rattle.scan.specs.Laws.{and_true}
use Rattle.station.specs.declared.StationRecord.{StationRecord}
use Rattle.entry.specs.Entry.{entry_tests, edges_valid, edges_read}
use Rattle.decision.specs.declared.Decision.{Decision}
use Rattle.ceiling.specs.Ceiling.{limited, ended_of as climb_ended, climb_start, climbed, rung_judged, ceiling_unless_refused, ceiling_of}
use Rattle.rungs.specs.Rungs.{bad_edges, bad_rungs, rung_tests, ceiling_tests, any_unmarked}
use Rattle.ceiling.specs.Laws.{one_more, step_free, stays}
use Rattle.ceiling.specs.Run.{rung_below, envelope_of, blocked_at, stopped_at, free_at, climb_first, judging, bursts}
use Rattle.ceiling.specs.declared.Climb.{Climb}
use Rattle.ceiling.specs.declared.CeilingAnswer.{CeilingAnswer}
use Rattle.walk.specs.Walk.{no_edges, resting, other_image, state_valid, occupied_read, swapped, swap_of, open_tests, opened_at, open_of, state_unless_refused}
use Rattle.walk_step.specs.Step.{climb_so_far, ended_of, goes_on, step_gives, step_none, step_judged, step_by, step_under, refused_step, walk_image, step_of}
use Rattle.walk.specs.declared.WalkState.{WalkState}
use Rattle.walk_step.specs.declared.StepAnswer.{StepAnswer}
use Rattle.walk_meaning.specs.Prefix.{ceiling_of_first}
use Rattle.walk_meaning.specs.Sound.{SoundEdges, sound_valid, sound_same, envelope_sound}

not_nought : (j : ℕ) → eqb (suc j) 0 ≡ false
not_nought j = ne_eqb (suc j) 0 (λ q. omega (arith, q))

-- ---- swaps

-- so many calls of swap, one after the other
abbrev pub swap_times : ℕ → WalkState → WalkState
swap_times zero w = w
swap_times (suc m) w = (swap_of (swap_times m w)).state

-- whether one waits after so many
abbrev pub waits_after : ℕ → ℕ → ℕ
waits_after zero waiting = waiting
waits_after (suc m) waiting = 1

-- "A table with nobody walking takes force immediately."
pub swap_at_rest : (n : ℕ) → n ≤ 1 → swap_of (resting n) ≡ state_unless_refused (Ok tt) (resting n) (resting (other_image n))
unfolding swap_of swapped state_valid
swap_at_rest n h = rw (le-ltb 1 n h)

-- ---- a walk that is open, at place k, of these bursts

module _ (burst : ℕ → Edges) where
  abbrev occupied_at : ℕ → Edges
  occupied_at zero = no_edges
  occupied_at (suc k) = envelope_of burst k

  abbrev pub walking_at : ℕ → ℕ → ℕ → WalkState
  walking_at n k waiting = record { occupied = occupied_at k; place = k; image = n; waiting = waiting; walking = 1 }

  -- what was occupied is sound
  abbrev SoundBelow : ℕ → Type 0
  SoundBelow k = (i : ℕ) → i < k → SoundEdges (envelope_of burst i)

  module _ (n k : ℕ) (image : n ≤ 1) (low : k ≤ 255) (sound : SoundBelow k) where
    occupied_valid : eqb k 0 || edges_valid (occupied_at k) ≡ true
    occupied_valid = go k sound
      where
        go : (j : ℕ) → SoundBelow j → eqb j 0 || edges_valid (occupied_at j) ≡ true
        go zero s = refl
        go (suc j) s = rw (sound_valid (envelope_of burst j) (s j (omega arith))) (or_true (eqb (suc j) 0))
          where
            or_true : (b : Bool) → b || true ≡ true
            or_true true = refl
            or_true false = refl

    pub walking_valid : (waiting : ℕ) → waiting ≤ 1 → state_valid (walking_at n k waiting) ≡ true
    unfolding state_valid
    walking_valid waiting h = rw (le-ltb 1 n image) (rw (le-ltb 1 waiting h) (rw (le-ltb 255 k low) occupied_valid))

    read_back : occupied_read (walking_at n k 0) ≡ occupied_at k
    read_back = go k sound
      where
        go : (j : ℕ) → SoundBelow j → cond (eqb j 0) no_edges (edges_read (occupied_at j)) ≡ occupied_at j
        go zero s = refl
        go (suc j) s = rw (not_nought j) (sound_same (envelope_of burst j) (s j (omega arith)))

    swap_waits : (swap_of (walking_at n k 0)).state ≡ walking_at n k 1
    unfolding swap_of swapped
    swap_waits =
        rw (walking_valid 0 (omega arith))
        (ap (λ (e : Edges). state e) read_back)
      where
        state : Edges → WalkState
        state e = record { occupied = e; place = k; image = n; waiting = 1; walking = 1 }

    swap_refused : (swap_of (walking_at n k 1)).state ≡ walking_at n k 1
    unfolding swap_of
    swap_refused = refl

    -- However often it is asked for, one swap waits, and the walk stands where it stood.
    pub swaps_wait : (m waiting : ℕ) → waiting ≤ 1 → swap_times m (walking_at n k waiting) ≡ walking_at n k (waits_after m waiting)
    swaps_wait zero waiting h = refl
    swaps_wait (suc m) waiting h = ap (λ (w : WalkState). (swap_of w).state) (swaps_wait m waiting h) ∙ go m waiting h
      where
        go : (j b : ℕ) → b ≤ 1 → (swap_of (walking_at n k (waits_after j b))).state ≡ walking_at n k 1
        go zero zero q = swap_waits
        go zero (suc zero) q = swap_refused
        go zero (suc (suc b)) q = absurd (omega (arith, q))
        go (suc j) b q = swap_refused

    -- the climb so far
    pub climb_so_far_holds : (judge : Edges → Decision) (waiting : ℕ) → climb_so_far (walking_at n k waiting) ≡ free_at judge burst k
    climb_so_far_holds judge waiting = go k sound
      where
        go : (j : ℕ) → SoundBelow j → climb_so_far (walking_at n j waiting) ≡ free_at judge burst j
        go zero s = refl
        go (suc j) s =
            let p : suc j - 1 ≡ j = omega arith in
            rw (not_nought j) (rw p (ap (λ (e : Edges). climb j e) (sound_same (envelope_of burst j) (s j (omega arith)))))
          where
            climb : ℕ → Edges → Climb
            climb i e = record { envelope = Some e; rung = rung_below (suc i); limit = None }

-- a climb that no rung ended
free_of : (judge : Edges → Decision) (burst : ℕ → Edges) (n : ℕ) → limited (climbed judge burst n).limit ≡ false → climbed judge burst n ≡ free_at judge burst n
unfolding climb_ended
free_of judge burst n q = go (first (blocked_at judge burst) n) (climb_first judge burst n)
  where
    go :
        (f : Option ℕ) → climbed judge burst n ≡ on_found f (stopped_at judge burst) (free_at judge burst n) → climbed judge burst n ≡ free_at judge burst n
    go (Some j) p = absurd (true≢false (sym (ap (λ (c : Climb). limited c.limit) p) ∙ q))
    go None p = p

-- an opening that is not refused
pub opens : (w : WalkState) → (open_of w).refusal ≡ Ok tt → (w.image ≤ 1) × ((open_of w).state ≡ opened_at w.image)
unfolding open_of state_valid
opens w e = go (refusal_of (open_tests w)) refl e
  where
    valid : state_valid w ≡ true → w.image ≤ 1
    valid v = ltb-false 1 w.image (not-true _ (and_true (not (ltb 1 w.image)) _ v).0)

    go :
        (x : Checked) → refusal_of (open_tests w) ≡ x → (state_unless_refused x w (opened_at w.image)).refusal ≡ Ok tt
        → (w.image ≤ 1) × ((state_unless_refused x w (opened_at w.image)).state ≡ opened_at w.image)
    go (Ok tt) p q = (valid (not-false _ (none_fails (open_tests w) p).1.0), refl)
    go (Err n) p q = absurd (accepted_not n q)
      where
        accepted_not : (i : Refusal) → ◌≡◌ {A = Checked} (Err i) (Ok tt) → ⊥
        accepted_not i d = let z : ◌≡◌ {A = ℕ} 0 1 = cc in omega arith

-- ---- a walk in which every step is lent the same

module _ (r : StationRecord) (direction : ℕ) (ordinary floor : Edges) (l₀ l₁ : List ℕ) (rungs : List Float) (floors : List ℕ) where
  abbrev pub step_on : WalkState → StepAnswer
  step_on w = step_of w r direction ordinary floor l₀ l₁ rungs floors

  -- the state before step k of the walk that is opened in w, where swap was called so many times before each step
  abbrev pub state_at : WalkState → (ℕ → ℕ) → ℕ → WalkState
  state_at w swaps zero = swap_times (swaps 0) (open_of w).state
  state_at w swaps (suc k) = swap_times (swaps (suc k)) (step_on (state_at w swaps k)).state

  -- what step k answers
  abbrev pub answer_at : WalkState → (ℕ → ℕ) → ℕ → StepAnswer
  answer_at w swaps k = step_on (state_at w swaps k)

  -- whether a swap waits by step k
  abbrev pub waits_at : (ℕ → ℕ) → ℕ → ℕ
  waits_at swaps zero = waits_after (swaps 0) 0
  waits_at swaps (suc k) = waits_after (swaps (suc k)) (waits_at swaps k)

  waits_few : (m waiting : ℕ) → waiting ≤ 1 → waits_after m waiting ≤ 1
  waits_few zero waiting h = h
  waits_few (suc m) waiting h = omega arith

  pub waits_bit : (swaps : ℕ → ℕ) (k : ℕ) → waits_at swaps k ≤ 1
  waits_bit swaps zero = waits_few (swaps 0) 0 (omega arith)
  waits_bit swaps (suc k) = waits_few (swaps (suc k)) (waits_at swaps k) (waits_bit swaps k)

  -- of one ceiling call on the image that is in force in w
  abbrev pub one_call : WalkState → CeilingAnswer
  one_call w = ceiling_of r direction ordinary floor (walk_image w l₀ l₁) rungs floors

  module _
      (w : WalkState) (swaps : ℕ → ℕ) (opened : (open_of w).refusal ≡ Ok tt)
      (accepted : refusal_of (ceiling_tests r direction ordinary floor (walk_image w l₀ l₁) rungs floors) ≡ Ok tt) where
    abbrev n : ℕ
    n = w.image

    abbrev l : List ℕ
    l = walk_image w l₀ l₁

    abbrev pub count : ℕ
    count = length rungs / 4

    abbrev pub judge : Edges → Decision
    judge = judging r direction ordinary floor l rungs floors

    abbrev pub burst : ℕ → Edges
    burst = bursts r direction ordinary floor l rungs floors

    -- the climb over the first rungs
    abbrev pub climb : ℕ → Climb
    climb k = climbed judge burst k

    lent_well : (bad_edges ordinary floor rungs ≡ false) × (bad_rungs rungs floors ≡ false)
    lent_well =
        let f = none_fails (rung_tests ordinary floor rungs floors)
        (refusal_both (entry_tests r (direction_valid direction) l) (rung_tests ordinary floor rungs floors) accepted).1 in
        (f.0, f.1.0)

    few : count ≤ 256
    unfolding bad_rungs
    few = go (eqb (length rungs % 4) 0) (ltb 256 count) refl lent_well.1
      where
        go : (a b : Bool) → ltb 256 count ≡ b → not a || (b || (not (eqb (length floors) count) || any_unmarked floors)) ≡ false → count ≤ 256
        go false b p q = absurd (true≢false q)
        go true true p q = absurd (true≢false q)
        go true false p q = ltb-false 256 count p

    sound_below : (k : ℕ) → k ≤ count - 1 → SoundBelow burst k
    sound_below k h i q = envelope_sound ordinary floor rungs lent_well.0 floors i (omega (arith, h, q))

    -- Before step k, if none ended the walk: it stands at rung k under the image that it began with, and no rung so far was blocked.
    pub record Stands (k : ℕ) : Type 0 where
      pub is : state_at w swaps k ≡ walking_at burst n k (waits_at swaps k)
      pub within : k ≤ count - 1
      pub free : climb k ≡ free_at judge burst k

    stands_first : Stands 0
    unfolding climbed climb_start
    stands_first =
        record {
          is =
              ap (swap_times (swaps 0)) (opens w opened).1
              ∙ swaps_wait burst n 0 (opens w opened).0 (omega arith) (sound_below 0 (omega arith)) (swaps 0) 0 (omega arith);
          within = omega arith;
          free = refl;
        }

    module _ (k : ℕ) (s : Stands k) where
      abbrev here : WalkState
      here = walking_at burst n k (waits_at swaps k)

      low : k ≤ 255
      low = omega (arith, s.within, few)

      -- the step is judged under the walk's image
      step_by_holds : answer_at w swaps k ≡ step_by judge burst count here
      unfolding step_of step_under
      step_by_holds =
          ap step_on s.is
          ∙ rw (walking_valid burst n k (opens w opened).0 low (sound_below k s.within) (waits_at swaps k) (waits_bit swaps k)) (rw accepted)

      -- rung k judged is the climb over one rung more
      judged : rung_judged judge (climb_so_far here) k (burst k) ≡ climb (suc k)
      judged =
          let e : k + 1 ≡ suc k = omega arith in
          ap (λ (c : Climb). rung_judged judge c k (burst k))
          (climb_so_far_holds burst n k (opens w opened).0 low (sound_below k s.within) judge (waits_at swaps k) ∙ sym s.free)
          ∙ sym (step_free judge burst (climb k) k (burst k) (ap (λ (c : Climb). limited c.limit) s.free))
          ∙ sym (one_more judge burst k) ∙ ap climb e

      step_there : k < count → answer_at w swaps k ≡ step_judged here count (climb (suc k))
      unfolding step_by
      step_there h = step_by_holds ∙ rw (lt-ltb k count h) (ap (step_judged here count) judged)

      step_nowhere : count ≤ k → answer_at w swaps k ≡ step_none here
      unfolding step_by
      step_nowhere h = step_by_holds ∙ rw (le-ltb k count h)

      abbrev gives_climb : Bool → StepAnswer
      gives_climb over = step_gives here (climb (suc k)) over

      over_of : k < count → (answer_at w swaps k).over ≡ limited (climb (suc k)).limit || not (ltb (k + 1) count)
      unfolding step_judged
      over_of h = ap (λ (a : StepAnswer). a.over) (step_there h)

      gives : k < count → (answer_at w swaps k).ceiling ≡ ceiling_unless_refused (Ok tt) (climb (suc k))
      unfolding step_judged
      gives h = ap (λ (a : StepAnswer). a.ceiling) (step_there h)

      -- a step that does not end the walk: rung k is allowed, and there is another
      neither : (a b : Bool) → a || not b ≡ false → (a ≡ false) × (b ≡ true)
      neither true b q = absurd (true≢false q)
      neither false false q = absurd (true≢false q)
      neither false true q = (refl, refl)

      goes_on_holds : (answer_at w swaps k).over ≡ false → (k < count) × ((limited (climb (suc k)).limit ≡ false) × (k + 1 < count))
      unfolding step_none
      goes_on_holds q = go (ltb k count) refl
        where
          go : (b : Bool) → ltb k count ≡ b → (k < count) × ((limited (climb (suc k)).limit ≡ false) × (k + 1 < count))
          go true p =
              let h = ltb-true k count p in
              let d = neither (limited (climb (suc k)).limit) (ltb (k + 1) count) (sym (over_of h) ∙ q) in
              (h, (d.0, ltb-true (k + 1) count d.1))
          go false p =
              absurd (true≢false (sym (ap (λ (a : StepAnswer). a.over) (step_nowhere (ltb-false k count p))) ∙ q))

      stands_next : (answer_at w swaps k).over ≡ false → Stands (suc k)
      unfolding step_judged goes_on
      stands_next q =
          let g = goes_on_holds q in
          let free : climb (suc k) ≡ free_at judge burst (suc k) = free_of judge burst (suc k) g.1.0 in
          let inside : suc k ≤ count - 1 = omega (arith, g.1.1) in
          record {
            is =
                ap (λ (x : WalkState). swap_times (swaps (suc k)) x) (moved g free)
                ∙ swaps_wait burst n (suc k) (opens w opened).0 (omega (arith, inside, few)) (sound_below (suc k) inside) (swaps (suc k)) (waits_at swaps k)
                (waits_bit swaps k);
            within = inside;
            free = free;
          }
        where
          state : ℕ → WalkState
          state p = record { occupied = envelope_of burst k; place = p; image = n; waiting = waits_at swaps k; walking = 1 }

          moved :
              (k < count) × ((limited (climb (suc k)).limit ≡ false) × (k + 1 < count)) → climb (suc k) ≡ free_at judge burst (suc k)
              → (answer_at w swaps k).state ≡ walking_at burst n (suc k) (waits_at swaps k)
          moved g free =
              let e : k + 1 ≡ suc k = omega arith in
              ap (λ (a : StepAnswer). a.state) (step_there g.0) ∙ rw g.1.0 (rw (lt-ltb (k + 1) count g.1.1) (rw free (ap state e)))

    -- no step before k ended the walk
    abbrev pub GoesTo : ℕ → Type 0
    GoesTo k = (i : ℕ) → i < k → (answer_at w swaps i).over ≡ false

    pub stands : (k : ℕ) → GoesTo k → Stands k
    stands zero on = stands_first
    stands (suc k) on = stands_next k (stands k (λ i h. on i (omega (arith, h)))) (on k (omega arith))

    -- "Each step gives the ceiling that the rungs judged so far give": what the ceiling answers where it is lent only those.
    pub walk_so_far :
        (k : ℕ) → GoesTo k → k < count
        → (answer_at w swaps k).ceiling ≡ ceiling_of r direction ordinary floor (walk_image w l₀ l₁) (take (4 * suc k) rungs) (take (suc k) floors)
    walk_so_far k on h =
        gives k (stands k on) h ∙ sym (ceiling_of_first r direction ordinary floor l rungs floors (suc k) accepted (omega (arith, h)))

    -- "a finished walk equals one call of the ceiling on the table at its start"
    pub walk_is_ceiling : (k : ℕ) → GoesTo k → (answer_at w swaps k).over ≡ true → (answer_at w swaps k).ceiling ≡ one_call w
    unfolding ceiling_of step_none climbed climb_start
    walk_is_ceiling k on over = rw accepted (go (ltb k count) refl)
      where
        s : Stands k
        s = stands k on

        either : (a b : Bool) → a || not b ≡ true → a ≡ false → b ≡ false
        either true b p q = absurd (true≢false q)
        either false true p q = absurd (true≢false (sym p))
        either false false p q = refl

        -- the rungs that are left add nothing
        whole : k < count → (b : Bool) → limited (climb (suc k)).limit ≡ b → climb (suc k) ≡ climb count
        whole h true p =
            let q : count - suc k + suc k ≡ count = omega (arith, h) in
            sym (stays judge burst (count - suc k) (suc k) p) ∙ ap climb q
        whole h false p =
            let last = ltb-false (k + 1) count (either (limited (climb (suc k)).limit) (ltb (k + 1) count) (sym (over_of k s h) ∙ over) p) in
            let q : suc k ≡ count = omega (arith, h, last) in
            ap climb q

        go : (b : Bool) → ltb k count ≡ b → (answer_at w swaps k).ceiling ≡ ceiling_unless_refused (Ok tt) (climb count)
        go true p =
            let h = ltb-true k count p in
            gives k s h ∙ ap (ceiling_unless_refused (Ok tt)) (whole h (limited (climb (suc k)).limit) refl)
        go false p =
            let h = ltb-false k count p in
            let none : k ≡ count = omega (arith, h, s.within) in
            ap (λ (a : StepAnswer). a.ceiling) (step_nowhere k s h)
            ∙ ap (ceiling_unless_refused (Ok tt))
            (climb_so_far_holds burst n k (opens w opened).0 (low k s) (sound_below k s.within) judge (waits_at swaps k) ∙ sym s.free ∙ ap climb none)

    -- It is over with its first blocked rung or with its last, and where no rung is lent with its first step.
    pub walk_over : (k : ℕ) → GoesTo k → k < count → (answer_at w swaps k).over ≡ limited (climb (suc k)).limit || not (ltb (k + 1) count)
    walk_over k on h = over_of k (stands k on) h

    pub walk_empty : count ≡ 0 → (answer_at w swaps 0).over ≡ true
    unfolding step_none
    walk_empty e = ap (λ (a : StepAnswer). a.over) (step_nowhere 0 (stands 0 (λ i h. absurd (omega (arith, h)))) (omega (arith, e)))

    -- The next walk begins under the new table: after the step that ends the walk the image in force is the other one exactly if a swap was
    -- asked for while it was on.
    pub walk_leaves :
        (k : ℕ) → GoesTo k → (answer_at w swaps k).over ≡ true
        → (answer_at w swaps k).state ≡ resting (cond (eqb (waits_at swaps k) 1) (other_image w.image) w.image)
    unfolding step_judged step_none ended_of
    walk_leaves k on over = go (ltb k count) refl
      where
        s : Stands k
        s = stands k on

        there : (a : Bool) → a ≡ true → (step_gives (here k s) (climb (suc k)) a).state ≡ ended_of (here k s)
        there true p = refl
        there false p = absurd (true≢false (sym p))

        go : (b : Bool) → ltb k count ≡ b → (answer_at w swaps k).state ≡ ended_of (here k s)
        go true p =
            let h = ltb-true k count p in
            ap (λ (a : StepAnswer). a.state) (step_there k s h) ∙ there _ (sym (over_of k s h) ∙ over)
        go false p = ap (λ (a : StepAnswer). a.state) (step_nowhere k s (ltb-false k count p))

  -- A walk whose ceiling is refused stands still: each step answers that refusal, and is not over.
  module _
      (w : WalkState) (swaps : ℕ → ℕ) (opened : (open_of w).refusal ≡ Ok tt) (x : Refusal)
      (refused : refusal_of (ceiling_tests r direction ordinary floor (walk_image w l₀ l₁) rungs floors) ≡ Err x) where
    abbrev still : ℕ → WalkState
    still waiting = walking_at (λ k. no_edges) w.image 0 waiting

    swaps_still : (m waiting : ℕ) → waiting ≤ 1 → swap_times m (still waiting) ≡ still (waits_after m waiting)
    swaps_still m waiting h = swaps_wait (λ k. no_edges) w.image 0 (opens w opened).0 (omega arith) (λ i q. absurd (omega (arith, q))) m waiting h

    step_still : (waiting : ℕ) → waiting ≤ 1 → step_on (still waiting) ≡ refused_step (still waiting) x
    unfolding step_of step_under
    step_still waiting h =
        rw (walking_valid (λ k. no_edges) w.image 0 (opens w opened).0 (omega arith) (λ i q. absurd (omega (arith, q))) waiting h) (rw refused)

    stands_still : (k : ℕ) → state_at w swaps k ≡ still (waits_at swaps k)
    unfolding refused_step
    stands_still zero = ap (swap_times (swaps 0)) (opens w opened).1 ∙ swaps_still (swaps 0) 0 (omega arith)
    stands_still (suc k) =
        ap (λ (y : WalkState). swap_times (swaps (suc k)) (step_on y).state) (stands_still k)
        ∙ ap (λ (a : StepAnswer). swap_times (swaps (suc k)) a.state) (step_still (waits_at swaps k) (waits_bit swaps k))
        ∙ swaps_still (swaps (suc k)) (waits_at swaps k) (waits_bit swaps k)

    pub walk_refused : (k : ℕ) → ((answer_at w swaps k).ceiling ≡ one_call w) × ((answer_at w swaps k).over ≡ false)
    unfolding refused_step ceiling_of
    walk_refused k =
        let e = ap step_on (stands_still k) ∙ step_still (waits_at swaps k) (waits_bit swaps k) in
        (ap (λ (a : StepAnswer). a.ceiling) e ∙ rw refused, ap (λ (a : StepAnswer). a.over) e)
