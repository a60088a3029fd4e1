-- "the ceiling that the rungs judged so far give": the climb over the first j rungs is what the ceiling answers where it is lent only those.
use Rattle.std.specs.Prelude.{ℕ, zero, suc, ◌+◌, ◌*◌, ◌/◌, ◌%◌, ◌<◌, ◌≤◌, Bool, ◌||◌, List, ◌≡◌, get_or, take, drop, Float, Ok}
use Rattle.std.proofs.Math.Bool.{true, false, not}
use Rattle.std.proofs.Common.{true≢false, ap, ◌∙◌, arith, le-ltb, eq-eqb, eqb-true, ltb-false, take-append-drop, length-take-le}
use Rattle.std.proofs.Math.Path.{refl, sym}
use Rattle.std.proofs.Math.Dec.{eqb, ltb}
use Rattle.std.proofs.Math.ListN.{length, get_or-append}
use Rattle.std.specs.Float.{nan}
use Rattle.codes.specs.Read.{direction_valid}
use Rattle.codes.specs.Refusal.{refusal_of}
use Rattle.codes.specs.Laws.{refusal_both, refusal_next, none_fails}
use Rattle.occupancy.specs.declared.Edges.{Edges}
use Rattle.scan.specs.Laws.{some_false, some_all}
use Rattle.station.specs.declared.StationRecord.{StationRecord}
use Rattle.entry.specs.Entry.{entry_tests, edges_valid}
use Rattle.layout.specs.Bytes.{byte_at}
use Rattle.decision.specs.declared.Decision.{Decision}
use Rattle.ceiling.specs.Ceiling.{climbed, climb_step, ceiling_unless_refused, ceiling_of}
use Rattle.rungs.specs.Rungs.{figure_at, rung_of, burst_of, unsized_at, any_unsized, bad_edges, unmarked_at, any_unmarked, bad_rungs, rung_tests, ceiling_tests}
use Rattle.ceiling.specs.Run.{judging, bursts}
use Rattle.ceiling.specs.declared.Climb.{Climb}

-- an element of the first j
taken : {A : Type 0} (d : A) (j : ℕ) (xs : List A) (i : ℕ) → i < j → j ≤ length xs → get_or (take j xs) i d ≡ get_or xs i d
taken d j xs i h k =
    let e = length-take-le j xs k in
    sym (get_or-append (take j xs) (drop j xs) d i (omega (arith, e, h)))
    ∙ ap (λ l. get_or l i d) (take-append-drop j xs)

-- bursts that agree below j give one climb over j rungs
pub climb_same : (judge : Edges → Decision) (f g : ℕ → Edges) (j : ℕ) → ((k : ℕ) → k < j → f k ≡ g k) → climbed judge f j ≡ climbed judge g j
unfolding climbed
climb_same judge f g zero h = refl
climb_same judge f g (suc j) h =
    ap (λ (c : Climb). climb_step judge c j (f j)) (climb_same judge f g j (λ k q. h k (omega (arith, q))))
    ∙ ap (climb_step judge (climbed judge g j) j) (h j (omega arith))

module _ (r : StationRecord) (direction : ℕ) (ordinary floor : Edges) (l : List ℕ) (rungs : List Float) (floors : List ℕ) (j : ℕ) where
  abbrev first_rungs : List Float
  first_rungs = take (4 * j) rungs

  abbrev first_floors : List ℕ
  first_floors = take j floors

  module _
      (accepted : refusal_of (ceiling_tests r direction ordinary floor l rungs floors) ≡ Ok tt) (within : j ≤ length rungs / 4) where
    tests : (refusal_of (entry_tests r (direction_valid direction) l) ≡ Ok tt) × (refusal_of (rung_tests ordinary floor rungs floors) ≡ Ok tt)
    tests = refusal_both (entry_tests r (direction_valid direction) l) (rung_tests ordinary floor rungs floors) accepted

    edges_fine : (any_unsized rungs ≡ false) × ((not (edges_valid ordinary) || not (edges_valid floor)) ≡ false)
    unfolding bad_edges
    edges_fine = go (any_unsized rungs) (not (edges_valid ordinary) || not (edges_valid floor)) (none_fails (rung_tests ordinary floor rungs floors) tests.1).0
      where
        go : (a b : Bool) → a || b ≡ false → (a ≡ false) × (b ≡ false)
        go true b q = absurd (true≢false q)
        go false b q = (refl, q)

    rungs_fine : (length rungs / 4 ≤ 256) × ((length floors ≡ length rungs / 4) × (any_unmarked floors ≡ false))
    unfolding bad_rungs
    rungs_fine =
        go (eqb (length rungs % 4) 0) (ltb 256 (length rungs / 4)) (eqb (length floors) (length rungs / 4)) (any_unmarked floors) refl refl refl
        (none_fails (rung_tests ordinary floor rungs floors) tests.1).1.0
      where
        go :
            (a b c d : Bool) → ltb 256 (length rungs / 4) ≡ b → eqb (length floors) (length rungs / 4) ≡ c → any_unmarked floors ≡ d
            → not a || (b || (not c || d)) ≡ false
            → (length rungs / 4 ≤ 256) × ((length floors ≡ length rungs / 4) × (any_unmarked floors ≡ false))
        go false b c d p q s e = absurd (true≢false e)
        go true true c d p q s e = absurd (true≢false e)
        go true false false d p q s e = absurd (true≢false e)
        go true false true true p q s e = absurd (true≢false e)
        go true false true false p q s e = (ltb-false 256 (length rungs / 4) p, (eqb-true (length floors) (length rungs / 4) q, s))

    rungs_length : length first_rungs ≡ 4 * j
    rungs_length = length-take-le (4 * j) rungs (omega (arith, within))

    floors_length : length first_floors ≡ j
    floors_length = length-take-le j floors (omega (arith, within, rungs_fine.1.0))

    quarter : length first_rungs / 4 ≡ j
    quarter = omega (arith, rungs_length)

    figure : (i : ℕ) → i < 4 * j → figure_at first_rungs i ≡ figure_at rungs i
    figure i h = taken nan (4 * j) rungs i h (omega (arith, within))

    floor_byte : (i : ℕ) → i < j → byte_at first_floors i ≡ byte_at floors i
    floor_byte i h = taken 0 j floors i h (omega (arith, within, rungs_fine.1.0))

    sized : any_unsized first_rungs ≡ false
    sized =
        some_all (unsized_at first_rungs) (length first_rungs)
        (λ i h. go i (omega (arith, h, rungs_length)))
      where
        go : (i : ℕ) → i < 4 * j → unsized_at first_rungs i ≡ false
        go i h = rw (figure i h) (some_false (unsized_at rungs) (length rungs) edges_fine.0 i (omega (arith, h, within)))

    marked : any_unmarked first_floors ≡ false
    marked =
        some_all (unmarked_at first_floors) (length first_floors) (λ i h. go i (omega (arith, h, floors_length)))
      where
        go : (i : ℕ) → i < j → unmarked_at first_floors i ≡ false
        go i h =
            rw (floor_byte i h) (some_false (unmarked_at floors) (length floors) rungs_fine.1.1 i (omega (arith, h, within, rungs_fine.1.0)))

    lent_well : refusal_of (rung_tests ordinary floor first_rungs first_floors) ≡ Ok tt
    unfolding bad_edges bad_rungs
    lent_well =
        let fours : length first_rungs % 4 ≡ 0 = omega (arith, rungs_length) in
        rw sized
        (rw edges_fine.1
        (rw (eq-eqb (length first_rungs % 4) 0 fours)
        (rw (le-ltb 256 (length first_rungs / 4) (omega (arith, quarter, within, rungs_fine.0)))
        (rw (eq-eqb (length first_floors) (length first_rungs / 4) (floors_length ∙ sym quarter)) (rw marked)))))

    burst_same :
        (k : ℕ) → k < j
        → bursts r direction ordinary floor l first_rungs first_floors k ≡ bursts r direction ordinary floor l rungs floors k
    unfolding burst_of rung_of
    burst_same k h =
        rw (figure (4 * k) (omega (arith, h)))
        (rw (figure (4 * k + 1) (omega (arith, h)))
        (rw (figure (4 * k + 2) (omega (arith, h)))
        (rw (figure (4 * k + 3) (omega (arith, h))) (rw (floor_byte k h)))))

    -- The ceiling of the first j rungs is that of the climb over them.
    pub ceiling_of_first :
        ceiling_of r direction ordinary floor l first_rungs first_floors
        ≡ ceiling_unless_refused (Ok tt) (climbed (judging r direction ordinary floor l rungs floors) (bursts r direction ordinary floor l rungs floors) j)
    unfolding ceiling_of
    ceiling_of_first =
        rw (refusal_next (entry_tests r (direction_valid direction) l) (rung_tests ordinary floor first_rungs first_floors) tests.0 ∙ lent_well)
        (rw quarter
        (ap (ceiling_unless_refused (Ok tt))
        (climb_same (judging r direction ordinary floor l rungs floors) (bursts r direction ordinary floor l first_rungs first_floors)
        (bursts r direction ordinary floor l rungs floors) j burst_same)))
