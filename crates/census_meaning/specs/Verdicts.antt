-- "each is the number of dials in that stretch whose code is that one": the code that a dial is counted under is the one that the call
-- `evaluate` gives with that dial as the record's own.
use Rattle.std.specs.Prelude.{ℕ, zero, suc, ◌+◌, ◌-◌, ◌<◌, ◌≤◌, Bool, true, cond, List, ◌≡◌, Float, ℤ, pos, negsuc, nat_abs, ◌+ℤ◌, Option, Some, Ok}
use Rattle.codes.specs.Refusal.{Checked, refusal_of}
use Rattle.std.proofs.Math.Path.{refl}
use Rattle.std.proofs.Common.{sym, ap, ◌∙◌, arith, lt-ltb, le-ltb}
use Rattle.std.proofs.Math.Decide.{dec_lt}
use Rattle.std.proofs.Math.IntN.{pos-ne-negsuc}
use Rattle.figures.specs.Figure.{limit40, in_size, read_hz}
use Rattle.codes.specs.Read.{kind_of, direction_of, policy_of}
use Rattle.codes.specs.declared.Policy.{Policy}
use Rattle.codes.specs.declared.Policy.TheVariants.{Unset, NoProfile as NoneApply, Rules, Broken}
use Rattle.codes.specs.declared.EmissionKind.{EmissionKind}
use Rattle.codes.specs.declared.Direction.{Direction}
use Rattle.occupancy.specs.declared.Edges.{Edges}
use Rattle.station.specs.Station.{codes_valid, figures_valid, situation_of}
use Rattle.station.specs.declared.StationRecord.{StationRecord}
use Rattle.table.specs.Table.{Table, table_of}
use Rattle.entry.specs.Entry.{edges_read}
use Rattle.decision.specs.Number.{code_number}
use Rattle.decision.specs.declared.Decision.{Decision}
use Rattle.verdict.specs.Verdict.{case_of, ready_of, under_rules_of, unruled_of, decide_of, evaluate_tests, unless_refused, evaluate_of}
use Rattle.census.specs.declared.Census.{Census}
use Rattle.census.specs.Census.{farthest, dial_at, dials_of, code_at, counts_of, dialled, undialled, census_tests, census_of}
use Rattle.census.specs.Lifted.{stretch_accepted}
use Rattle.census.specs.Signed.{one_up}
use Rattle.census.specs.Front.{census_counted, front_verdict, front_stretch}
use Rattle.census_meaning.specs.Split.{counts_same, behind}
use Rattle.census_meaning.specs.Whole.{whole_in_size, whole_read}

module _ (r : StationRecord) (hz : Float) where
  -- the tests of a record with a dial in size are those of one without
  tests_same : (kind direction : ℕ) (e : Edges) (l : List ℕ) → in_size limit40 hz ≡ true
      → evaluate_tests (dialled 1 hz r) kind direction e l ≡ evaluate_tests (undialled r) kind direction e l
  unfolding codes_valid figures_valid dialled
  tests_same kind direction e l h = rw h refl

  -- the dial of a record is not looked at where another is given
  decide_same : (table : Table) (policy : Policy) (dial : Option Float) (kind : EmissionKind) (direction : Direction) (e : Edges)
      → decide_of table (situation_of (dialled 1 hz r)) policy dial kind direction e ≡ decide_of table (situation_of r) policy dial kind direction e
  unfolding situation_of dialled decide_of unruled_of under_rules_of ready_of case_of
  decide_same table Unset dial kind direction e = refl
  decide_same table NoneApply dial kind direction e = refl
  decide_same table Rules dial kind direction e = refl
  decide_same table Broken dial kind direction e = refl

-- the verdict of a record with a dial
pub verdict_there : (r : StationRecord) (kind direction : ℕ) (e : Edges) (l : List ℕ) (hz : Float)
    → refusal_of (evaluate_tests (undialled r) kind direction e l) ≡ Ok tt → in_size limit40 hz ≡ true → read_hz hz ≡ hz
    → code_number (evaluate_of (dialled 1 hz r) kind direction e l).code
    ≡ code_at (table_of l) (situation_of r) (kind_of kind) (direction_of direction) (edges_read e) hz
unfolding evaluate_of code_at situation_of dialled
verdict_there r kind direction e l hz a s q =
    let p = policy_of r.policy in
    let d = decide_of (table_of l) (situation_of (dialled 1 hz r)) p (Some (read_hz hz)) (kind_of kind) (direction_of direction) (edges_read e) in
    ap (λ (x : Checked). code_number (unless_refused x d).code) (ap refusal_of (tests_same r hz kind direction e l s) ∙ a)
    ∙ ap (λ (x : Decision). code_number x.code)
    (decide_same r hz (table_of l) p (Some (read_hz hz)) (kind_of kind) (direction_of direction) (edges_read e)
    ∙ ap (λ (x : Float). decide_of (table_of l) (situation_of r) p (Some x) (kind_of kind) (direction_of direction) (edges_read e)) q)

-- ---- every dial of a stretch lies between its ends

back_one : (z : ℤ) (c : ℕ) → z +ℤ pos 1 ≡ pos (suc c) → nat_abs z ≡ c
back_one (pos d) c e = let n : d + 1 ≡ suc c = ap nat_abs e in omega arith
back_one (negsuc zero) c e = let n : 0 ≡ suc c = ap nat_abs (sym (one_up zero) ∙ e) in absurd (omega arith)
back_one (negsuc (suc d)) c e = absurd (pos-ne-negsuc (suc c) d (sym (sym (one_up (suc d)) ∙ e)))

near : (first last : ℤ) (n k : ℕ) → nat_abs first ≤ farthest → nat_abs last ≤ farthest → k < n → first +ℤ pos n ≡ last +ℤ pos 1
    → nat_abs (first +ℤ pos k) ≤ farthest
near (pos a) last n k f g h e =
    let c = a + n - 1 in
    let s : a + n ≡ suc c = omega arith in
    let m : nat_abs last ≡ c = back_one last c (sym e ∙ ap pos s) in
    omega arith
near (negsuc a) last n k f g h e = go (dec_lt k (suc a))
  where
    go : Dec (k < suc a) → nat_abs (negsuc a +ℤ pos k) ≤ farthest
    go (yes q) =
        let t : nat_abs (negsuc a +ℤ pos k) ≡ suc (suc a - suc k) =
        ap (λ (b : Bool). nat_abs (cond b (negsuc (suc a - suc k)) (pos (k - suc a)))) (lt-ltb k (suc a) q) in
        omega (arith, t, f)
    go (no q) =
        let t : nat_abs (negsuc a +ℤ pos k) ≡ k - suc a =
        ap (λ (b : Bool). nat_abs (cond b (negsuc (suc a - suc k)) (pos (k - suc a)))) (le-ltb k (suc a) (omega arith)) in
        let u : negsuc a +ℤ pos n ≡ pos (n - suc a) =
        ap (λ (b : Bool). cond b (negsuc (suc a - suc n)) (pos (n - suc a))) (le-ltb n (suc a) (omega arith)) in
        let c = n - suc a - 1 in
        let s : n - suc a ≡ suc c = omega arith in
        let m : nat_abs last ≡ c = back_one last c (sym e ∙ u ∙ ap pos s) in
        omega (arith, t, m, g)

module _ (r : StationRecord) (kind direction : ℕ) (e : Edges) (l : List ℕ) (first last : ℤ)
    (accepted : refusal_of (census_tests r kind direction e l first last) ≡ Ok tt) where
  -- dial k is counted under the code of the verdict there
  pub verdict_counted : (k : ℕ) → k < dials_of first last
      → code_number (evaluate_of (dialled 1 (dial_at first k) r) kind direction e l).code
      ≡ code_at (table_of l) (situation_of r) (kind_of kind) (direction_of direction) (edges_read e) (dial_at first k)
  verdict_counted k h =
      let s = stretch_accepted first last (front_stretch r kind direction e l first last accepted) in
      let z = near first last (dials_of first last) k s.low s.high h (behind first last s.some) in
      verdict_there r kind direction e l (dial_at first k) (front_verdict r kind direction e l first last accepted)
      (whole_in_size (first +ℤ pos k) z) (whole_read (first +ℤ pos k) z)

  -- so the counts are those of the verdicts' codes
  pub census_verdicts : (census_of r kind direction e l first last).counts
      ≡ counts_of (λ k. code_number (evaluate_of (dialled 1 (dial_at first k) r) kind direction e l).code) (dials_of first last)
  census_verdicts =
      sym (ap (λ (c : Census). c.counts) (census_counted r kind direction e l first last accepted))
      ∙ counts_same _ _ (dials_of first last) (λ k h. sym (verdict_counted k h))
