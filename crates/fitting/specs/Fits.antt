-- No number of an answer is cut at the boundary: a rung is below 256, a dial list has at most 256 * 256 * 256 + 256 rows, and the place of
-- a refusal has a table below 9 and a record below 256.
use Rattle.std.specs.Prelude.{ℕ, zero, suc, ◌/◌, ◌%◌, ◌<◌, ◌≤◌, Bool, true, false, not, cond, ◌||◌, List, [], ◌∷◌, ◌≡◌, refl, eqb, ltb, length, Float}
use Rattle.std.specs.Prelude.{Option, Some, None, Ok, Err}
use Rattle.codes.specs.declared.Refusal.TheVariants as refusal
use Rattle.codes.specs.declared.Refusal.{Refusal}
use Rattle.codes.specs.Refusal.{Checked, test, refusal_of}
use Rattle.std.proofs.Common.{true≢false, sym, subst, arith, ltb-false}
use Rattle.std.proofs.Math.Path.{ap}
use Rattle.codes.specs.Read.{direction_valid, direction_of}
use Rattle.codes.specs.Laws.{refusal_both, none_fails}
use Rattle.codes.specs.declared.Sideband.{Sideband}
use Rattle.codes.specs.declared.LicenseClass.{LicenseClass}
use Rattle.codes.specs.declared.ControlMode.{ControlMode}
use Rattle.codes.specs.declared.Direction.{Direction}
use Rattle.occupancy.specs.declared.Edges.{Edges}
use Rattle.station.specs.Station.{under_rules, situation_of}
use Rattle.station.specs.declared.StationRecord.{StationRecord}
use Rattle.station.specs.declared.Situation.{Situation}
use Rattle.layout.specs.Form.{Whole}
use Rattle.layout.specs.Layout.{general_of, count_of}
use Rattle.table.specs.Table.{table_of}
use Rattle.table.specs.Parts.{channels_of}
use Rattle.fault.specs.Fault.{fault_of}
use Rattle.fault.specs.Laws.{named}
use Rattle.entry.specs.Entry.{entry_tests, entry_of, edges_valid, edges_read}
use Rattle.entry.specs.Laws.{entry_whole}
use Rattle.rows.specs.declared.SafeDial.{SafeDial}
use Rattle.dial_rows.specs.Dials.{rows_of}
use Rattle.dial_rows.specs.Laws.{gathered_few}
use Rattle.dial_rows.specs.declared.Request.{Request}
use Rattle.dials.specs.List.{rows_with_sideband, rows_with_license, rows_with_control, known_rows, situation_rows, list_rows, lent_tests, list_tests, answer_of}
use Rattle.ceiling.specs.Ceiling.{judge_by, climbed, ceiling_unless_refused, ceiling_of}
use Rattle.rungs.specs.Rungs.{burst_of, any_unmarked, bad_rungs, rung_tests, ceiling_tests}
use Rattle.ceiling.specs.Run.{rung_below, ceiling_run}
use Rattle.flat.specs.Fits.{RungFits}
use Rattle.flat_answers.specs.Fits.{most_rows, Counted, FaultFits}

-- ---- the rows of a list

rows_few : (l : List ℕ) → Whole l → (q : Request) → length (rows_of (table_of l) q) ≤ most_rows
unfolding rows_of
rows_few l w q = gathered_few l w q (channels_of (general_of l))

sideband_few : (x : Option Sideband) (f : Sideband → List SafeDial) (k : ℕ) → ((s : Sideband) → length (f s) ≤ k) → length (rows_with_sideband x f) ≤ k
sideband_few (Some s) f k h = h s
sideband_few None f k h = omega arith

license_few : (x : Option LicenseClass) (f : LicenseClass → List SafeDial) (k : ℕ) → ((c : LicenseClass) → length (f c) ≤ k) → length (rows_with_license x f) ≤ k
license_few (Some c) f k h = h c
license_few None f k h = omega arith

control_few : (x : Option ControlMode) (f : ControlMode → List SafeDial) (k : ℕ) → ((m : ControlMode) → length (f m) ≤ k) → length (rows_with_control x f) ≤ k
control_few (Some m) f k h = h m
control_few None f k h = omega arith

situation_few : (l : List ℕ) → Whole l → (s : Situation) (d : Direction) (e : Edges) → length (situation_rows (table_of l) s d e) ≤ most_rows
unfolding situation_rows
situation_few l w s d e =
    sideband_few s.sideband
    (λ sideband. rows_with_license s.license (λ license. rows_with_control s.control (λ control. known_rows (table_of l) s d e sideband license control)))
    most_rows
    (λ sideband. license_few s.license (λ license. rows_with_control s.control (λ control. known_rows (table_of l) s d e sideband license control)) most_rows
    (λ license. control_few s.control (λ control. known_rows (table_of l) s d e sideband license control) most_rows (λ control. rows_few l w _)))

-- A list that was not refused for its station or its image has no more rows than that.
list_few :
    (r : StationRecord) (direction : ℕ) (e : Edges) (l : List ℕ) → entry_of r (direction_valid direction) l ≡ Ok tt
    → length (list_rows r direction e l) ≤ most_rows
unfolding list_rows
list_few r direction e l h = go (under_rules r) (λ u. entry_whole r (direction_valid direction) l h u)
  where
    go :
        (b : Bool) → (b ≡ true → Whole l)
        → length (cond b (situation_rows (table_of l) (situation_of r) (direction_of direction) (edges_read e)) []) ≤ most_rows
    go true w = situation_few l (w refl) (situation_of r) (direction_of direction) (edges_read e)
    go false w = omega arith

answer_counted : (c : Checked) (xs : List SafeDial) → (c ≡ Ok tt → length xs ≤ most_rows) → Counted (answer_of c xs)
answer_counted (Ok tt) xs h n e =
    let m = length xs in
    let s : m ≤ most_rows = h refl in
    let q : m ≡ n = cc in omega arith
answer_counted (Err m) xs h n e = let z : ◌≡◌ {A = ℕ} 0 1 = cc in omega arith

pub list_counted :
    (r : StationRecord) (direction : ℕ) (e : Edges) (l lent : List ℕ)
    → Counted (answer_of (refusal_of (list_tests r direction e l lent)) (list_rows r direction e l))
unfolding entry_of
list_counted r direction e l lent =
    answer_counted (refusal_of (list_tests r direction e l lent)) (list_rows r direction e l)
    (λ h. list_few r direction e l
    (refusal_both (entry_tests r (direction_valid direction) l) (test refusal.SignalEdge (not (edges_valid e)) ∷ lent_tests (list_rows r direction e l) lent) h).0)

-- ---- the rung of a ceiling

-- Accepted, a call has at most 256 rungs.
few_rungs : (rungs : List Float) (floors : List ℕ) → bad_rungs rungs floors ≡ false → length rungs / 4 ≤ 256
unfolding bad_rungs
few_rungs rungs floors e =
    ltb-false _ _ (go (eqb (length rungs % 4) 0) (ltb 256 (length rungs / 4)) (not (eqb (length floors) (length rungs / 4)) || any_unmarked floors) e)
  where
    go : (a b c : Bool) → not a || (b || c) ≡ false → b ≡ false
    go false b c q = absurd (true≢false q)
    go true true c q = absurd (true≢false q)
    go true false c q = refl

below_fits : (j : ℕ) → j ≤ 256 → RungFits (rung_below j)
below_fits zero h i e = let z : ◌≡◌ {A = ℕ} 0 1 = cc in omega arith
below_fits (suc k) h i e = let q : k ≡ i = cc in omega arith

pub absent_fits : (k : Option ℕ) → k ≡ None → RungFits k
absent_fits k a i e = let z : ◌≡◌ {A = ℕ} 0 1 = cc in omega arith

module _ (r : StationRecord) (direction : ℕ) (ordinary floor : Edges) (l : List ℕ) (rungs : List Float) (floors : List ℕ) where
  refused_none : (n : Refusal) → refusal_of (ceiling_tests r direction ordinary floor l rungs floors) ≡ Err n
      → (ceiling_of r direction ordinary floor l rungs floors).rung ≡ None
  unfolding ceiling_of
  refused_none n e =
      ap
      (λ (x : Checked). (ceiling_unless_refused x (climbed (judge_by (table_of l) (situation_of r) (direction_of direction))
      (burst_of (edges_read ordinary) (edges_read floor) rungs floors) (length rungs / 4))).rung)
      e

  accepted_few : refusal_of (ceiling_tests r direction ordinary floor l rungs floors) ≡ Ok tt → length rungs / 4 ≤ 256
  accepted_few e =
      let n = none_fails (rung_tests ordinary floor rungs floors)
      (refusal_both (entry_tests r (direction_valid direction) l) (rung_tests ordinary floor rungs floors) e).1 in
      few_rungs rungs floors n.1.0

  pub ceiling_fits : RungFits (ceiling_of r direction ordinary floor l rungs floors).rung
  ceiling_fits = go (refusal_of (ceiling_tests r direction ordinary floor l rungs floors)) refl
    where
      go : (x : Checked) → refusal_of (ceiling_tests r direction ordinary floor l rungs floors) ≡ x
          → RungFits (ceiling_of r direction ordinary floor l rungs floors).rung
      go (Err n) e = absent_fits (ceiling_of r direction ordinary floor l rungs floors).rung (refused_none n e)
      go (Ok tt) e =
          let run = ceiling_run r direction ordinary floor l rungs floors e in
          let j = run.0 in
          let w : j ≤ length rungs / 4 = run.1.within in
          let m : length rungs / 4 ≤ 256 = accepted_few e in
          subst RungFits (sym run.1.fastest) (below_fits j (omega arith))

-- ---- the place of a refusal

pub fault_fits : (l : List ℕ) → FaultFits (fault_of l).fault
fault_fits l t i e =
    let n = named l t i e in
    let few : count_of l t ≤ 256 = n.0.few t n.1 in
    let below : i < count_of l t = n.2 in
    (n.1, omega arith)
