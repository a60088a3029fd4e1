-- What a call that is not refused is lent.
use Rattle.std.specs.Prelude.{ℕ, ◌/◌, ◌%◌, ◌≤◌, Bool, true, false, not, ◌||◌, List, ◌≡◌, refl, eqb, ltb, length, Float, Ok}
use Rattle.std.proofs.Common.{true≢false, eqb-true, ltb-false}
use Rattle.codes.specs.Read.{direction_valid}
use Rattle.codes.specs.Refusal.{refusal_of}
use Rattle.codes.specs.Laws.{refusal_both, none_fails}
use Rattle.station.specs.declared.StationRecord.{StationRecord}
use Rattle.entry.specs.Entry.{entry_tests}
use Rattle.occupancy.specs.declared.Edges.{Edges}
use Rattle.rungs.specs.Rungs.{any_unmarked, bad_rungs, rung_tests, ceiling_tests}

-- Accepted, a call has one floor byte for each rung.
one_each : (rungs : List Float) (floors : List ℕ) → bad_rungs rungs floors ≡ false → length floors ≡ length rungs / 4
unfolding bad_rungs
one_each rungs floors e =
    eqb-true _ _ (go (eqb (length rungs % 4) 0) (ltb 256 (length rungs / 4)) (eqb (length floors) (length rungs / 4)) (any_unmarked floors) e)
  where
    go : (a b c d : Bool) → not a || (b || (not c || d)) ≡ false → c ≡ true
    go false b c d q = absurd (true≢false q)
    go true true c d q = absurd (true≢false q)
    go true false false d q = absurd (true≢false q)
    go true false true d q = refl

-- And at most 256 of them.
few : (rungs : List Float) (floors : List ℕ) → bad_rungs rungs floors ≡ false → length rungs / 4 ≤ 256
unfolding bad_rungs
few rungs floors e =
    ltb-false 256 (length rungs / 4)
    (go (eqb (length rungs % 4) 0) (ltb 256 (length rungs / 4)) (not (eqb (length floors) (length rungs / 4)) || any_unmarked floors) e)
  where
    go : (a b c : Bool) → not a || (b || c) ≡ false → b ≡ false
    go false b c q = absurd (true≢false q)
    go true true c q = absurd (true≢false q)
    go true false c q = refl

module _
    (r : StationRecord) (direction : ℕ) (ordinary floor : Edges) (l : List ℕ) (rungs : List Float) (floors : List ℕ)
    (e : refusal_of (ceiling_tests r direction ordinary floor l rungs floors) ≡ Ok tt) where
  passed : bad_rungs rungs floors ≡ false
  passed =
      (none_fails (rung_tests ordinary floor rungs floors)
      (refusal_both (entry_tests r (direction_valid direction) l) (rung_tests ordinary floor rungs floors) e).1).1.0

  pub rungs_marked : length floors ≡ length rungs / 4
  rungs_marked = one_each rungs floors passed

  pub rungs_few : length rungs / 4 ≤ 256
  rungs_few = few rungs floors passed
