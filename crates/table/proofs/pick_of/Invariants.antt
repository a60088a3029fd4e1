use Rattle.std.specs.Prelude.{◌≡◌, ℕ, Bool, ◌<◌}
use Rattle.scan.specs.Laws.{Passed}
use Rattle.table.specs.Table.{count_in, record_in}
use Rattle.table.proofs.pick_of.Given as goal

-- no record before i passed, whatever test of the index the closure answers by
abbrev pub invariant-loop-i : goal.invariant-loop-i
invariant-loop-i g l =
    (p : ℕ → Bool)
    → ((i : ℕ) (b : Bool) → i < count_in l.s l.t → goal.F-post g l.test (record_in l.s l.t i) b → b ≡ p i)
    → Passed p (count_in l.s l.t) l.i
