use Rattle.std.specs.Prelude.{◌≡◌, ◌<◌, ℕ, Bool}
use Rattle.scan.specs.Laws.{Passed}
use Rattle.image.proofs.Source.some_of.Given as goal

-- no record before i passed, whatever test of the index the closure answers by
abbrev pub invariant-loop-i : goal.invariant-loop-i
invariant-loop-i g l =
    let table = g.Self.Source.table l.self in
    (p : ℕ → Bool) → ((i : ℕ) (b : Bool) → i < table.count l.t → goal.F-post g l.test (table.at l.t i) b → b ≡ p i) → Passed p (table.count l.t) l.i
