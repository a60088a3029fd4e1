use Rattle.std.specs.Prelude.{◌≡◌, ℕ, Bool, ◌<◌}
use Rattle.scan.specs.Laws.{Passed}
use Rattle.scan.proofs.first.Given as goal

-- nothing before i passed, whatever test of the index the closure answers by
abbrev pub invariant-loop-i : goal.invariant-loop-i
invariant-loop-i g l = (p : ℕ → Bool) → ((i : ℕ) (b : Bool) → i < l.count → goal.F-post g l.test i b → b ≡ p i) → Passed p l.count l.i
