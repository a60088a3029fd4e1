use Rattle.std.specs.Prelude.{◌≡◌, ℕ, Bool, ◌<◌, ◌+◌, ◌*◌}
use Rattle.layout.specs.Layout.{record_at}
use Rattle.layout.specs.declared.Record.{Record}
use Rattle.plain.specs.Quick.{Stretch}
use Rattle.plain.proofs.Run.pass_by.Given as goal

-- the records from the first one on and before i pass, whatever test of the record the closure answers by
abbrev pub invariant-loop-i : goal.invariant-loop-i
invariant-loop-i g l =
    (p : Record → Bool)
    → ((i : ℕ) (b : Bool) → i < l.self.count → goal.F-post g l.test (l.self.start + 32 * i) b → b ≡ p (record_at l.self.bytes.now (l.self.start + 32 * i)))
    → Stretch p l.self.bytes.now l.self.start l.from l.i
