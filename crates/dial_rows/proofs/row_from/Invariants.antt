-- From the index that the loop has come to on, as from the first.
use Rattle.std.specs.Prelude.{ℕ, ◌<◌, List, Option, ◌≡◌}
use Rattle.lists.specs.From.{from}
use Rattle.rows.specs.declared.SafeDial.{SafeDial}
use Rattle.dial_rows.specs.Next.{rows_in}
use Rattle.dial_rows.proofs.row_from.Given as goal

abbrev pub invariant-loop-i : goal.invariant-loop-i
invariant-loop-i g l =
    (f : ℕ → List SafeDial) → ((i : ℕ) (r : Option SafeDial) → i < l.end → goal.F-post g l.row i r → rows_in r ≡ f i)
    → from l.end f l.from ≡ from l.end f l.i
