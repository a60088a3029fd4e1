-- From the privilege that the loop has come to on, as from the first.
use Rattle.std.specs.Prelude.{◌≡◌}
use Rattle.table.specs.Table.{table_of}
use Rattle.table.specs.Parts.{segment_of}
use Rattle.dial_rows.specs.Next.{spot_of, privileges_from}
use Rattle.dial_rows.proofs.PlacedSearch.privileges_from.Given as goal

abbrev pub invariant-loop-i : goal.invariant-loop-i
invariant-loop-i l =
    privileges_from (table_of l.self.image.now) l.self.request (segment_of l.r) (spot_of l.initial.i l.initial.from) ≡ privileges_from (table_of l.self.image.now) l.self.request (segment_of l.r) (spot_of l.i l.from)
