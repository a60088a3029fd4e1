-- What the rows from the place that the search has come to on add is what is left.
use Rattle.std.specs.Prelude.{◌≡◌, length}
use Rattle.table.specs.Table.{table_of}
use Rattle.table.specs.Parts.{segment_of}
use Rattle.rows.specs.Pour.{Pouring}
use Rattle.nearest_rows.specs.Over.{nearest_over}
use Rattle.dial_rows.specs.Dials.{privileges_rows}
use Rattle.dial_rows.specs.Next.{privileges_from}
use Rattle.dials.proofs.privileges_rows.Given as goal

abbrev pub invariant-loop-x : goal.invariant-loop-x
invariant-loop-x l =
    Pouring l.initial.rows l.initial.count (privileges_rows (table_of l.search.image.now) l.search.request (segment_of l.r)) l.rows l.count (privileges_from (table_of l.search.image.now) l.search.request (segment_of l.r) l.spot)
    × (nearest_over l.h.dial_hz l.h.flags l.h.channel_band l.best (privileges_from (table_of l.search.image.now) l.search.request (segment_of l.r) l.spot)
    ≡ nearest_over l.h.dial_hz l.h.flags l.h.channel_band l.initial.best (privileges_rows (table_of l.search.image.now) l.search.request (segment_of l.r)))

abbrev pub decreases-loop-x : goal.decreases-loop-x
decreases-loop-x l = length (privileges_from (table_of l.search.image.now) l.search.request (segment_of l.r) l.spot)
