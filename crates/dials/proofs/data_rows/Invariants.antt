-- What the segments from the one that the loop has come to on add is what is left.
use Rattle.std.specs.Prelude.{None, ◌≡◌}
use Rattle.lists.specs.From.{from}
use Rattle.table.specs.Table.{table_of}
use Rattle.rows.specs.Pour.{Pouring}
use Rattle.nearest_rows.specs.Over.{nearest_over}
use Rattle.dial_rows.specs.Dials.{segment_rows_at, data_rows}
use Rattle.dials.proofs.data_rows.Given as goal

abbrev pub invariant-loop-i : goal.invariant-loop-i
invariant-loop-i l =
    Pouring l.initial.rows 0 (data_rows (table_of l.search.image.now) l.search.request) l.rows l.t.count (from l.search.places.segment_count (segment_rows_at (table_of l.search.image.now) l.search.request) l.i)
    × (nearest_over l.h.dial_hz l.h.flags l.h.channel_band l.t.best (from l.search.places.segment_count (segment_rows_at (table_of l.search.image.now) l.search.request) l.i)
    ≡ nearest_over l.h.dial_hz l.h.flags l.h.channel_band None (data_rows (table_of l.search.image.now) l.search.request))
