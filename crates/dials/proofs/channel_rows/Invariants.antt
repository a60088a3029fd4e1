-- What the channels from the one that the search has come to on add is what is left.
use Rattle.std.specs.Prelude.{Some, length}
use Rattle.table.specs.Table.{table_of}
use Rattle.rows.specs.Pour.{Pouring}
use Rattle.dial_rows.specs.Dials.{band_rows}
use Rattle.dial_rows.specs.Next.{channels_from}
use Rattle.dials.proofs.channel_rows.Given as goal

abbrev pub invariant-loop-x : goal.invariant-loop-x
invariant-loop-x l =
    Pouring l.initial.rows l.before (band_rows (table_of l.search.image.now) l.search.request (Some l.c)) l.rows l.count (channels_from (table_of l.search.image.now) l.search.request l.c l.search.places.channel_count l.from)

abbrev pub decreases-loop-x : goal.decreases-loop-x
decreases-loop-x l = length (channels_from (table_of l.search.image.now) l.search.request l.c l.search.places.channel_count l.from)
