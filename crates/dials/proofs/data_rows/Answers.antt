-- `dials::data_rows` meets its contract: what segment i adds comes off what is left.
use Rattle.std.proofs.Common.{sym, ap, ◌∙◌, Option, ◌+◌}
use Rattle.std.specs.Prelude.{Float}
use Rattle.lists.specs.From.{from, from_step}
use Rattle.table.specs.Table.{table_of}
use Rattle.rows.specs.Pour.{pouring_more}
use Rattle.nearest_rows.specs.Over.{nearest_over}
use Rattle.nearest_rows.specs.Laws.{over_append}
use Rattle.dial_rows.specs.Dials.{segment_rows_at}
use Rattle.dial_rows.specs.Next.{segment_read}
use Rattle.dials.proofs.data_rows.Goals as goal

pub loop-i-preserved : goal.loop-i-preserved
loop-i-preserved c =
    let a = c.args in
    let f = segment_rows_at (table_of a.search.now.image.now) a.search.now.request in
    let over = nearest_over a.h.dial_hz a.h.flags a.h.channel_band in
    let here = segment_read _ _ _ a.search.now.known c.loop-i.i c.loop-i-test.true c.record_at-r.result c.record_at-r.ensures in
    let step = from_step a.search.now.places.segment_count c.loop-i.i f c.loop-i-test.true in (
      pouring_more _ _ _ _ _ _ _ _ _ _ c.loop-i.invariant.0 step (rw here at c.segment_rows-t.ensures.0),
      ap (λ (x : Option Float). over x (from a.search.now.places.segment_count f (c.loop-i.i + 1))) (c.segment_rows-t.ensures.1 ∙ ap (over c.loop-i.t.best) here)
          ∙ sym (over_append a.h.dial_hz a.h.flags a.h.channel_band (f c.loop-i.i) (from a.search.now.places.segment_count f (c.loop-i.i + 1)) c.loop-i.t.best)
          ∙ sym (ap (over c.loop-i.t.best) step) ∙ c.loop-i.invariant.1,
    )
