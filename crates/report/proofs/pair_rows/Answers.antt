-- `report::pair_rows` meets its contract: what the sweep finds is the next row to offer.
use Rattle.std.proofs.Common.{ap, arith, length, sym}
use Rattle.lists.specs.Pour.{pouring_step, pouring_done}
use Rattle.table.specs.Table.{table_of}
use Rattle.sweep.specs.Laws.{swept_more, swept_none}
use Rattle.report.specs.Report.{overlap_row}
use Rattle.report.specs.Turns.{pairs_all}
use Rattle.report.proofs.pair_rows.Goals as goal

pub overflow_add-from-in-Some : goal.overflow_add-from-in-Some
overflow_add-from-in-Some c = omega (arith, c.in-Some.ensures.within, c.args.g.now.few)

pub overflow_add-n : goal.overflow_add-n
overflow_add-n c =
    let g = c.args.g.now in
    let m = c.pair_members-members in
    let w = c.span_of-window in
    let next =
    swept_more ((table_of g.image.now).at g.table) m.result w.result (overlap_row g.table m.result c.args.i) g.count c.loop-j.from _ _ (sym c.in-Some.ensures.value) in
    omega (arith, c.loop-j.invariant.counted, ap length next, ap length (pairs_all g.image.now g.table g.count c.args.i _ m.result w.result g.below g.counted c.record-r.ensures m.ensures w.ensures), c.requires.1)

pub loop-j-smaller : goal.loop-j-smaller
loop-j-smaller c =
    let g = c.args.g.now in
    let m = c.pair_members-members in
    let next =
    swept_more ((table_of g.image.now).at g.table) m.result c.span_of-window.result (overlap_row g.table m.result c.args.i) g.count c.loop-j.from _ _ (sym c.in-Some.ensures.value) in
    omega (arith, ap length next)

pub loop-j-preserved : goal.loop-j-preserved
loop-j-preserved c =
    let g = c.args.g.now in
    let m = c.pair_members-members in
    let next =
    swept_more ((table_of g.image.now).at g.table) m.result c.span_of-window.result (overlap_row g.table m.result c.args.i) g.count c.loop-j.from _ _ (sym c.in-Some.ensures.value) in
    pouring_step _ _ _ _ _ _ _ _ _ _ c.loop-j.invariant next c.offer.ensures

pub returns : goal.returns
returns c =
    let g = c.args.g.now in
    let m = c.pair_members-members in
    let w = c.span_of-window in
    rw (← pairs_all g.image.now g.table g.count c.args.i _ m.result w.result g.below g.counted c.record-r.ensures m.ensures w.ensures)
    (pouring_done _ _ _ _ _ _ _ c.loop-j.invariant
    (swept_none ((table_of g.image.now).at g.table) m.result w.result (overlap_row g.table m.result c.args.i) g.count c.loop-j.from (sym c.in_default.ensures.value)))
