-- `report::overlap_rows` meets its contract: record after record, its pairs are offered.
use Rattle.std.proofs.Common.{◌+◌, ◌≤◌, length, ap, arith, length-append}
use Rattle.lists.specs.From.{from, from_step, from_end}
use Rattle.lists.specs.Pour.{pouring_none, pouring_more, pouring_done}
use Rattle.table.specs.Table.{table_of}
use Rattle.report.specs.Report.{pair_rows_at, overlap_rows}
use Rattle.report.specs.Turns.{overlaps_all}
use Rattle.report.proofs.overlap_rows.Goals as goal

pub loop-i-init : goal.loop-i-init
loop-i-init c =
    let g = c.of-g.result in
    pouring_none _ _ _ _ _ (overlaps_all g.image.now g.table g.count g.below g.counted)

pub pair_rows-n-requires : goal.pair_rows-n-requires
pair_rows-n-requires c =
    let g = c.of-g.result in
    let pairs = pair_rows_at (table_of g.image.now) g.table in
    let few : c.args.before + length (overlap_rows (table_of g.image.now) g.table) ≤ 4294967296 = rw (c.of-g.ensures.0, c.of-g.ensures.1) c.requires.1 in
    let i = c.loop-i.i in (
      c.loop-i-test.true,
      omega (
        arith,
        c.loop-i.invariant.counted,
        ap length (from_step g.count i pairs c.loop-i-test.true),
        length-append (pairs i) (from g.count pairs (i + 1)),
        few,
      ),
    )

pub loop-i-preserved : goal.loop-i-preserved
loop-i-preserved c =
    let g = c.of-g.result in
    pouring_more _ _ _ _ _ _ _ _ _ _ _ c.loop-i.invariant (from_step g.count c.loop-i.i (pair_rows_at (table_of g.image.now) g.table) c.loop-i-test.true)
    c.pair_rows-n.ensures

pub returns : goal.returns
returns c = rw (← c.of-g.ensures.0, ← c.of-g.ensures.1) (pouring_done _ _ _ _ _ _ _ c.loop-i.invariant (from_end _ _ _ c.loop-i-test.false))
