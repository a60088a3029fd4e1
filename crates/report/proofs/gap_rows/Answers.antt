-- `report::gap_rows` meets its contract: segment after segment, its gaps are offered.
use Rattle.std.proofs.Common.{ℕ, List, ◌+◌, ◌≡◌, length, ap, ◌∙◌, arith, length-append}
use Rattle.lists.specs.From.{from, from_step, from_end}
use Rattle.lists.specs.Pour.{pouring_none, pouring_more, pouring_done}
use Rattle.layout.specs.Layout.{segments, privileges, count_of}
use Rattle.table.specs.Table.{table_of}
use Rattle.report.specs.Report.{gaps_at}
use Rattle.report.specs.Turns.{gaps_all, gaps_read, gaps_long}
use Rattle.report.proofs.gap_rows.Goals as goal

pub loop-i-init : goal.loop-i-init
loop-i-init c =
    let l = c.args.image.now in
    let s = c.of-s.result in
    let many : s.count ≡ count_of l segments =
    s.counted ∙ ap (λ (m : List ℕ). count_of m s.table) c.of-s.ensures.0 ∙ ap (count_of l) c.of-s.ensures.1 in
    pouring_none _ _ _ _ _ (gaps_all l s.count many _)

pub gaps_left-n-requires : goal.gaps_left-n-requires
gaps_left-n-requires c =
    let l = c.args.image.now in
    let g = c.of-g.result in
    let s = c.of-s.result in
    let gaps = gaps_at (table_of l) c.args.class in
    let i = c.loop-i.i in
    let all : g.count ≡ count_of l privileges =
    g.counted ∙ ap (λ (m : List ℕ). count_of m g.table) c.of-g.ensures.0 ∙ ap (count_of l) c.of-g.ensures.1 in
    let read = c.record.ensures ∙ ap (λ (m : List ℕ). (table_of m).at s.table i) c.of-s.ensures.0 ∙ ap (λ (t : ℕ). (table_of l).at t i) c.of-s.ensures.1 in
    rw (c.of-g.ensures.0, c.of-g.ensures.1)
    (omega (
      arith,
      c.loop-i.invariant.counted,
      gaps_long l g.count all c.args.class i _ _ read c.span_of-segment.ensures,
      ap length (from_step s.count i gaps c.loop-i-test.true),
      length-append (gaps i) (from s.count gaps (i + 1)),
      c.requires,
    ))

pub loop-i-preserved : goal.loop-i-preserved
loop-i-preserved c =
    let l = c.args.image.now in
    let g = c.of-g.result in
    let s = c.of-s.result in
    let i = c.loop-i.i in
    let all : g.count ≡ count_of l privileges =
    g.counted ∙ ap (λ (m : List ℕ). count_of m g.table) c.of-g.ensures.0 ∙ ap (count_of l) c.of-g.ensures.1 in
    let read = c.record.ensures ∙ ap (λ (m : List ℕ). (table_of m).at s.table i) c.of-s.ensures.0 ∙ ap (λ (t : ℕ). (table_of l).at t i) c.of-s.ensures.1 in
    pouring_more _ _ _ _ _ _ _ _ _ _ _ c.loop-i.invariant (from_step s.count i (gaps_at (table_of l) c.args.class) c.loop-i-test.true)
    (rw (gaps_read l g.count all c.args.class i _ _ read c.span_of-segment.ensures) at (rw c.of-g.ensures.0 at (rw c.of-g.ensures.1 at c.gaps_left-n.ensures)))

pub returns : goal.returns
returns c = pouring_done _ _ _ _ _ _ _ c.loop-i.invariant (from_end _ _ _ c.loop-i-test.false)
