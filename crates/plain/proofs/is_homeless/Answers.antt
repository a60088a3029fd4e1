-- `plain::is_homeless` equals its definition: the loop's invariant is that every segment before i lies in a band.
use mathlib.Core.Path.{◌≡◌, ap}
use mathlib.Core.Bool.{false, not}
use native.Mathlib.Omega.{arith}
use Rattle.scan.specs.First.{is_at}
use Rattle.scan.specs.Laws.{passed_step, some_here, some_none}
use Rattle.table.specs.Table.{table_of}
use Rattle.find.specs.Question.{homeless_at}
use Rattle.plain.specs.Home.{held_some}
use Rattle.plain.proofs.is_homeless.Goals as goal

pub returns-in-None : goal.returns-in-None
returns-in-None c =
    let asked : (not (is_at c.home_near.result)
    ≡ homeless_at (table_of c.args.s.now) false
    c.loop-i.i) = (rw c.home_near.ensures
    (rw c.high_at.ensures
    (rw c.low_at.ensures
    (rw c.start_of-start.ensures.gives
    (ap not (held_some _ c.requires _ (omega (
      arith,
      c.count_of-count.ensures.gives,
      c.loop-i-test.true,
    )))))))) in
    rw (← c.count_of-count.ensures.gives)
    (some_here _ _ _ c.loop-i-test.true
    c.loop-i.invariant
    (rw (← asked) (rw c.in-None.is)))

pub loop-i-preserved : goal.loop-i-preserved
loop-i-preserved c =
    let asked : (not (is_at c.home_near.result)
    ≡ homeless_at (table_of c.args.s.now) false
    c.loop-i.i) = (rw c.home_near.ensures
    (rw c.high_at.ensures
    (rw c.low_at.ensures
    (rw c.start_of-start.ensures.gives
    (ap not (held_some _ c.requires _ (omega (
      arith,
      c.count_of-count.ensures.gives,
      c.loop-i-test.true,
    )))))))) in
    passed_step _ _ _ c.loop-i-test.true
    c.loop-i.invariant
    (rw (← asked) (rw c.in-Some.is))

pub returns : goal.returns
returns c = rw (← c.count_of-count.ensures.gives) (some_none _ _ _ c.loop-i-test.false c.loop-i.invariant)
