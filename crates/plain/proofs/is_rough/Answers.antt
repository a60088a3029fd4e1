-- `plain::is_rough` equals its definition: the loop's invariant is that table t begins at start and no table before it has a rough record.
use mathlib.Core.Path.{◌≡◌, sym, ◌∙◌, subst}
use native.Mathlib.Omega.{arith}
use Rattle.layout.specs.Layout.{records_before}
use Rattle.layout.specs.Laws.{records_more, table_within}
use Rattle.layout.specs.Form.{Whole}
use Rattle.scan.specs.Laws.{passed_none, passed_step, some_here, some_none}
use Rattle.plain.specs.Plain.{rough_in, is_rough}
use Rattle.plain.proofs.is_rough.Goals as goal

pub loop-t-init : goal.loop-t-init
unfolding records_before
loop-t-init c = (omega (arith, c.tables_from-start.ensures.gives), passed_none _ _)

pub invariant_of-run : goal.invariant_of-run
invariant_of-run c =
    let whole : Whole c.args.s.now = subst Whole c.s.view_is c.s.invariant.0 in
    let within = table_within c.args.s.now whole c.loop-t.t c.loop-t-test.true in
    rw c.s.view_is (omega (arith, within, c.count_of-count.ensures.gives, c.loop-t.invariant.0))

pub returns-then-is_rough : goal.returns-then-is_rough
unfolding is_rough
returns-then-is_rough c =
    let asked : (c.is_rough.result
    ≡ rough_in c.args.s.now c.loop-t.t) = (rw c.is_rough.ensures (rw c.s.view_is (rw c.count_of-count.ensures.gives (rw c.loop-t.invariant.0)))) in
    some_here _ _ _ c.loop-t-test.true
    c.loop-t.invariant.1 (sym (asked) ∙ c.if-is_rough.true)

pub overflow_add-start : goal.overflow_add-start
overflow_add-start c =
    let whole : Whole c.args.s.now = subst Whole c.s.view_is c.s.invariant.0 in
    let within = table_within c.args.s.now whole c.loop-t.t c.loop-t-test.true in
    omega (
      arith,
      within,
      c.count_of-count.ensures.gives,
      c.loop-t.invariant.0,
      whole.small,
    )

pub loop-t-preserved : goal.loop-t-preserved
loop-t-preserved c =
    let asked : (c.is_rough.result
    ≡ rough_in c.args.s.now c.loop-t.t) = (rw c.is_rough.ensures (rw c.s.view_is (rw c.count_of-count.ensures.gives (rw c.loop-t.invariant.0)))) in (
      omega (
        arith,
        c.count_of-count.ensures.gives,
        c.loop-t.invariant.0,
        records_more c.args.s.now c.loop-t.t,
      ),
      passed_step _ _ _ c.loop-t-test.true c.loop-t.invariant.1 (sym (asked) ∙ c.if-is_rough.false),
    )

pub returns : goal.returns
unfolding is_rough
returns c = some_none _ _ _ c.loop-t-test.false c.loop-t.invariant.1
