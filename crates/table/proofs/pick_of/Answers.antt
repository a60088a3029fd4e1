use native.Mathlib.Omega.{arith}
use Rattle.std.proofs.Math.Path.{sym}
use Rattle.std.proofs.Common.{◌∙◌, subst}
use Rattle.std.specs.Prelude.{◌≡◌, ◌<◌}
use Rattle.layout.specs.Layout.{count_of}
use Rattle.layout.specs.declared.Record.{Record}
use Rattle.scan.specs.Laws.{passed_none, passed_step, found_here, found_none}
use Rattle.table.specs.Table.{count_in, record_in}
use Rattle.table.specs.Laws.{count_in_holds, read_in}
use Rattle.table.proofs.pick_of.Goals as goal

pub loop-i-init : goal.loop-i-init
loop-i-init g c p h = passed_none _ _

pub overflow_add-start : goal.overflow_add-start
overflow_add-start g c = omega (arith)

pub record_at-r-requires : goal.record_at-r-requires
record_at-r-requires g c = omega (arith)

pub test-requires : goal.test-requires
test-requires g c =
    let below : c.loop-i.i < count_of c.args.s.now c.args.t = omega (arith, c.count_of-count.ensures.gives, c.loop-i-test.true) in
    let same : c.record_at-r.result ≡ record_in c.args.s.now c.args.t c.loop-i.i = read_in c.args.s.now c.args.t _ _ _ c.requires.lies below c.start_of-start.ensures.gives c.record_at-r.ensures in
    rw same (c.requires.can _ (rw (count_in_holds c.args.s.now c.args.t c.requires.lies) below))

pub returns-then-test : goal.returns-then-test
returns-then-test g c p h =
    let below : c.loop-i.i < count_of c.args.s.now c.args.t = omega (arith, c.count_of-count.ensures.gives, c.loop-i-test.true) in
    let same : c.record_at-r.result ≡ record_in c.args.s.now c.args.t c.loop-i.i = read_in c.args.s.now c.args.t _ _ _ c.requires.lies below c.start_of-start.ensures.gives c.record_at-r.ensures in
    let inside : c.loop-i.i < count_in c.args.s.now c.args.t = rw (count_in_holds c.args.s.now c.args.t c.requires.lies) below in
    let found = found_here _ _ _ inside (c.loop-i.invariant p h) (sym (h _ _ inside (subst (λ (r : Record). goal.F-post g c.args.test r c.test.result) same c.test.ensures)) ∙ c.if-test.true) in
    rw (← found) (rw (← same))

pub loop-i-preserved : goal.loop-i-preserved
loop-i-preserved g c p h =
    let below : c.loop-i.i < count_of c.args.s.now c.args.t = omega (arith, c.count_of-count.ensures.gives, c.loop-i-test.true) in
    let same : c.record_at-r.result ≡ record_in c.args.s.now c.args.t c.loop-i.i = read_in c.args.s.now c.args.t _ _ _ c.requires.lies below c.start_of-start.ensures.gives c.record_at-r.ensures in
    let inside : c.loop-i.i < count_in c.args.s.now c.args.t = rw (count_in_holds c.args.s.now c.args.t c.requires.lies) below in
    passed_step _ _ _ inside (c.loop-i.invariant p h)
    (sym (h _ _ inside (subst (λ (r : Record). goal.F-post g c.args.test r c.test.result) same c.test.ensures)) ∙ c.if-test.false)

pub returns : goal.returns
returns g c p h = rw (← found_none _ _ _ (rw (count_in_holds c.args.s.now c.args.t c.requires.lies) (omega (arith, c.count_of-count.ensures.gives, c.loop-i-test.false))) (c.loop-i.invariant p h))
