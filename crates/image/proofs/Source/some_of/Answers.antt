use Rattle.std.proofs.Common.{◌<◌, arith, sym, subst, ◌∙◌}
use Rattle.scan.specs.Laws.{passed_none, passed_step, some_here, some_none}
use Rattle.layout.specs.declared.Record.{Record}
use Rattle.image.proofs.Source.some_of.Goals as goal

pub loop-i-init : goal.loop-i-init
loop-i-init g c p h = passed_none _ _

pub returns-then-test : goal.returns-then-test
returns-then-test g c p h =
    let table = g.Self.Source.table c.args.self.now in
    let inside : c.loop-i.i < table.count c.args.t = omega arith in
    some_here _ _ _ inside (c.loop-i.invariant p h)
    (sym (h _ _ inside (subst (λ (r : Record). goal.F-post g c.args.test r c.test.result) {y = (g.Self.Source.table c.args.self.now).at c.args.t c.loop-i.i} c.record_in.ensures c.test.ensures)) ∙ c.if-test.true)

pub loop-i-preserved : goal.loop-i-preserved
loop-i-preserved g c p h =
    let table = g.Self.Source.table c.args.self.now in
    let inside : c.loop-i.i < table.count c.args.t = omega arith in
    passed_step _ _ _ inside (c.loop-i.invariant p h)
    (sym (h _ _ inside (subst (λ (r : Record). goal.F-post g c.args.test r c.test.result) {y = (g.Self.Source.table c.args.self.now).at c.args.t c.loop-i.i} c.record_in.ensures c.test.ensures)) ∙ c.if-test.false)

pub returns : goal.returns
returns g c p h = some_none _ _ _ (omega arith) (c.loop-i.invariant p h)
