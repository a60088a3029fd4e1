-- `airtime::Log::move_tail` meets its contract: at each turn what lies before the tail counts no more, and what is held is the rest.
use Rattle.std.proofs.Common.{rules, ◌<◌, arith, get_or}
use Rattle.airtime.specs.Laws.{tail_enough, tail_step}
use Rattle.airtime.proofs.Log.move_tail.Goals as goal

pub overflow_sub-held : goal.overflow_sub-held
overflow_sub-held c =
    let k : get_or c.args.self.now.bands.now c.loop-at.at 0 < 256 = search rules in
    tail_enough _ _ _ _ _ _ c.loop-at.invariant (omega arith) k

pub loop-at-preserved : goal.loop-at-preserved
loop-at-preserved c =
    let k : get_or c.args.self.now.bands.now c.loop-at.at 0 < 256 = search rules in
    let e = c.requires in
    let o = c.args.self.now.even.order _ _ c.loop-at.invariant.within e.0 in
    tail_step _ _ _ _ _ _ c.loop-at.invariant (omega arith) e.0 c.args.self.now.even.order k (omega (arith, o, c.if-start-self-le-SPAN.false))
