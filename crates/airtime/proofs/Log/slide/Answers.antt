-- `airtime::Log::slide` meets its contract: at each turn the totals of the records passed are those worked out afresh.
use Rattle.std.proofs.Common.{rules, ◌<◌, ◌≤◌, arith, get_or, length}
use Rattle.airtime.specs.Laws.{slide_none, own_step, held_few, total_is, fill_none, fill_step}
use Rattle.airtime.proofs.Log.slide.Goals as goal

pub loop-i-init : goal.loop-i-init
loop-i-init c = (slide_none _ _ _, fill_none _ _ _ _)

pub overflow_add-total : goal.overflow_add-total
overflow_add-total c =
    let k : get_or c.args.self.now.bands.now c.loop-i.i 0 < 256 = search rules in
    let h : c.loop-i.i ≤ 65536 = omega (arith, c.args.self.now.even.few) in
    let f = held_few _ _ _ _ _ _ c.move_tail-tail.ensures.sliding c.args.self.now.words h _ k in
    omega (arith, f, c.args.self.now.words c.loop-i.i)

pub loop-i-preserved : goal.loop-i-preserved
loop-i-preserved c =
    let k : get_or c.args.self.now.bands.now c.loop-i.i 0 < 256 = search rules in
    let e = c.requires in
    let t = c.move_tail-tail.ensures in
    let n : c.loop-i.i < length c.args.self.now.starts.now = omega arith in (
      own_step _ _ _ _ _ _ t.sliding k,
      fill_step _ _ _ _ _ _ _ c.loop-i.invariant.1 (omega (arith, n, e)) (total_is _ _ _ _ _ _ t n c.args.self.now.even.order k),
    )
