-- `writer::put_all` meets its contract: what is left of the numbers makes the whole.
use Rattle.std.proofs.Common.{add-one, drop-cons}
use Rattle.writer.specs.Laws.{lay_step}
use Rattle.writer.proofs.put_all.Goals as goal

pub loop-width-preserved : goal.loop-width-preserved
loop-width-preserved c =
    let a = c.args in
    let l = c.loop-width in
    rw c.put.ensures
    (lay_step a.out.now a.at a.numbers.now l.out l.place l.width-index _ l.invariant
    (rw (add-one, drop-cons a.numbers.now l.width-index (0, 0) c.loop-width-test.true)))
