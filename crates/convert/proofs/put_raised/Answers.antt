-- `convert::put_raised` meets its contract: too few bytes, or the raised image.
use Rattle.std.proofs.Common.{Ok, ap, arith, length}
use Rattle.layout.specs.Form.{Whole}
use Rattle.writer.specs.Laws.{left_short, left_put}
use Rattle.convert.specs.Convert.{raised_of}
use Rattle.convert.specs.Laws.{raised_length, raised_set}
use Rattle.convert.proofs.put_raised.Goals as goal

pub returns-then-out-length : goal.returns-then-out-length
returns-then-out-length c =
    let a = c.args in
    let w : Whole a.image.now = rw c.image.view_is at c.image.invariant.0 in
    left_short (raised_of a.image.now) a.out.now (omega (arith, raised_length a.image.now w.sized, ap length c.image.view_is))

pub returns : goal.returns
returns c =
    let a = c.args in
    let l = a.image.now in
    let w : Whole l = rw c.image.view_is at c.image.invariant.0 in
    let same = ap length c.image.view_is in
    let n = raised_length l w.sized in
    left_put (raised_of l) a.out.now _ _ (omega (arith, n, same))
    (rw c.put_end.ensures
    (rw c.put_part-2.ensures
    (rw c.put_watts.ensures
    (rw c.put_part.ensures
    (rw c.image.view_is (raised_set l w.sized a.out.now _ (omega (arith, same))))))))
    (ap Ok (omega (arith, n, same)))
