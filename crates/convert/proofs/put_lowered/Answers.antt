-- `convert::put_lowered` meets its contract: too few bytes, or the lowered image.
use Rattle.std.proofs.Common.{Ok, ap, arith, length}
use Rattle.layout.specs.Form.{Whole}
use Rattle.writer.specs.Laws.{left_short, left_put}
use Rattle.convert.specs.Convert.{lowered_of}
use Rattle.convert.specs.Laws.{second_sized, lowered_length, lowered_set}
use Rattle.convert.proofs.put_lowered.Goals as goal

pub returns-then-out-length : goal.returns-then-out-length
returns-then-out-length c =
    let a = c.args in
    let w : Whole a.image.now = rw c.image.view_is at c.image.invariant.0 in
    let n = lowered_length a.image.now (second_sized a.image.now w c.requires) in
    left_short (lowered_of a.image.now) a.out.now (omega (arith, n, ap length c.image.view_is))

pub returns : goal.returns
returns c =
    let a = c.args in
    let l = a.image.now in
    let w : Whole l = rw c.image.view_is at c.image.invariant.0 in
    let same = ap length c.image.view_is in
    let sized = second_sized l w c.requires in
    let n = lowered_length l sized in
    left_put (lowered_of l) a.out.now _ _ (omega (arith, n, same))
    (rw c.put_end.ensures
    (rw c.put_part-2.ensures
    (rw c.put_part.ensures
    (rw c.image.view_is (lowered_set l sized a.out.now _ (omega (arith, same)))))))
    (ap Ok (omega (arith, n, same)))
