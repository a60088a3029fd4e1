-- `writer::fit` meets its contract: too few bytes, or the image.
use Rattle.std.proofs.Common.{Ok, ap, arith}
use Rattle.writer.specs.Laws.{image_length, left_short, left_put}
use Rattle.writer.proofs.fit.Goals as goal

pub returns-then-out-length : goal.returns-then-out-length
returns-then-out-length c =
    let a = c.args in
    let g = a.given.now in
    let n = image_length a.edition g.general g.counts.now g.records in
    left_short _ a.out.now (omega (arith, n))

pub returns : goal.returns
returns c =
    let a = c.args in
    let g = a.given.now in
    let n = image_length a.edition g.general g.counts.now g.records in
    left_put _ a.out.now _ _ (omega (arith, n)) c.put_image.ensures (ap Ok (omega (arith, n)))
