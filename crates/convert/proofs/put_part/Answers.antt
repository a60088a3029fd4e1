-- `convert::put_part` meets its contract: a copy into a part of the output.
use Rattle.convert.specs.Laws.{part_put}
use Rattle.convert.proofs.put_part.Goals as goal

pub returns : goal.returns
returns c =
    let a = c.args in
    rw c.copy.ensures
    (part_put a.out.now a.image.now a.to a.from a.count c.requires.0 c.requires.1)
