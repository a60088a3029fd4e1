-- `amended::Amending::named_at` meets its contract: of a list that is right, each amendment names a record of the image.
use Rattle.std.proofs.Common.{arith}
use Rattle.amended.specs.Latest.{named_of_right}
use Rattle.amended.proofs.Amending.named_at.Goals as goal

pub records_before-requires : goal.records_before-requires
records_before-requires c =
    let a = c.args.self.now in
    let n = named_of_right a.image.now a.list.bytes.now a.right c.args.j c.requires in
    (omega (arith, c.image.invariant.0.sized), omega (arith, n.table_right))
