use Rattle.std.proofs.Common.{arith, refl}
use Rattle.amended.specs.Amended.{latest}
use Rattle.amended.specs.Latest.{latest_earlier}
use Rattle.amended.proofs.Amending.search.Goals as goal

pub loop-j-init : goal.loop-j-init
unfolding latest
loop-j-init c = refl

pub onward-found-requires : goal.onward-found-requires
onward-found-requires c =
    let a = c.args.self.now in
    let j = c.loop-j.j in
    (omega arith, latest_earlier a.image.now a.list.bytes.now a.day c.args.k j _ c.loop-j.invariant)
