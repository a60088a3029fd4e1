use Rattle.std.proofs.Common.{rules}
use Rattle.plain.specs.Quick.{point_within}
use Rattle.plain.proofs.Run.pass_points.Goals as goal

pub returns : goal.returns
returns c = c.pass_by.ensures (point_within c.args.low c.args.lists c.args.rules) (λ i b h q. search rules)
