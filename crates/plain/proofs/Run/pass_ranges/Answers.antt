use Rattle.std.proofs.Common.{rules}
use Rattle.plain.specs.Quick.{range_within}
use Rattle.plain.proofs.Run.pass_ranges.Goals as goal

pub returns : goal.returns
returns c = c.pass_by.ensures (range_within c.args.figure c.args.band c.args.lists c.args.rules) (λ i b h q. search rules)
