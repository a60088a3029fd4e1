use Rattle.std.proofs.Common.{rules}
use Rattle.plain.specs.Quick.{privilege_within}
use Rattle.plain.proofs.Run.pass_privileges.Goals as goal

pub returns : goal.returns
returns c = c.pass_by.ensures (privilege_within) (λ i b h q. search rules)
