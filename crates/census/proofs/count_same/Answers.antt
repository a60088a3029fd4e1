-- What was written is the counts of that code.
use Rattle.std.proofs.Common.{ap, refl}
use Rattle.census.specs.Census.{counted}
use Rattle.census.specs.Counts.{count_same}
use Rattle.census.proofs.count_same.Goals as goal

pub returns : goal.returns
returns c =
    ap counted (count_same (λ k. c.args.code) c.args.code (λ k. refl) c.requires.0 c.place-at.result c.args.count c.place-at.ensures)
