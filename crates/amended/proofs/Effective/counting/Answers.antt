-- `amended::Effective::counting` meets its contract: what counts lies within the list.
use Rattle.std.proofs.Common.{arith, ◌∙◌}
use Rattle.amended.specs.Latest.{counting_within}
use Rattle.amended.proofs.Effective.counting.Goals as goal

pub returns-then-count-gt-MOST-clause-within : goal.returns-then-count-gt-MOST-clause-within
returns-then-count-gt-MOST-clause-within c =
    let a = c.args.self.now.of in
    counting_within a.image.now a.list.bytes.now a.day c.args.k _ c.search.ensures

pub returns-clause-within : goal.returns-clause-within
returns-clause-within c =
    let e = c.args.self.now in
    let a = e.of in
    counting_within a.image.now a.list.bytes.now a.day c.args.k _ (c.found.ensures ∙ (e.ready.indexed (omega arith)).held c.args.k c.requires)
