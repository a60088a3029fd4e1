-- `amended::Amending::fill` meets its contract: the index holds for each record what counts of the amendments passed.
use Rattle.std.proofs.Common.{arith, rules}
use Rattle.amended.specs.Latest.{indexed_earlier, superseded_earlier, indexed_step}
use Rattle.amended.proofs.Amending.fill.Goals as goal

pub superseded-requires : goal.superseded-requires
superseded-requires c =
    let a = c.args.self.now in
    let k = c.named_at-k in
    (omega arith, indexed_earlier a.image.now a.list.bytes.now a.day c.loop-j.index c.loop-j.j k.result _ c.loop-j.invariant k.ensures.1 c.found.ensures)

pub held-requires : goal.held-requires
held-requires c =
    let a = c.args.self.now in
    let k = c.named_at-k in
    superseded_earlier a.list.bytes.now a.day c.found.result _ c.loop-j.j _ c.superseded.ensures
    (indexed_earlier a.image.now a.list.bytes.now a.day c.loop-j.index c.loop-j.j k.result _ c.loop-j.invariant k.ensures.1 c.found.ensures) (omega arith)

pub loop-j-preserved : goal.loop-j-preserved
loop-j-preserved c =
    let a = c.args.self.now in
    indexed_step a.image.now a.list.bytes.now a.day c.loop-j.index c.loop-j.j c.named_at-k.result c.held.result _ _ c.loop-j.invariant
    c.named_at-k.ensures.0 c.named_at-k.ensures.1 c.found.ensures c.superseded.ensures c.held.ensures

pub returns-then-count-gt-MOST : goal.returns-then-count-gt-MOST
returns-then-count-gt-MOST c =
    let a = c.args.self.now in
    record {
      whole = rw c.image.view_is at c.image.invariant.0;
      right = a.right;
      full = c.requires.full;
      indexed = λ h. absurd (omega arith);
    }

pub returns : goal.returns
returns c =
    let a = c.args.self.now in
    record {
      whole = rw c.image.view_is at c.image.invariant.0;
      right = a.right;
      full = c.loop-j.invariant.full;
      indexed = λ h. search rules;
    }
