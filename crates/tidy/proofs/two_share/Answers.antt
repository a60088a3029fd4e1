use native.Mathlib.Omega.{arith}
use mathlib.Core.Path.{◌∙◌}
use Rattle.std.proofs.Common.{rules, ◌≡◌, ◌+◌, ◌*◌}
use Rattle.layout.specs.Layout.{record_at, record_size}
use Rattle.find.specs.Question.{asks}
use Rattle.scan.specs.First.{some}
use Rattle.table.specs.Table.{table_of}
use Rattle.table.specs.Laws.{count_in_holds}
use Rattle.tidy.specs.Tidy.{pair_question, two_share, shares_earlier}
use Rattle.tidy.specs.Laws.{earlier_in}
use Rattle.tidy.proofs.two_share.Goals as goal

pub returns : goal.returns
unfolding two_share
returns c =
    rw (count_in_holds c.args.s.now c.args.t c.requires)
    (rw (← c.count_of.ensures.gives)
    (c.some.ensures (shares_earlier (table_of c.args.s.now) c.args.t c.args.classes)
    (λ j b h q.
    let own : b ≡ some (λ i. asks (pair_question c.args.classes (record_at c.args.s.now (c.start_of-start.result + record_size * j))) (record_at c.args.s.now (c.start_of-start.result + record_size * i))) j = search rules in
    own ∙ earlier_in c.args.s.now c.args.t c.args.classes j _ c.requires (omega (arith, c.count_of.ensures.gives)) c.start_of-start.ensures.gives)))
