-- With all prerequisites met.
use Rattle.std.proofs.Common.{sym, ap, ◌∙◌}
use Rattle.std.specs.Prelude.{eqb}
use borrow.Author.Tests.{eq-eqb}
use Rattle.layout.specs.Layout.{general_of}
use Rattle.layout.specs.declared.General.{General}
use Rattle.table.specs.Table.{table_of}
use Rattle.nearest.proofs.Premises.{known_nearest_holds}
use Rattle.nearest.proofs.nearest_in.Goals as goal

pub returns : goal.returns
returns c =
    let a = c.args in
    let m = c.in-Some-Some-Some-Some in
    rw c.nearest_known.ensures
    (known_nearest_holds (table_of a.image.now) a.s a.direction a.e c.requires.0 c.requires.1
    (sym (ap (λ (g : General). eqb a.s.itu_region g.region) (c.image.invariant.1 ∙ ap general_of c.image.view_is)) ∙ eq-eqb _ _ c.if-s-image.false) _
    m.is-0 _ m.is-1 _ m.is-2 _ m.is-3)
