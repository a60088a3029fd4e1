-- What a turn over a privilege leaves: a row and what is behind it, or what the next privilege gives.
use Rattle.std.proofs.Common.{◌∙◌, ap, sym, ◌∷◌}
use Rattle.table.specs.Table.{table_of}
use Rattle.table.specs.Parts.{segment_of}
use Rattle.dial_rows.specs.Next.{privileges_from, privilege_turn, privilege_turn_holds, privileges_end}
use Rattle.dial_rows.proofs.PlacedSearch.privileges_from.Goals as goal

pub returns-in-Some : goal.returns-in-Some
returns-in-Some c =
    let a = c.args in
    let x = a.self.now in
    let more = privileges_from (table_of x.image.now) x.request (segment_of a.r) in
    c.loop-i.invariant
    ∙ privilege_turn_holds _ _ _ x.known _ c.loop-i-test.true a.r _ _ c.pair_from.ensures
    ∙ ap (privilege_turn x.places.cuts c.loop-i.i more) c.in-Some.is
    ∙ ap (λ s. c.in-Some.row ∷ more s) (sym c.behind.ensures)

pub loop-i-preserved : goal.loop-i-preserved
loop-i-preserved c =
    let a = c.args in
    let x = a.self.now in
    c.loop-i.invariant
    ∙ privilege_turn_holds _ _ _ x.known _ c.loop-i-test.true a.r _ _ c.pair_from.ensures
    ∙ ap (privilege_turn x.places.cuts c.loop-i.i (privileges_from (table_of x.image.now) x.request (segment_of a.r))) c.in_default.is

pub returns : goal.returns
returns c = c.loop-i.invariant ∙ privileges_end _ _ _ _ _ _ c.args.self.now.known.past c.loop-i-test.false
