-- `report::gaps_left` meets its contract: what is left of a piece is what is left of its two parts beside the stretch that the sweep found.
use Rattle.std.proofs.Common.{ℕ, ◌+◌, ◌-◌, ◌≡◌, List, [], ◌∷◌, ◌++◌, Some, length, sym, ap, ◌∙◌, arith, length-append}
use Rattle.std.proofs.lemmas.List.{length-map}
use Rattle.profile.specs.declared.Range.{Range}
use Rattle.layout.specs.declared.Record.{Record}
use Rattle.table.specs.Table.{table_of}
use Rattle.report.specs.Gaps.{below, above, of_part, left_from}
use Rattle.report.specs.Left.{part_none, part_split, part_short, parts_poured, part_poured, none_poured}
use Rattle.report.specs.Report.{gap_row}
use Rattle.report.proofs.+gaps_left.Goals as goal

-- what the n privileges from an index on leave of a piece
abbrev behind : (ℕ → Record) → ℕ → ℕ → ℕ → Range → List Range
behind at n class from = of_part (left_from at (Some class) (n - from) from)

pub returns-then-not-is_lengthy : goal.returns-then-not-is_lengthy
returns-then-not-is_lengthy t c =
    let a = c.args in
    let g = a.g.now in
    none_poured (gap_row a.class a.segment) _ _ _
    (part_short (left_from ((table_of g.image.now).at g.table) (Some a.class) (g.count - a.from) a.from) a.piece
    (sym c.is_lengthy.ensures ∙ c.if-not-is_lengthy.true))

pub returns-in_default : goal.returns-in_default
returns-in_default t c =
    let a = c.args in
    let g = a.g.now in
    let whole : behind ((table_of g.image.now).at g.table) g.count a.class a.from a.piece ≡ a.piece ∷ [] =
    part_none _ _ _ _ _ (sym c.is_lengthy.ensures ∙ c.if-not-is_lengthy.false) (sym c.in_default.ensures.value) in
    part_poured (gap_row a.class a.segment) _ _ _ _ _ whole c.offer.ensures

pub gaps_left-n-requires : goal.gaps_left-n-requires
gaps_left-n-requires t c =
    let a = c.args in
    let left = behind ((table_of a.g.now.image.now).at a.g.now.table) a.g.now.count a.class in
    let low = left (c.in-Some.j + 1) (below a.piece c.in-Some.x) in
    let high = left (c.in-Some.j + 1) (above a.piece c.in-Some.x) in
    let split : left a.from a.piece ≡ low ++ high = part_split _ _ _ _ _ _ _ (sym c.is_lengthy.ensures ∙ c.if-not-is_lengthy.false) (sym c.in-Some.ensures.value) in (
      omega (arith, c.in-Some.ensures.within),
      omega (arith, ap length split, length-append low high, c.requires),
    )

pub gaps_left-requires : goal.gaps_left-requires
gaps_left-requires t c =
    let a = c.args in
    let left = behind ((table_of a.g.now.image.now).at a.g.now.table) a.g.now.count a.class in
    let low = left (c.in-Some.j + 1) (below a.piece c.in-Some.x) in
    let high = left (c.in-Some.j + 1) (above a.piece c.in-Some.x) in
    let split : left a.from a.piece ≡ low ++ high = part_split _ _ _ _ _ _ _ (sym c.is_lengthy.ensures ∙ c.if-not-is_lengthy.false) (sym c.in-Some.ensures.value) in (
      omega (arith, c.in-Some.ensures.within),
      omega (
        arith,
        ap length split,
        length-append low high,
        c.gaps_left-n.ensures.counted,
        length-map low (gap_row a.class a.segment),
        c.requires,
      ),
    )

pub returns : goal.returns
returns t c =
    let a = c.args in
    let left = behind ((table_of a.g.now.image.now).at a.g.now.table) a.g.now.count a.class in
    let low = left (c.in-Some.j + 1) (below a.piece c.in-Some.x) in
    let high = left (c.in-Some.j + 1) (above a.piece c.in-Some.x) in
    let split : left a.from a.piece ≡ low ++ high = part_split _ _ _ _ _ _ _ (sym c.is_lengthy.ensures ∙ c.if-not-is_lengthy.false) (sym c.in-Some.ensures.value) in
    parts_poured (gap_row a.class a.segment) _ _ _ _ _ _ _ low high split c.gaps_left-n.ensures c.gaps_left.ensures
