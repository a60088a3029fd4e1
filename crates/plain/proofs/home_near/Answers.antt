-- `plain::home_near` meets its contract: a band that is found holds the range, so some band does.
use mathlib.Core.Path.{sym, ◌∙◌}
use native.Mathlib.Omega.{arith}
use Rattle.scan.specs.Laws.{some_true}
use Rattle.plain.proofs.home_near.Goals as goal

pub returns-then-held_by : goal.returns-then-held_by
returns-then-held_by c = sym (some_true _ _ _ (omega (arith, c.count_of-count.ensures.gives, c.if-near-count.true))
    (sym c.held_by.ensures ∙ c.if-held_by.true))

pub returns-then-held_by-2 : goal.returns-then-held_by-2
returns-then-held_by-2 c =
    sym (some_true _ _ _ (omega (
      arith,
      c.count_of-count.ensures.gives,
      c.if-next-count.true,
    )) (sym c.held_by-then-next-count.ensures ∙ c.if-held_by-2.true))
