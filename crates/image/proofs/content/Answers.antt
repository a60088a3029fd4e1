-- `image::content` equals its definition: of a plain image only the refusals that are left can be met.
use mathlib.Core.Path.{sym, ◌∙◌}
use Rattle.image.specs.Short.{plain_smooth, plain_left}
use Rattle.image.proofs.content.Goals as goal

pub left-requires : goal.left-requires
left-requires c = plain_smooth c.args.s.now (sym c.is_plain.ensures ∙ c.if-is_plain.true)

pub returns-then-is_plain : goal.returns-then-is_plain
returns-then-is_plain c = c.left.ensures ∙ sym (plain_left c.args.s.now
    (sym c.is_plain.ensures ∙ c.if-is_plain.true))
