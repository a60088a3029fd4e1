-- The rows of the channels change nothing.
use Rattle.std.proofs.Common.{List, ℕ, ◌≡◌, sym, ap, ◌∙◌, None}
use Rattle.layout.specs.Layout.{general_of}
use Rattle.layout.specs.declared.General.{General}
use Rattle.table.specs.Table.{table_of}
use Rattle.dial_rows.specs.Dials.{data_rows}
use Rattle.dial_rows.specs.declared.Request.{Request}
use Rattle.nearest.specs.Nearest.{answer_of}
use Rattle.nearest_rows.specs.Over.{nearest_over}
use Rattle.nearest.specs.Laws.{rows_over}
use Rattle.nearest.proofs.nearest_for.Goals as goal

pub returns : goal.returns
returns c =
    let a = c.args in
    let s = c.of.result in
    let l = a.image.now in
    let block : c.image.inside.general ≡ general_of l = c.image.invariant.1 ∙ ap general_of c.image.view_is in
    let over = nearest_over a.dial_hz (general_of l).flags (general_of l).channel_band None in
    c.answer_of.ensures
    ∙ ap answer_of
    (c.data_rows.ensures.1
    ∙ ap (λ (g : General). nearest_over a.dial_hz g.flags g.channel_band None (data_rows (table_of s.image.now) s.request)) block
    ∙ ap (λ (m : List ℕ). over (data_rows (table_of m) s.request)) c.of.ensures.0
    ∙ ap (λ (q : Request). over (data_rows (table_of l) q)) c.of.ensures.1
    ∙ sym (rows_over (table_of l) a.q a.dial_hz None))
