-- What is gathered are the rows, and where they have room they stand first, in their order.
use Rattle.std.proofs.Common.{rules, ◌≡◌, ◌*◌, ◌∙◌, ap, length}
use Rattle.table.specs.Table.{table_of}
use Rattle.rows.specs.Rows.{row_size, sorted, encode_all}
use Rattle.rows.specs.Back.{length_encode}
use Rattle.rows.specs.Order.{length_sorted}
use Rattle.dial_rows.specs.Dials.{searched_rows}
use Rattle.dial_rows.specs.Laws.{gathered_low}
use Rattle.dials.specs.Answer.{gathered, filled}
use Rattle.dials.proofs.fill_rows.Goals as goal

pub returns : goal.returns
returns c =
    let s = c.args.search.now.placed in
    let xs = searched_rows (table_of s.image.now) s.request s.band in
    let sized : length (encode_all (sorted xs)) ≡ length xs * row_size = length_encode (sorted xs) ∙ ap (λ n. n * row_size) (length_sorted xs) in
    filled xs _ _ _
    (c.fill.ensures (length xs) (encode_all (sorted xs)) sized
    (λ p q k e. gathered xs p.now q.now k (gathered_low s.image.now s.request s.band) (search rules)))
