-- What is gathered are the rows, and where they have room they stand first.
use Rattle.std.proofs.Common.{rules, length}
use Rattle.table.specs.Table.{table_of}
use Rattle.report_rows.specs.Rows.{encode_all}
use Rattle.report_rows.specs.Laws.{length_all}
use Rattle.report.specs.Report.{report_rows}
use Rattle.report.specs.Answer.{gathered, filled}
use Rattle.report.proofs.fill_rows.Goals as goal

pub returns : goal.returns
returns c =
    let xs = report_rows (table_of c.args.image.now) c.args.class in
    filled xs _ _ _
    (c.fill.ensures (length xs) (encode_all xs) (length_all xs)
    (λ p q k e. gathered xs p.now q.now k (search rules)))
