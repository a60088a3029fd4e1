-- `report::gather` meets its contract: part after part, the rows of the report.
use Rattle.lists.specs.Pour.{poured_more}
use Rattle.report.specs.Report.{report_rows}
use Rattle.report.proofs.gather.Goals as goal

pub returns : goal.returns
unfolding report_rows
returns c =
    poured_more _ _ _ _ _ _ _ _ _ c.overlap_rows-a.ensures
    (poured_more _ _ _ _ _ _ _ _ _ c.overlap_rows-b.ensures
    (poured_more _ _ _ _ _ _ _ _ _ c.overlap_rows-c.ensures c.gap_rows.ensures))
