-- The report of the practice table: its bands, segments and privileges share nothing. A General's privilege on 20 m begins 25 kHz above the
-- segment, and covers the whole segment on 60 m; an Extra has no privilege there at all, so that both segments are gaps.
use Rattle.std.specs.Prelude.{[], ◌∷◌, ◌≡◌, refl}
use Rattle.profile.specs.Range.{range}
use Rattle.table.specs.Table.{table_of}
use Rattle.starred.specs.Practice.{hz, practice}
use Rattle.starred.specs.Starred.{opened}
use Rattle.sweep.specs.Sweep.{shared_with}
use Rattle.lists.specs.From.{stretch}
use Rattle.report.specs.Gaps.{left_from}
use Rattle.report.specs.Report.{pair_rows, overlap_rows, gap_row, gaps_in, gap_rows, report_rows}

pub general : report_rows (table_of practice) 2 ≡ gap_row 2 0 (range (hz 14_000_000_000) (hz 14_025_000_000)) ∷ []
unfolding opened report_rows overlap_rows pair_rows gap_rows gaps_in left_from shared_with stretch
general = refl

pub extra :
    report_rows (table_of practice) 4 ≡ gap_row 4 0 (range (hz 14_000_000_000) (hz 14_150_000_000)) ∷ gap_row 4 1 (range (hz 5_351_500_000) (hz 5_366_500_000)) ∷ []
unfolding opened report_rows overlap_rows pair_rows gap_rows gaps_in left_from shared_with stretch
extra = refl
