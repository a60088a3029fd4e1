-- Where to move the dial to (document 02, 11): the nearest dial of the rows that the dial list would have, those of the channel band left out.
use Rattle.std.specs.Prelude.{ℕ, Bool, true, cond, ◌&&◌, List, Option, Some, None, Result, Ok, Err, Float}
use Rattle.codes.specs.Refusal.{Checked, Test, refusal_of}
use Rattle.codes.specs.declared.Refusal.{Refusal}
use Rattle.codes.specs.Read.{direction_of}
use Rattle.codes.specs.declared.Direction.{Direction}
use Rattle.occupancy.specs.declared.Edges.{Edges}
use Rattle.station.specs.Station.{situation_of}
use Rattle.station.specs.declared.Situation.{Situation}
use Rattle.station.specs.declared.StationRecord.{StationRecord}
use Rattle.table.specs.Table.{Table, table_of}
use Rattle.entry.specs.Entry.{edges_read}
use Rattle.verdict.specs.Verdict.{evaluate_tests}
use Rattle.dials.specs.List.{situation_rows}
use Rattle.on_grid.specs.Within.{figure_met, figures_met, edges_met, margins_met}
use Rattle.demand_3.specs.Words.{table_met, station_met, signal_met}
use Rattle.nearest_rows.specs.Over.{nearest_over}
use Rattle.nearest.specs.declared.Nearest.{Nearest}
use Rattle.nearest.specs.declared.Nearest.TheVariants.{Dial, NoneAllowed, NotJudged}

-- ---- the premises: those "of the nought distance on table, station and signal …, and hertz figures of at most 2^38 in size"

abbrev pub dial_met : Option Float → Bool
dial_met (Some x) = figure_met x
dial_met None = true

-- every hertz figure of image, edges, margins and present dial in eighths and at most 2^38 in size
unfoldable pub within38 : Table → Situation → Edges → Bool
within38 table s e = figures_met table && (edges_met e && (margins_met s.margin && dial_met s.dial))

unfoldable pub judged_of : Table → Situation → Edges → Bool
judged_of table s e = station_met table s && (signal_met table s e && (table_met table && within38 table s e))

-- ---- the answer

abbrev pub answer_of : Option Float → Nearest
answer_of (Some x) = Dial x
answer_of None = NoneAllowed

-- from the present dial
abbrev pub nearest_from : Table → Situation → Direction → Edges → Option Float → Option Float
nearest_from table s direction e (Some dial) =
    nearest_over dial table.general.flags table.general.channel_band None (situation_rows table s direction e)
nearest_from table s direction e None = None

-- "where one of these premises fails, and only there, the answer is "not judged""
unfoldable pub nearest_in : Table → Situation → Direction → Edges → Nearest
nearest_in table s direction e = cond (judged_of table s e) (answer_of (nearest_from table s direction e s.dial)) NotJudged

-- "A numbered refusal comes first": 20, 21, 22, 1 to 14, 15, as the verdict's on data
abbrev pub nearest_tests : StationRecord → ℕ → Edges → List ℕ → List Test
nearest_tests r direction e l = evaluate_tests r 0 direction e l

abbrev pub nearest_unless_refused : Checked → Nearest → Result Nearest Refusal
nearest_unless_refused (Ok tt) x = Ok x
nearest_unless_refused (Err n) x = Err n

unfoldable pub nearest_of : StationRecord → ℕ → Edges → List ℕ → Result Nearest Refusal
nearest_of r direction e l =
    nearest_unless_refused (refusal_of (nearest_tests r direction e l))
    (nearest_in (table_of l) (situation_of r) (direction_of direction) (edges_read e))
