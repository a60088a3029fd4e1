-- The rungs that a ceiling is asked for, as they are lent: the edges of each with its control frame, and what refuses a call.
use Rattle.std.specs.Prelude.{ℕ, ◌+◌, ◌*◌, ◌/◌, ◌%◌, Bool, not, cond, ◌||◌, List, [], ◌∷◌, ◌++◌, eqb, ltb, length, get_or, Float}
use Rattle.std.specs.Float.{nan}
use Rattle.figures.specs.Figure.{limit40, in_size}
use Rattle.codes.specs.declared.Refusal.TheVariants as refusal
use Rattle.codes.specs.Read.{direction_valid}
use Rattle.codes.specs.Refusal.{Test, test}
use Rattle.profile.specs.Range.{range}
use Rattle.occupancy.specs.Edges.{union_of}
use Rattle.occupancy.specs.declared.Edges.{Edges}
use Rattle.scan.specs.First.{some}
use Rattle.station.specs.declared.StationRecord.{StationRecord}
use Rattle.layout.specs.Bytes.{byte_at}
use Rattle.entry.specs.Entry.{entry_tests, edges_valid, edges_read}

-- a figure of the rungs
abbrev pub figure_at : List Float → ℕ → Float
figure_at l i = get_or l i nan

-- "Rungs are a lent run of f64, four figures a rung (power, spectral)": the edges of rung k, as they are read
unfoldable pub rung_of : List Float → ℕ → Edges
rung_of l k =
    edges_read
    (record {
      power = range (figure_at l (4 * k)) (figure_at l (4 * k + 1));
      spectral = range (figure_at l (4 * k + 2)) (figure_at l (4 * k + 3));
    })

-- "with a floor byte each (1 joins the floor control edges, 0 the ordinary ones)"
abbrev pub control_edges : Edges → Edges → ℕ → Edges
control_edges ordinary floor mark = cond (eqb mark 1) floor ordinary

-- rung k with its control frame
unfoldable pub burst_of : Edges → Edges → List Float → List ℕ → ℕ → Edges
burst_of ordinary floor rungs floors k = union_of (rung_of rungs k) (control_edges ordinary floor (byte_at floors k))

-- "15 an edge not finite or above 2^40 in size": every figure of the rungs, also past the last whole four, and both control frames
abbrev pub unsized_at : List Float → ℕ → Bool
unsized_at rungs i = not (in_size limit40 (figure_at rungs i))

abbrev pub any_unsized : List Float → Bool
any_unsized rungs = some (unsized_at rungs) (length rungs)

unfoldable pub bad_edges : Edges → Edges → List Float → Bool
bad_edges ordinary floor rungs = any_unsized rungs || (not (edges_valid ordinary) || not (edges_valid floor))

-- "16 rungs not in fours, over 256, or floor bytes not one each of 0 or 1"
abbrev pub unmarked_at : List ℕ → ℕ → Bool
unmarked_at floors i = ltb 1 (byte_at floors i)

abbrev pub any_unmarked : List ℕ → Bool
any_unmarked floors = some (unmarked_at floors) (length floors)

unfoldable pub bad_rungs : List Float → List ℕ → Bool
bad_rungs rungs floors =
    not (eqb (length rungs % 4) 0) || (ltb 256 (length rungs / 4) || (not (eqb (length floors) (length rungs / 4)) || any_unmarked floors))

-- "Order: 20, 21, 22, 1 to 14, 15, 16 …"
abbrev pub rung_tests : Edges → Edges → List Float → List ℕ → List Test
rung_tests ordinary floor rungs floors = test refusal.SignalEdge (bad_edges ordinary floor rungs) ∷ test refusal.Rungs (bad_rungs rungs floors) ∷ []

abbrev pub ceiling_tests : StationRecord → ℕ → Edges → Edges → List ℕ → List Float → List ℕ → List Test
ceiling_tests r direction ordinary floor l rungs floors = entry_tests r (direction_valid direction) l ++ rung_tests ordinary floor rungs floors
