-- The search by its laws, the premises that the code asks, and that figures that meet them are in eighths.
use Rattle.std.specs.Prelude.{ℕ, Bool, false, not, ◌&&◌, ◌||◌, ◌≡◌, refl, Float, Option, None}
use Rattle.std.proofs.Math.Bool.{true, cond}
use Rattle.std.proofs.lemmas.Bool.{false≢true, not-true}
use Rattle.std.proofs.Math.Path.{ap}
use Rattle.std.proofs.Common.{◌∙◌}
use Rattle.std.proofs.Math.Dec.{eqb}
use Rattle.figures.specs.Figure.{figure_of, in_size}
use Rattle.codes.specs.declared.ControlMode.{ControlMode}
use Rattle.codes.specs.declared.LicenseClass.{LicenseClass}
use Rattle.codes.specs.declared.Sideband.{Sideband}
use Rattle.codes.specs.declared.Direction.{Direction}
use Rattle.profile.specs.declared.Range.{Range}
use Rattle.occupancy.specs.declared.Edges.{Edges}
use Rattle.scan.specs.First.{some}
use Rattle.scan.specs.Laws.{and_true, some_false, some_all}
use Rattle.station.specs.declared.Situation.{Situation}
use Rattle.layout.specs.Layout.{tables, power}
use Rattle.layout.specs.declared.General.{General}
use Rattle.layout.specs.declared.Record.{Record}
use Rattle.table.specs.Table.{Table}
use Rattle.table.specs.Parts.{channels_of}
use Rattle.dial_rows.specs.Dials.{data_rows, band_rows, rows_of}
use Rattle.dial_rows.specs.declared.Request.{Request}
use Rattle.dials.specs.List.{known_rows}
use Rattle.tidy.specs.Tidy.{tidy_table}
use Rattle.eighths.specs.Grid.{in_eighths}
use Rattle.on_grid.specs.Within.{limit38, figure_met, record_met, block_met, unmet_at, unmet_in, figures_met, range_met, edges_met, margins_met}
use Rattle.demand_3.specs.Words.{record_in_eighths, block_in_eighths, off_grid_at, off_grid_in, table_in_eighths, edges_in_eighths, audio_of, positive_width}
use Rattle.demand_3.specs.Tests.{and_both, all_three}
use Rattle.demand_3.specs.Rows.{band_rows_holds}
use Rattle.nearest.specs.Nearest.{answer_of}
use Rattle.nearest_rows.specs.Over.{nearest_over}
use Rattle.nearest_rows.specs.Laws.{over_append, over_channels}
use Rattle.nearest.specs.declared.Nearest.{Nearest}
use Rattle.nearest.specs.declared.Nearest.TheVariants.{NotJudged}

-- the premises that are left where Rules are in force and the prerequisites met
unfoldable pub premises_of : Table → Situation → Edges → Float → Range → Bool
premises_of table s e dial audio =
    figure_met dial && (margins_met s.margin && (edges_met e && (positive_width s audio && (figures_met table && tidy_table table))))

-- the answer where they are met
unfoldable pub known_nearest : Table → Situation → Direction → Edges → Sideband → LicenseClass → ControlMode → Float → Nearest
known_nearest table s direction e sideband license control dial =
    cond (premises_of table s e dial (audio_of table e))
    (answer_of
    (nearest_over dial table.general.flags table.general.channel_band None (known_rows table s direction e sideband license control)))
    NotJudged

-- all rows, by those of the data segments
pub rows_over :
    (table : Table) (q : Request) (dial : Float) (best : Option Float)
    → nearest_over dial table.general.flags table.general.channel_band best (rows_of table q)
    ≡ nearest_over dial table.general.flags table.general.channel_band best (data_rows table q)
unfolding rows_of
rows_over table q dial best =
    let flags = table.general.flags in
    let channel = table.general.channel_band in
    over_append dial flags channel (data_rows table q) (band_rows table q (channels_of table.general)) best
    ∙ over_channels dial flags channel (band_rows table q (channels_of table.general)) (band_rows_holds table q) (nearest_over dial flags channel best (data_rows table q))

-- ---- figures at most 2^38 in size and in eighths are in eighths

pub grid_of : (x : Float) → figure_met x ≡ true → in_eighths x ≡ true
unfolding figure_met
grid_of x h = (and_true (in_size limit38 x) (in_eighths x) h).1

pub pair_of : (x y : Float) → (figure_met x && figure_met y) ≡ true → (in_eighths x && in_eighths y) ≡ true
pair_of x y h = let p = and_true (figure_met x) (figure_met y) h in and_both _ _ (grid_of x p.0) (grid_of y p.1)

pub edges_of_holds : (e : Edges) → edges_met e ≡ true → edges_in_eighths e ≡ true
unfolding edges_met edges_in_eighths
edges_of_holds e h =
    let p = and_true (range_met e.power) (range_met e.spectral) h in
    and_both _ _ (pair_of e.power.low_hz e.power.high_hz p.0) (pair_of e.spectral.low_hz e.spectral.high_hz p.1)

or_of : (b : Bool) (x : Float) → (b || figure_met x) ≡ true → (b || in_eighths x) ≡ true
or_of true x h = refl
or_of false x h = grid_of x h

record_of_holds : (t : ℕ) (r : Record) → record_met t r ≡ true → record_in_eighths t r ≡ true
unfolding record_met record_in_eighths
record_of_holds t r h =
    let p = all_three (figure_met (figure_of r.low)) (figure_met (figure_of r.high)) (eqb t power || figure_met (figure_of r.figure)) h in
    and_both _ _ (grid_of _ p.0) (and_both _ _ (grid_of _ p.1) (or_of (eqb t power) (figure_of r.figure) p.2))

block_of : (g : General) → block_met g ≡ true → block_in_eighths g ≡ true
unfolding block_met block_in_eighths
block_of g h =
    let p = all_three (figure_met (figure_of g.data_limit)) (figure_met (figure_of g.elsewhere_limit)) _ h in
    let q = all_three (figure_met (figure_of g.channel_width)) (figure_met (figure_of g.carrier_offset)) (figure_met (figure_of g.carrier_tolerance)) p.2 in
    and_both _ _ (grid_of _ p.0)
    (and_both _ _ (grid_of _ p.1) (and_both _ _ (grid_of _ q.0) (and_both _ _ (grid_of _ q.1) (grid_of _ q.2))))

not_of : (a b : Bool) → (b ≡ true → a ≡ true) → not b ≡ false → not a ≡ false
not_of true b f h = refl
not_of false true f h = absurd (false≢true (f refl))
not_of false false f h = h

pub table_of_holds : (table : Table) → figures_met table ≡ true → table_in_eighths table ≡ true
unfolding figures_met table_in_eighths
table_of_holds table h =
    let p = and_true (block_met table.general) (not (some (unmet_in table) tables)) h in
    let none = not-true (some (unmet_in table) tables) p.1 in
    and_both _ _ (block_of table.general p.0)
    (ap not
    (some_all (off_grid_in table) tables
    (λ t ht.
    some_all (off_grid_at table t) (table.count t)
    (λ i hi.
    not_of (record_in_eighths t (table.at t i)) (record_met t (table.at t i)) (record_of_holds t (table.at t i))
    (some_false (unmet_at table t) (table.count t) (some_false (unmet_in table) tables none t ht) i hi)))))
