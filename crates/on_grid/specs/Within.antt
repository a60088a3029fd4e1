-- Hertz figures in eighths and at most 2^38 in size (document 02, 11), of a table, edges and margins. Watts are none.
use Rattle.std.specs.Prelude.{ℕ, Bool, not, ◌&&◌, ◌||◌, eqb, Float}
use Rattle.std.specs.Float.{binary64}
use Rattle.std.specs.Float.Ieee.{of_bits}
use Rattle.figures.specs.Figure.{in_size, figure_of}
use Rattle.eighths.specs.Grid.{in_eighths}
use Rattle.profile.specs.declared.Range.{Range}
use Rattle.occupancy.specs.declared.Edges.{Edges}
use Rattle.air.specs.declared.Margins.{Margins}
use Rattle.scan.specs.First.{some}
use Rattle.layout.specs.Layout.{tables, power}
use Rattle.layout.specs.declared.General.{General}
use Rattle.layout.specs.declared.Record.{Record}
use Rattle.table.specs.Table.{Table}

-- 2 ^ 38
abbrev pub limit38 : Float
limit38 = of_bits binary64 0x4250_0000_0000_0000

unfoldable pub figure_met : Float → Bool
figure_met x = in_size limit38 x && in_eighths x

-- a power record's figure is in watts
unfoldable pub record_met : ℕ → Record → Bool
record_met t r = figure_met (figure_of r.low) && (figure_met (figure_of r.high) && (eqb t power || figure_met (figure_of r.figure)))

unfoldable pub block_met : General → Bool
block_met g =
    figure_met (figure_of g.data_limit) && (figure_met (figure_of g.elsewhere_limit) && (figure_met (figure_of g.channel_width)
    && (figure_met (figure_of g.carrier_offset) && figure_met (figure_of g.carrier_tolerance))))

-- a record that is not
abbrev pub unmet_at : Table → ℕ → ℕ → Bool
unmet_at table t i = not (record_met t (table.at t i))

abbrev pub unmet_in : Table → ℕ → Bool
unmet_in table t = some (unmet_at table t) (table.count t)

unfoldable pub figures_met : Table → Bool
figures_met table = block_met table.general && not (some (unmet_in table) tables)

abbrev pub range_met : Range → Bool
range_met r = figure_met r.low_hz && figure_met r.high_hz

-- both pairs, also the one that isn't read
unfoldable pub edges_met : Edges → Bool
edges_met e = range_met e.power && range_met e.spectral

abbrev pub margins_met : Margins → Bool
margins_met m = figure_met m.lower_hz && figure_met m.upper_hz
