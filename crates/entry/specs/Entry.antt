-- What every judging call does first: the refusals of station record and image, in order, and the edges as they are read.
use Rattle.std.specs.Prelude.{ℕ, Bool, cond, ◌&&◌, List, [], ◌++◌}
use Rattle.codes.specs.Refusal.{Checked, Test, refusal_of}
use Rattle.figures.specs.Figure.{limit40, in_size, read_hz}
use Rattle.profile.specs.Range.{range}
use Rattle.profile.specs.declared.Range.{Range}
use Rattle.occupancy.specs.declared.Edges.{Edges}
use Rattle.station.specs.Station.{under_rules, station_tests}
use Rattle.station.specs.declared.StationRecord.{StationRecord}
use Rattle.image.specs.Check.{check_tests}

-- "Images are read only under Rules."
abbrev pub image_tests : StationRecord → List ℕ → List Test
image_tests r l = cond (under_rules r) (check_tests l) []

-- "Order: 20, 21, 22, 1 to 14 …"
abbrev pub entry_tests : StationRecord → Bool → List ℕ → List Test
entry_tests r beside l = station_tests r beside l ++ image_tests r l

-- the first refusal among them
unfoldable pub entry_of : StationRecord → Bool → List ℕ → Checked
entry_of r beside l = refusal_of (entry_tests r beside l)

-- 15 "an edge not finite or above 2^40 in size"
abbrev pub pair_valid : Range → Bool
pair_valid p = in_size limit40 p.low_hz && in_size limit40 p.high_hz

unfoldable pub edges_valid : Edges → Bool
edges_valid e = pair_valid e.power && pair_valid e.spectral

-- "Negative zero in edges or station reads as zero."
abbrev pub pair_read : Range → Range
pair_read p = range (read_hz p.low_hz) (read_hz p.high_hz)

unfoldable pub edges_read : Edges → Edges
edges_read e = record { power = pair_read e.power; spectral = pair_read e.spectral }
