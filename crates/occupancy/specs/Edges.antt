-- The audio that a transmission occupies, under both readings of 97.3(a)(8).
use Rattle.figures.specs.Figure.{min_of, max_of}
use Rattle.profile.specs.Range.{range}
use Rattle.profile.specs.declared.Range.{Range}
use Rattle.occupancy.specs.declared.Edges.{Edges}
use Rattle.occupancy.specs.declared.Reading.{Reading}
use Rattle.occupancy.specs.declared.Reading.TheVariants.{Power, Spectral, Wider}

-- the least range that takes in two: the lower low and the higher high
abbrev pub hull_of : Range → Range → Range
hull_of a b = range (min_of a.low_hz b.low_hz) (max_of a.high_hz b.high_hz)

-- the edges that a reading takes: "Wider takes the lower low and the higher high"
abbrev pub range_of : Edges → Reading → Range
range_of e Power = e.power
range_of e Spectral = e.spectral
range_of e Wider = hull_of e.power e.spectral

-- the smallest edges that hold both
abbrev pub union_of : Edges → Edges → Edges
union_of a b = record { power = hull_of a.power b.power; spectral = hull_of a.spectral b.spectral }
