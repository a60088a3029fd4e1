-- Ranges of hertz. Low above high is a range like others: nothing here sorts.
use Rattle.std.specs.Prelude.{Bool, ◌&&◌, cond, Float, Option, Some, None}
use Rattle.std.specs.Float.{binary64}
use Rattle.std.specs.Float.Ieee.{add, sub, div, lt, le}
use Rattle.figures.specs.Figure.{two, min_of, max_of}
use Rattle.profile.specs.declared.Range.{Range}

abbrev pub range : Float → Float → Range
range low high = record { low_hz = low; high_hz = high }

-- a lies in r: "`holds` and `overlaps` include both ends"
abbrev pub holds_of : Range → Range → Bool
holds_of r a = le r.low_hz a.low_hz && le a.high_hz r.high_hz

-- a touches r at all
abbrev pub overlaps_of : Range → Range → Bool
overlaps_of r a = le a.low_hz r.high_hz && le r.low_hz a.high_hz

-- low below high: the range has a positive length
abbrev pub lengthy : Range → Bool
lengthy r = lt r.low_hz r.high_hz

-- what two ranges share, from the higher low to the lower high
abbrev pub common_of : Range → Range → Range
common_of a b = range (max_of a.low_hz b.low_hz) (min_of a.high_hz b.high_hz)

-- "`intersect` needs low < high"
abbrev pub intersect_of : Range → Range → Option Range
intersect_of a b = cond (lengthy (common_of a b)) (Some (common_of a b)) None

-- "share a stretch of positive length"
abbrev pub share_of : Range → Range → Bool
share_of a b = lengthy (common_of a b)

-- a channel of a width about its centre (97.303(h)(3))
abbrev pub channel_range_of : Float → Float → Range
channel_range_of width centre = range (sub binary64 centre (div binary64 width two)) (add binary64 centre (div binary64 width two))
