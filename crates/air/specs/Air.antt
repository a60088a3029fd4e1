-- From audio to the air and back: the range that a signal covers at a dial, with its margins, and the dials that put it in a range.
-- The margins enter here alone.
use Rattle.std.specs.Prelude.{Bool, cond, Float, Option, Some, None}
use Rattle.std.specs.Float.{binary64}
use Rattle.std.specs.Float.Ieee.{add, sub, lt, le}
use Rattle.codes.specs.declared.Sideband.{Sideband}
use Rattle.codes.specs.declared.Sideband.TheVariants.{Usb, Lsb}
use Rattle.profile.specs.Range.{range}
use Rattle.profile.specs.declared.Range.{Range}
use Rattle.air.specs.declared.Margins.{Margins}

-- "Upper sideband: dial + low to dial + high. Lower: dial − high to dial − low."
abbrev pub rf_range_of : Float → Sideband → Range → Range
rf_range_of dial Usb audio = range (add binary64 dial audio.low_hz) (add binary64 dial audio.high_hz)
rf_range_of dial Lsb audio = range (sub binary64 dial audio.high_hz) (sub binary64 dial audio.low_hz)

abbrev pub margins : Float → Float → Margins
margins lower upper = record { lower_hz = lower; upper_hz = upper }

-- "The guarded range is that range less the margin below and plus it above": "a lower and an upper margin instead of one, each used at its
-- own side everywhere". "On lower sideband they still mean the air side."
abbrev pub guarded_of : Margins → Range → Range
guarded_of margin r = range (sub binary64 r.low_hz margin.lower_hz) (add binary64 r.high_hz margin.upper_hz)

-- "the margin is taken off and put back in floats"
abbrev pub unguarded_of : Margins → Range → Range
unguarded_of margin r = range (add binary64 r.low_hz margin.lower_hz) (sub binary64 r.high_hz margin.upper_hz)

-- "high less low of the edges read"
abbrev pub width_of : Range → Float
width_of audio = sub binary64 audio.high_hz audio.low_hz

-- the width is above the limit; a width equal to the limit is not
abbrev pub wider : Float → Float → Bool
wider width limit = lt limit width

-- the lowest and the highest dial that put the guarded signal inside a piece: each end less the audio, then the margin of its side
abbrev pub dial_ends_of : Range → Sideband → Range → Margins → Range
dial_ends_of piece Usb audio margin =
    range (add binary64 (sub binary64 piece.low_hz audio.low_hz) margin.lower_hz)
    (sub binary64 (sub binary64 piece.high_hz audio.high_hz) margin.upper_hz)
dial_ends_of piece Lsb audio margin =
    range (add binary64 (add binary64 piece.low_hz audio.high_hz) margin.lower_hz)
    (sub binary64 (add binary64 piece.high_hz audio.low_hz) margin.upper_hz)

-- "`dial_range` low ≤ high"
abbrev pub dials_between : Range → Option Range
dials_between ends = cond (le ends.low_hz ends.high_hz) (Some ends) None

abbrev pub dial_range_of : Range → Sideband → Range → Margins → Option Range
dial_range_of piece sideband audio margin = dials_between (dial_ends_of piece sideband audio margin)
