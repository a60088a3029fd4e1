-- "The distance of a dial is asked of a finished dial list: the least, over rows whose band byte isn't the channel band's number (all rows if
-- flag bit 2 is clear), of how far the dial stands below the row's lower dial or above its upper, 0 on or between them. With no such row
-- the answer is 'none listed'."
use Rattle.std.specs.Prelude.{ℕ, zero, suc, ◌*◌, ◌/◌, Bool, not, cond, ◌&&◌, List, [], ◌∷◌, eqb, ltb, length, Float, Option, Some, None, Result, Ok, Err}
use Rattle.codes.specs.declared.Refusal.TheVariants as refusal
use Rattle.codes.specs.Refusal.{Checked, Test, test, refusal_of}
use Rattle.codes.specs.declared.Refusal.{Refusal}
use Rattle.std.specs.Float.{binary64}
use Rattle.std.specs.Float.Ieee.{sub, lt, le}
use Rattle.figures.specs.Figure.{zero_hz, limit40, in_size, read_hz}
use Rattle.codes.specs.Code.{bit_of}
use Rattle.rows.specs.Rows.{row_size, low_at, high_at, row_band}
use Rattle.rows.specs.declared.SafeDial.{SafeDial}

-- a band byte that isn't the channel band's number, or any where flag bit 2 is clear; flags and channel are bytes 42 and 43 of the image
unfoldable pub is_outside : ℕ → ℕ → ℕ → Bool
is_outside flags channel band = not (bit_of flags 2 && eqb band channel)

-- "how far the dial stands below the row's lower dial or above its upper, 0 on or between them"
abbrev pub distance_to : Float → Float → Float → Float
distance_to dial low high = cond (lt dial low) (sub binary64 low dial) (cond (lt high dial) (sub binary64 dial high) zero_hz)

-- a row that counts: outside the channel band, and with its dials in their order, as every row of a list has them
abbrev pub counts : ℕ → ℕ → ℕ → Float → Float → Bool
counts flags channel band low high = is_outside flags channel band && le low high

-- the least of those so far and another
abbrev pub nearer_of : Option Float → Float → Option Float
nearer_of (Some least) by = Some (cond (lt by least) by least)
nearer_of None by = Some by

-- a row taken in
abbrev pub considered_of : Float → ℕ → ℕ → Option Float → SafeDial → Option Float
considered_of dial flags channel best x =
    cond (counts flags channel x.band x.dial_low_hz x.dial_high_hz) (nearer_of best (distance_to dial x.dial_low_hz x.dial_high_hz)) best

-- the row at a place taken in
unfoldable pub considered_at : Float → ℕ → ℕ → List ℕ → Option Float → ℕ → Option Float
considered_at dial flags channel rows best at =
    cond (counts flags channel (row_band rows at) (low_at rows at) (high_at rows at))
    (nearer_of best (distance_to dial (low_at rows at) (high_at rows at)))
    best

-- the least over the first n rows
unfoldable pub least_up_to : Float → ℕ → ℕ → List ℕ → ℕ → Option Float
least_up_to dial flags channel rows zero = None
least_up_to dial flags channel rows (suc n) = considered_at dial flags channel rows (least_up_to dial flags channel rows n) (n * row_size)

-- "21 a station figure not finite or above 2^40 in size", here the dial asked; "23 the dial list longer than the whole rows lent"
abbrev pub distance_tests : Float → ℕ → List ℕ → List Test
distance_tests dial count rows =
    test refusal.StationFigure (not (in_size limit40 dial)) ∷ test refusal.Rows (ltb (length rows / row_size) count) ∷ []

abbrev pub distance_unless_refused : Checked → Option Float → Result (Option Float) Refusal
distance_unless_refused (Ok tt) d = Ok d
distance_unless_refused (Err n) d = Err n

-- the distance of a dial from the first count rows; a dial of negative zero reads as zero
unfoldable pub distance_of : Float → ℕ → ℕ → ℕ → List ℕ → Result (Option Float) Refusal
distance_of dial flags channel count rows =
    distance_unless_refused (refusal_of (distance_tests dial count rows)) (least_up_to (read_hz dial) flags channel rows count)
