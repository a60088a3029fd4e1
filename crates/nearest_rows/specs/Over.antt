-- The nearest to a dial of the dials in several rows, those of the channel band left out (document 02, 11).
use Rattle.std.specs.Prelude.{ℕ, Bool, true, false, cond, List, [], ◌∷◌, Float, Option, Some, None}
use Rattle.std.specs.Float.{binary64}
use Rattle.std.specs.Float.Ieee.{sub, lt}
use Rattle.rows.specs.declared.SafeDial.{SafeDial}
use Rattle.distance.specs.Distance.{is_outside}

-- the dial of a row that is nearest to a dial
unfoldable pub point_of : Float → Float → Float → Float
point_of dial low high = cond (lt dial low) low (cond (lt high dial) high dial)

-- how far a dial is from another
unfoldable pub far_of : Float → Float → Float
far_of dial x = cond (lt x dial) (sub binary64 dial x) (sub binary64 x dial)

-- "no allowed one is closer; of two equally close, the lower": x goes before y
unfoldable pub before : Float → Float → Float → Bool
before dial x y = cond (lt (far_of dial x) (far_of dial y)) true (cond (lt (far_of dial y) (far_of dial x)) false (lt x y))

abbrev pub better_of : Float → Option Float → Float → Option Float
better_of dial (Some y) x = cond (before dial x y) (Some x) (Some y)
better_of dial None x = Some x

-- a row, if it is outside the channel band
abbrev pub considered_of : Float → ℕ → ℕ → Option Float → SafeDial → Option Float
considered_of dial flags channel best x =
    cond (is_outside flags channel x.band) (better_of dial best (point_of dial x.dial_low_hz x.dial_high_hz)) best

unfoldable pub nearest_over : Float → ℕ → ℕ → Option Float → List SafeDial → Option Float
nearest_over dial flags channel best [] = best
nearest_over dial flags channel best (x ∷ xs) = nearest_over dial flags channel (considered_of dial flags channel best x) xs
