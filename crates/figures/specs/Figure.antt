-- Figures: doubles, each operation rounding once. What stands here for Rust's `min`, `max`, `abs`, `midpoint` and `total_cmp`,
-- and document 01's size test. Equality is of values, the sign of a zero included.
use Rattle.std.specs.Prelude.{ℕ, Bool, not, cond, ◌&&◌, ◌||◌, Float}
use Rattle.std.specs.Float.{binary64}
use Rattle.std.specs.Float.Ieee.{add, div, neg, lt, le, eq, ne, of_bits}

-- The literals of the gate. Each stands here once, by its bits.
abbrev pub zero_hz : Float
zero_hz = of_bits binary64 0

abbrev pub one : Float
one = of_bits binary64 0x3ff0_0000_0000_0000

abbrev pub two : Float
two = of_bits binary64 0x4000_0000_0000_0000

-- 2 ^ 40 (1,099,511,627,776), document 01's limit on the size of a figure
abbrev pub limit40 : Float
limit40 = of_bits binary64 0x4270_0000_0000_0000

-- the bits of negative zero
abbrev pub negative_zero_bits : ℕ
negative_zero_bits = 0x8000_0000_0000_0000

-- the lesser of two; where one is no number, the other
abbrev pub min_of : Float → Float → Float
min_of x y = cond (ne x x) y (cond (lt y x) y x)

-- the greater of two; where one is no number, the other
abbrev pub max_of : Float → Float → Float
max_of x y = cond (ne x x) y (cond (lt x y) y x)

-- the size of a figure: without its sign, that of a zero included
abbrev pub abs_of : Float → Float
abs_of x = cond (lt x zero_hz) (neg x) (cond (eq x zero_hz) zero_hz x)

-- `midpoint`, here the sum halved
abbrev pub midpoint_of : Float → Float → Float
midpoint_of x y = div binary64 (add binary64 x y) two

-- The sign of a figure that is a number: a quotient of one by it tells the two zeros apart.
abbrev pub negative : Float → Bool
negative x = lt (div binary64 one x) zero_hz

-- `total_cmp` gives Less, of two figures that are numbers: the order of numbers, with negative zero below zero
abbrev pub total_less : Float → Float → Bool
total_less x y = lt x y || (eq x y && (negative x && not (negative y)))

-- finite and at most `limit` in size: an infinity is above every limit, and no number compares with what is none
abbrev pub in_size : Float → Float → Bool
in_size limit x = le (abs_of x) limit

-- "Negative zero in edges or station reads as zero."
abbrev pub read_hz : Float → Float
read_hz x = cond (eq x zero_hz) zero_hz x

-- "f64 means its 64 bits."
abbrev pub figure_of : ℕ → Float
figure_of b = of_bits binary64 b
