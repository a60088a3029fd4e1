-- A double's exact value, rounded to a decimal, and Rust's `round`. A finite double is m * 2 ^ e with a sign: the fraction
-- m * up e / down e of two whole numbers (lib.Ieee).
use Rattle.std.specs.Prelude.{ℕ, ◌+◌, ◌*◌, ◌/◌, Bool, false, cond, pos, Float}
use Rattle.std.specs.Float.{nan, inf, fin, binary64}
use Rattle.std.specs.Float.Ieee.{up, down, neg, of_int}
use Rattle.std.specs.Float.Ieee.Nearest.{closest}
use Rattle.decimal.specs.declared.Decimal.{Decimal}

-- "The digits are those of the printed double's exact value, nearest, halves to even": in units of the last place, of which there are
-- 10 ^ places to the whole. `closest` is the whole number nearest to a fraction, of two equally near the even one.
unfoldable pub decimal_of : ℕ → Float → ℕ
decimal_of units nan = 0
decimal_of units (inf s) = 0
decimal_of units (fin s m e) = closest (m * up e * units) (down e)

-- "keep the sign Rust prints": the double's own, that of a zero too
unfoldable pub sign_of : Float → Bool
sign_of nan = false
sign_of (inf s) = s
sign_of (fin s m e) = s

-- the whole number nearest to a fraction, of two equally near the greater
abbrev pub half_up : ℕ → ℕ → ℕ
half_up num den = (2 * num + den) / (2 * den)

abbrev pub signed : Bool → Float → Float
signed s x = cond s (neg x) x

-- Rust's f64::round: "its own rounding", halves away from zero
unfoldable pub round_of : Float → Float
round_of nan = nan
round_of (inf s) = inf s
round_of (fin s m e) = signed s (of_int binary64 (pos (half_up (m * up e) (down e))))

-- sign and units together
abbrev pub decimal_rounded : ℕ → Float → Decimal
decimal_rounded units x = record { negative = sign_of x; count = decimal_of units x }
