-- `figures::figure` meets its contract: a NaN's pattern, its sign aside, is above that of infinity, and stands for the one NaN,
-- which 0 / 0 is.
use Prim.Native.Nat.{ℕ}
use mathlib.Core.Bool.{true, false≢true}
use mathlib.Core.Path.{◌≡◌, refl, sym, ◌∙◌}
use lib.Ieee.{Float, nan, inf, fin, binary64, div, of_bits, is_nan, nan_bits}
use lib.Ieee.Bits.{nan_bits_is, nan_bits_above}
use borrow.Author.Tests.{lt-ltb, le-ltb}
use Rattle.figures.proofs.figure.Goals as goal

is_nan_holds : (x : Float) → is_nan x ≡ true → x ≡ nan
unfolding is_nan
is_nan_holds nan e = refl
is_nan_holds (inf s) e = absurd (false≢true e)
is_nan_holds (fin s m e') e = absurd (false≢true e)

nan_pattern : (b : ℕ) → nan_bits binary64 b ≡ true → div binary64 (of_bits binary64 0) (of_bits binary64 0) ≡ of_bits binary64 b
unfolding div of_bits
nan_pattern b e = sym (is_nan_holds (of_bits binary64 b) (sym (nan_bits_is binary64 b) ∙ e))

pub returns-then-bits-gt9218868437227405312 : goal.returns-then-bits-gt9218868437227405312
returns-then-bits-gt9218868437227405312 c = nan_pattern c.args.bits (nan_bits_above binary64 c.args.bits ∙ lt-ltb _ _ c.if-bits-gt9218868437227405312.true)

pub float_from_bits-result : goal.float_from_bits-result
float_from_bits-result c = rw (nan_bits_above binary64 c.args.bits ∙ le-ltb _ _ c.if-bits-gt9218868437227405312.false) tt
