-- `byte_writes::bits` meets its contract: the bits of a NaN.
use Rattle.std.proofs.Common.{◌≡◌, true, refl, sym, ◌∙◌, true≢false}
use Rattle.std.specs.Float.{binary64}
use Rattle.std.specs.Float.Ieee.{Float, nan, inf, fin, is_nan, to_bits}
use Rattle.byte_writes.proofs.bits.Goals as goal

nan_bits_holds : (x : Float) → is_nan x ≡ true → 0x7ff8_0000_0000_0000 ≡ to_bits binary64 x
unfolding is_nan to_bits
nan_bits_holds nan e = refl
nan_bits_holds (inf s) e = absurd (true≢false (sym e))
nan_bits_holds (fin s m d) e = absurd (true≢false (sym e))

pub returns-then-is_nan : goal.returns-then-is_nan
returns-then-is_nan c = nan_bits_holds _ (sym c.is_nan.ensures.value ∙ c.if-is_nan.true)
