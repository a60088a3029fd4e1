-- The bytes of numbers and figures.
use Rattle.std.specs.Prelude.{ℕ, zero, suc, ◌/◌, ◌%◌, List, [], ◌∷◌, Float}
use Rattle.std.specs.Float.{binary64}
use Rattle.std.specs.Float.Ieee.{to_bits}

-- a number in a width of bytes, little-endian
unfoldable pub little : ℕ → ℕ → List ℕ
little zero x = []
little (suc w) x = x % 256 ∷ little w (x / 256)

-- "f64 means its 64 bits."
abbrev pub figure_bytes : Float → List ℕ
figure_bytes x = little 8 (to_bits binary64 x)
