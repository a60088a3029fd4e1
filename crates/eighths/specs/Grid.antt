-- Document 01: "A figure is in eighths if eight times it is whole." The test, and a figure in eighths as a difference of two natural numbers.
-- Definitions only, and three worked examples; `Laws` proves what holds of them. Assumes nothing.
use Rattle.std.specs.Prelude.{◌≡◌, refl, Bool, true, false, ℕ, ◌+◌, ◌*◌, ◌/◌, ◌%◌, ◌^◌, ◌≤◌, ◌<◌, eqb, Float}
use Rattle.std.specs.Float.{nan, inf, fin, binary64}
use Rattle.std.specs.Float.Ieee.{up, down, of_bits}

-- x is in eighths: it is finite, and eight times it is whole.
unfoldable pub in_eighths : Float → Bool
in_eighths nan = false
in_eighths (inf s) = false
in_eighths (fin s m e) = eqb (m * up e * 8 % down e) 0

-- Eight times a, taken as negative where the sign is true, is p - q.
abbrev pub Signed : Bool → ℕ → ℕ → ℕ → Type 0
Signed false a p q = a * 8 + q ≡ p
Signed true a p q = a * 8 + p ≡ q

-- x is finite and is (p - q) / 8, said with both sides multiplied by x's denominator.
abbrev pub Value : Float → ℕ → ℕ → Type 0
Value nan p q = ⊥
Value (inf s) p q = ⊥
Value (fin s m e) p q = Signed s (m * up e) (p * down e) (q * down e)

-- The figure x is finite and is (p - q) / 8. Only the difference counts, and a zero of either sign has p equal to q.
-- It is a record so that x, p and q are found from a proof of it.
pub record Eighths (x : Float) (p q : ℕ) : Type 0 where
  pub value : Value x p q

-- How many whole eighths x lies above zero, and how many below it: one of the two is 0.
unfoldable pub plus_eighths : Float → ℕ
plus_eighths nan = 0
plus_eighths (inf s) = 0
plus_eighths (fin false m e) = m * up e * 8 / down e
plus_eighths (fin true m e) = 0

unfoldable pub minus_eighths : Float → ℕ
minus_eighths nan = 0
minus_eighths (inf s) = 0
minus_eighths (fin false m e) = 0
minus_eighths (fin true m e) = m * up e * 8 / down e

-- p - q is below 2 ^ 53 in size, so that binary64 holds (p - q) / 8. `omega arith` proves it from bounds on p and q.
abbrev pub Small : ℕ → ℕ → Type 0
Small p q = (p < q + 2 ^ 53) × (q < p + 2 ^ 53)

-- x is in eighths and at most 2 ^ 40 in size. `omega` reads the two bounds of a hypothesis `Figure x` unasked.
pub record Figure (x : Float) : Type 0 where
  pub eighths : Eighths x (plus_eighths x) (minus_eighths x)
  pub plus_le : plus_eighths x ≤ 2 ^ 43
  pub minus_le : minus_eighths x ≤ 2 ^ 43

-- 14,023,800.125 is in eighths.
on_grid : in_eighths (of_bits binary64 0x416abf8f04000000) ≡ true
unfolding in_eighths of_bits
on_grid = refl

-- 0.1 is not.
off_grid : in_eighths (of_bits binary64 0x3fb999999999999a) ≡ false
unfolding in_eighths of_bits
off_grid = refl

-- -0.125 is (0 - 1) / 8. Any literal's p and q are shown so.
literal : Eighths (of_bits binary64 0xbfc0000000000000) 0 1
unfolding of_bits
literal = record { value = refl }
