-- A whole number of hertz up to 2^40 in size is a figure that no test refuses, and reads as it is.
use Rattle.std.specs.Prelude.{ℕ, zero, suc, ◌+◌, ◌*◌, ◌^◌, ◌≤◌, Bool, true, false, cond, ◌≡◌, refl, ℤ, pos, negsuc, nat_abs}
use Rattle.std.proofs.Common.{ap, subst, ◌∙◌, arith, lt-ltb, le-ltb, le-leb, ne_eqb}
use Rattle.std.specs.Float.{binary64}
use Rattle.std.specs.Float.Ieee.{of_bits, of_int, round, sum, neg, le, eq}
use Rattle.figures.specs.Figure.{zero_hz, limit40, in_size, read_hz}
use Rattle.eighths.specs.Grid.{Value, Eighths}
use Rattle.eighths.specs.Steps.{summed}
use Rattle.eighths.specs.Laws.{zero_eighths, neg_eighths, lt_eighths, eq_eighths, le_eighths}
use Rattle.census.specs.Census.{farthest}

-- its value in eighths
above : (n : ℕ) → n ≤ farthest → Eighths (of_int binary64 (pos n)) (8 * n) 0
unfolding of_int sum
above n h =
    let e : n + 0 ≡ n = omega arith in
    let p : 8 * n + 0 ≡ 8 * n = omega arith in
    record {
      value =
          subst (λ (k : ℕ). Value (round binary64 false n 1) k 0) p
          (subst (λ (k : ℕ). Value (round binary64 false k 1) (8 * n + 0) 0) e
          (summed false false n 0 1 (8 * n) 0 0 0 (omega arith, omega arith) (omega arith) (omega arith) (omega arith)));
    }

below : (n : ℕ) → suc n ≤ farthest → Eighths (of_int binary64 (negsuc n)) 0 (8 * suc n)
unfolding of_int sum
below n h =
    let e : suc n + 0 ≡ suc n = omega arith in
    let p : 8 * suc n + 0 ≡ 8 * suc n = omega arith in
    record {
      value =
          subst (λ (k : ℕ). Value (round binary64 true (suc n) 1) 0 k) p
          (subst (λ (k : ℕ). Value (round binary64 true k 1) 0 (8 * suc n + 0)) e
          (summed true true (suc n) 0 1 0 (8 * suc n) 0 0 (omega arith, omega arith) (omega arith) (omega arith) (omega arith)));
    }

most : Eighths limit40 (2 ^ 43) 0
unfolding of_bits
most = record { value = refl }

-- the size test
pub whole_in_size : (z : ℤ) → nat_abs z ≤ farthest → in_size limit40 (of_int binary64 z) ≡ true
whole_in_size (pos n) h =
    let x = of_int binary64 (pos n) in
    ap (λ (t : Bool). le (cond t (neg x) (cond (eq x zero_hz) zero_hz x)) limit40) (lt_eighths (above n h) zero_eighths ∙ le-ltb (8 * n + 0)
    (0 + 0) (omega arith))
    ∙ go (eq x zero_hz)
  where
    zero_in : le zero_hz limit40 ≡ true
    zero_in = le_eighths zero_eighths most ∙ le-leb (0 + 0) (2 ^ 43 + 0) (omega arith)

    go : (t : Bool) → le (cond t zero_hz (of_int binary64 (pos n))) limit40 ≡ true
    go true = zero_in
    go false = le_eighths (above n h) most ∙ le-leb (8 * n + 0) (2 ^ 43 + 0) (omega arith)
whole_in_size (negsuc n) h =
    let x = of_int binary64 (negsuc n) in
    ap (λ (t : Bool). le (cond t (neg x) (cond (eq x zero_hz) zero_hz x)) limit40)
    (lt_eighths (below n h) zero_eighths ∙ lt-ltb (0 + 0) (0 + 8 * suc n) (omega arith))
    ∙ le_eighths (neg_eighths (below n h)) most
    ∙ le-leb (8 * suc n + 0) (2 ^ 43 + 0) (omega arith)

-- nought is plus nought
nought_read : read_hz (of_int binary64 (pos 0)) ≡ of_int binary64 (pos 0)
unfolding of_int round of_bits eq
nought_read = refl

pub whole_read : (z : ℤ) → nat_abs z ≤ farthest → read_hz (of_int binary64 z) ≡ of_int binary64 z
whole_read (pos zero) h = nought_read
whole_read (pos (suc n)) h =
    ap (λ (t : Bool). cond t zero_hz (of_int binary64 (pos (suc n))))
    (eq_eighths (above (suc n) h) zero_eighths ∙ ne_eqb (8 * suc n + 0) (0 + 0) (λ e. absurd (omega arith)))
whole_read (negsuc n) h =
    ap (λ (t : Bool). cond t zero_hz (of_int binary64 (negsuc n)))
    (eq_eighths (below n h) zero_eighths ∙ ne_eqb (0 + 0) (0 + 8 * suc n) (λ e. absurd (omega arith)))
