-- The laws of the grid of eighths, for other crates to cite: a figure's p and q, exact sums and differences, and comparisons. Assumes nothing.
use Rattle.std.specs.Prelude.{◌≡◌, refl, true, false, ℕ, ◌+◌, ◌-◌, ◌*◌, ◌%◌, ◌^◌, ◌≤◌, leb, Float}
use Rattle.std.proofs.Common.{sym, ap, ◌∙◌, true≢false, div-add-mod', arith, leb-true, leb-false, ltb-true, ltb-false, eqb-true, le-leb, lt-ltb, le-ltb, eq-eqb}
use Rattle.std.proofs.Math.Nat.{mul-sub, mul-mod_right}
use Rattle.std.proofs.Math.Dec.{ltb, eqb}
use Rattle.std.proofs.lemmas.Bool.{lt-leb}
use Rattle.std.specs.Float.{nan, inf, fin, binary64}
use Rattle.std.specs.Float.Ieee.{up, down, of_bits, add, sub, neg, lt, le, eq, is_nan}
use Rattle.eighths.specs.Grid.{Value, Small, in_eighths, Eighths, plus_eighths, minus_eighths, Figure}
use Rattle.eighths.specs.Steps.{finite, summed, ordered, levelled, lt_or_eq}

-- What `omega orders` needs to prove and to use tests of numbers such as `leb a b ≡ true`, which the comparisons below come to.
pub ruleset orders = (arith, leb-true, leb-false, ltb-true, ltb-false, eqb-true, le-leb, lt-leb, lt-ltb, le-ltb, eq-eqb)

-- ---- the test, and p and q

of_value : (x : Float) → in_eighths x ≡ true → Value x (plus_eighths x) (minus_eighths x)
unfolding in_eighths plus_eighths minus_eighths
of_value nan h = absurd (true≢false (sym h))
of_value (inf s) h = absurd (true≢false (sym h))
of_value (fin false m e) h = let n = m * up e * 8 in omega (arith, div-add-mod' n (down e), eqb-true (n % down e) 0 h)
of_value (fin true m e) h = let n = m * up e * 8 in omega (arith, div-add-mod' n (down e), eqb-true (n % down e) 0 h)

-- A figure that passes the test has a p and a q, of whatever size it is.
pub eighths_of : (x : Float) → in_eighths x ≡ true → Eighths x (plus_eighths x) (minus_eighths x)
eighths_of x h = record { value = of_value x h }

whole : (n d p q : ℕ) → n + q * d ≡ p * d → eqb (n % d) 0 ≡ true
whole n d p q h = let e : n ≡ d * (p - q) = rw mul-sub (omega arith) in eq-eqb (n % d) 0 (rw e (mul-mod_right d (p - q)))

in_value : (x : Float) (p q : ℕ) → Value x p q → in_eighths x ≡ true
unfolding in_eighths
in_value nan p q v = absurd v
in_value (inf s) p q v = absurd v
in_value (fin false m e) p q v = whole (m * up e * 8) (down e) p q v
in_value (fin true m e) p q v = whole (m * up e * 8) (down e) q p v

-- A figure that has a p and a q passes the test.
pub in_eighths_holds : {x : Float} {p q : ℕ} → Eighths x p q → in_eighths x ≡ true
in_eighths_holds {x} {p} {q} h = in_value x p q h.value

number : (x : Float) (p q : ℕ) → Value x p q → is_nan x ≡ false
unfolding is_nan
number nan p q v = absurd v
number (inf s) p q v = refl
number (fin s m e) p q v = refl

-- A figure in eighths is a number, so it has a bit pattern of its own.
pub not_nan : {x : Float} {p q : ℕ} → Eighths x p q → is_nan x ≡ false
not_nan {x} {p} {q} h = number x p q h.value

-- The literal 0.0. Any other literal goes the same way.
pub zero_eighths : Eighths (of_bits binary64 0) 0 0
unfolding of_bits
zero_eighths = record { value = refl }

moved_value : (x : Float) (p q p' q' : ℕ) → p + q' ≡ p' + q → Value x p q → Value x p' q'
moved_value nan p q p' q' g v = v
moved_value (inf s) p q p' q' g v = v
moved_value (fin false m e) p q p' q' g v = omega (arith, v, ap (λ (n : ℕ). n * down e) g)
moved_value (fin true m e) p q p' q' g v = omega (arith, v, ap (λ (n : ℕ). n * down e) g)

-- Any p' and q' of the same difference serve as well. `same_eighths`, below, is the converse.
pub moved_eighths : {x : Float} {p q p' q' : ℕ} → Eighths x p q → p + q' ≡ p' + q → Eighths x p' q'
moved_eighths {x} {p} {q} {p'} {q'} h g = record { value = moved_value x p q p' q' g h.value }

-- ---- sums

-- Sums and differences are exact while they stay below 2 ^ 50 in size; `omega arith` is the last argument.
pub add_eighths : {x y : Float} {p q p' q' : ℕ} → Eighths x p q → Eighths y p' q' → Small (p + p') (q + q') → Eighths (add binary64 x y) (p + p') (q + q')
unfolding add
add_eighths {x} {y} {p} {q} {p'} {q'} h k small = record {
  value = finite (λ x y. Value (add binary64 x y) (p + p') (q + q')) x y p q p' q' h.value k.value
      (λ s t m n e d. summed s t (m * up e * down d) (n * up d * down e) (down e * down d) p q p' q' small);
}

neg_value : (x : Float) (p q : ℕ) → Value x p q → Value (neg x) q p
unfolding neg
neg_value nan p q v = v
neg_value (inf s) p q v = v
neg_value (fin false m e) p q v = v
neg_value (fin true m e) p q v = v

-- Minus a figure has p and q exchanged.
pub neg_eighths : {x : Float} {p q : ℕ} → Eighths x p q → Eighths (neg x) q p
neg_eighths {x} {p} {q} h = record { value = neg_value x p q h.value }

pub sub_eighths : {x y : Float} {p q p' q' : ℕ} → Eighths x p q → Eighths y p' q' → Small (p + q') (q + p') → Eighths (sub binary64 x y) (p + q') (q + p')
unfolding sub
sub_eighths h k small = add_eighths h (neg_eighths k) small

-- ---- comparisons

-- A comparison of two figures is that of their numbers of eighths, whatever their size.
module _ {x y : Float} {p q p' q' : ℕ} (h : Eighths x p q) (k : Eighths y p' q') where
  pub lt_eighths : lt x y ≡ ltb (p + q') (p' + q)
  unfolding lt
  lt_eighths =
      finite (λ x y. lt x y ≡ ltb (p + q') (p' + q)) x y p q p' q' h.value k.value
      (λ s t m n e d. ordered s t (m * up e * down d) (n * up d * down e) (down e * down d) p q p' q')

  pub eq_eighths : eq x y ≡ eqb (p + q') (p' + q)
  unfolding eq
  eq_eighths =
      finite (λ x y. eq x y ≡ eqb (p + q') (p' + q)) x y p q p' q' h.value k.value
      (λ s t m n e d. levelled s t (m * up e * down d) (n * up d * down e) (down e * down d) p q p' q')

  pub le_eighths : le x y ≡ leb (p + q') (p' + q)
  unfolding le
  le_eighths = rw (lt_eighths, eq_eighths) (lt_or_eq (p + q') (p' + q))

-- The difference of p and q is determined.
pub same_eighths : {x : Float} {p q p' q' : ℕ} → Eighths x p q → Eighths x p' q' → p + q' ≡ p' + q
same_eighths {x} {p} {q} {p'} {q'} h k = eqb-true (p + q') (p' + q) (sym (eq_eighths h k) ∙ eq_eighths h h ∙ eq-eqb (p + q) (p + q) refl)

-- ---- bounds

plus_least : (x : Float) (p q : ℕ) → plus_eighths x + q ≤ p + minus_eighths x → plus_eighths x ≤ p
unfolding plus_eighths minus_eighths
plus_least nan p q h = omega arith
plus_least (inf s) p q h = omega arith
plus_least (fin false m e) p q h = omega arith
plus_least (fin true m e) p q h = omega arith

minus_least : (x : Float) (p q : ℕ) → p + minus_eighths x ≤ plus_eighths x + q → minus_eighths x ≤ q
unfolding plus_eighths minus_eighths
minus_least nan p q h = omega arith
minus_least (inf s) p q h = omega arith
minus_least (fin false m e) p q h = omega arith
minus_least (fin true m e) p q h = omega arith

-- A figure y, on either side of x, bounds x's two numbers.
module _ {y : Float} {p q : ℕ} (x : Float) (on : in_eighths x ≡ true) (k : Eighths y p q) where
  pub plus_bound : le x y ≡ true → plus_eighths x ≤ p
  plus_bound l = plus_least x p q (leb-true (plus_eighths x + q) (p + minus_eighths x) (rw (le_eighths (eighths_of x on) k) at l))

  pub minus_bound : le y x ≡ true → minus_eighths x ≤ q
  minus_bound l = minus_least x p q (leb-true (p + minus_eighths x) (plus_eighths x + q) (rw (le_eighths k (eighths_of x on)) at l))

-- 2 ^ 40
most : Eighths (of_bits binary64 0x4270000000000000) (2 ^ 43) 0
unfolding of_bits
most = record { value = refl }

-- A figure in eighths from -2 ^ 40 to 2 ^ 40.
pub figure_of_holds : (x : Float) → in_eighths x ≡ true → le x (of_bits binary64 0x4270000000000000) ≡ true
    → le (neg (of_bits binary64 0x4270000000000000)) x ≡ true → Figure x
figure_of_holds x on above below = record {
  eighths = eighths_of x on;
  plus_le = plus_bound x on most above;
  minus_le = minus_bound x on (neg_eighths most) below;
}
