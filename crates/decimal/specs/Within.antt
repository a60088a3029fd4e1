-- Figures by a limit of their size, a power of two: what the size test says, and what a quotient by 1,000 and a product by 10 keep to.
use Rattle.std.specs.Prelude.{◌≡◌, ℕ, zero, suc, ◌+◌, ◌*◌, ◌^◌, ◌<◌, ◌≤◌, Bool, true, false, cond, not, ◌&&◌, ◌||◌, T, ℤ, pos, ◌==◌, nat_lt, refl, Float}
use Rattle.std.proofs.Common.{sym, ap, subst, le_trans, le_of_eq, le_of_lt, mul-le-mul_right, mul-one, one-mul, zero-mul, arith, ltb→lt, nltb→le, eqb→eq, pow_mono}
use Rattle.std.proofs.lemmas.Bool.{false≢true}
use Rattle.std.specs.Float.{nan, inf, fin, binary64}
use Rattle.std.specs.Float.Ieee.{low, emax, up, down, neg, lt, eq, le, div, mul, odd, units, round, of_bits, unlike}
use Rattle.std.specs.Float.Ieee.Fits.{down_pos, round_is, and_l}
use Rattle.std.specs.Float.Ieee.Order.{round_mono}
use Rattle.figures.specs.Figure.{zero_hz, in_size}

-- at most 2 ^ j in size, and finite
abbrev pub Within : ℕ → Float → Type 0
Within j nan = ⊥
Within j (inf s) = ⊥
Within j (fin s m e) = m * up e ≤ 2 ^ j * down e

pub within_more : (i j : ℕ) → i ≤ j → (x : Float) → Within i x → Within j x
within_more i j h nan w = w
within_more i j h (inf s) w = w
within_more i j h (fin s m e) w = le_trans w (mul-le-mul_right (down e) (pow_mono h))

-- 2 ^ 43, document 02's limit on a figure that is written
abbrev pub limit43 : Float
limit43 = of_bits binary64 0x42a0_0000_0000_0000

-- ---- what an order says of two figures that are not negative

or_le : (a b : ℕ) (c : Bool) → T (nat_lt a b || (a == b && c)) → a ≤ b
or_le a b c t = go (nat_lt a b) (a == b) (ltb→lt a b) (eqb→eq a b) t
  where
    go : (p q : Bool) → (T p → a < b) → (T q → a ≡ b) → T (p || (q && c)) → a ≤ b
    go true q f g t = le_of_lt (f tt)
    go false true f g t = le_of_eq (g tt)
    go false false f g t = absurd t

-- its sign is clear
abbrev Plain : Float → Type 0
Plain nan = ⊥
Plain (inf s) = s ≡ false
Plain (fin s m e) = s ≡ false

within_le : (j : ℕ) (x : Float) → Plain x → T (le x (fin false 1 (pos j))) → Within j x
unfolding le lt eq
within_le j nan p t = absurd t
within_le j (inf true) p t = absurd (false≢true (sym p))
within_le j (inf false) p t = absurd t
within_le j (fin true m e) p t = absurd (false≢true (sym p))
within_le j (fin false m e) p t =
    let a : m * up e * 1 ≤ 1 * 2 ^ j * down e = or_le (m * up e * 1) (1 * 2 ^ j * down e) true t in
    le_trans (le_of_eq (sym (mul-one (m * up e)))) (le_trans a (le_of_eq (ap (λ (n : ℕ). n * down e) (one-mul (2 ^ j)))))

-- ---- the size test

is_t : (b : Bool) → b ≡ true → T b
is_t true e = tt
is_t false e = absurd (false≢true e)

nought : (j : ℕ) (s : Bool) (m : ℕ) (e : ℤ) → m * up e ≡ 0 → Within j (fin s m e)
nought j s m e h = omega arith

module _ (j m : ℕ) (e : ℤ) where
  plus : (p q : Bool) → (T p → m * up e ≡ 0) → (T q → m * up e ≡ 0)
      → le (cond p (fin true m e) (cond q zero_hz (fin false m e))) (fin false 1 (pos j)) ≡ true → Within j (fin false m e)
  plus true q f g h = nought j false m e (f tt)
  plus false true f g h = nought j false m e (g tt)
  plus false false f g h = within_le j (fin false m e) refl (is_t _ h)

  less : (p q : Bool) → (T (not p) → m * up e ≡ 0)
      → le (cond p (fin false m e) (cond q zero_hz (fin true m e))) (fin false 1 (pos j)) ≡ true → Within j (fin true m e)
  less true q f h = within_le j (fin false m e) refl (is_t _ h)
  less false q f h = nought j true m e (f tt)

none : (a b d : ℕ) → a * 1 < 0 * b * d → a ≡ 0
none a b d h = omega (arith, h, zero-mul b, zero-mul d)

same : (a b d : ℕ) → a * 1 ≡ 0 * b * d → a ≡ 0
same a b d h = omega (arith, h, zero-mul b, zero-mul d)

no_more : (a b d : ℕ) → a * 1 + 0 * b * d ≤ 0 → a ≡ 0
no_more a b d h = omega arith

pub in_size_power : (j : ℕ) (x : Float) → in_size (fin false 1 (pos j)) x ≡ true → Within j x
unfolding le lt eq neg of_bits
in_size_power j nan h = absurd (false≢true h)
in_size_power j (inf true) h = absurd (false≢true h)
in_size_power j (inf false) h = absurd (false≢true h)
in_size_power j (fin false m e) h =
    plus j m e (nat_lt (m * up e * 1) (0 * 1 * down e)) (m * up e * 1 == 0 * 1 * down e && true)
    (λ t. none (m * up e) 1 (down e) (ltb→lt _ _ t)) (λ t. same (m * up e) 1 (down e) (eqb→eq _ _ (and_l (m * up e * 1 == 0 * 1 * down e) true t))) h
in_size_power j (fin true m e) h =
    less j m e (nat_lt 0 (m * up e * 1 + 0 * 1 * down e)) (m * up e * 1 == 0 * 1 * down e && (false || m * up e * 1 == 0))
    (λ t. no_more (m * up e) 1 (down e) (nltb→le _ _ t)) h

pub in_size_within : (x : Float) → in_size limit43 x ≡ true → Within 43 x
unfolding of_bits
in_size_within x h = in_size_power 43 x h

-- ---- what is rounded keeps to a power of two

odd_sign_free : (j d : ℕ) (s : Bool) (q k l : ℕ) → Within j (odd d false q k l) → Within j (odd d s q k l)
unfolding odd
odd_sign_free j d s zero k l w = w
odd_sign_free j d s (suc q) k l w = w

units_sign_free : (j : ℕ) (s : Bool) (q k : ℕ) → Within j (units binary64 false q k) → Within j (units binary64 s q k)
unfolding units
units_sign_free j s q k w = go (nat_lt (q * 2 ^ k) (2 ^ (low binary64 + suc (emax binary64)))) w
  where
    go : (b : Bool) → Within j (cond b (odd 54 false q k (low binary64)) (inf false)) → Within j (cond b (odd 54 s q k (low binary64)) (inf s))
    go true w = odd_sign_free j 54 s q k (low binary64) w
    go false w = w

odd_plain : (d q k l : ℕ) → Plain (odd d false q k l)
unfolding odd
odd_plain d zero k l = refl
odd_plain d (suc q) k l = refl

units_plain : (q k : ℕ) → Plain (units binary64 false q k)
unfolding units
units_plain q k = go (nat_lt (q * 2 ^ k) (2 ^ (low binary64 + suc (emax binary64))))
  where
    go : (b : Bool) → Plain (cond b (odd 54 false q k (low binary64)) (inf false))
    go true = odd_plain 54 q k (low binary64)
    go false = refl

round_plain : (a b : ℕ) → Plain (round binary64 false a b)
round_plain a b = subst Plain (sym (round_is binary64 false a b)) (units_plain _ _)

round_sign_free : (j : ℕ) (s : Bool) (a b : ℕ) → Within j (round binary64 false a b) → Within j (round binary64 s a b)
round_sign_free j s a b w =
    subst (Within j) (sym (round_is binary64 s a b)) (units_sign_free j s _ _ (subst (Within j) (round_is binary64 false a b) w))

-- 2 ^ j is rounded to itself: a test that computes
module _ (j : ℕ) (itself : round binary64 false (2 ^ j) 1 ≡ fin false 1 (pos j)) where
  round_within : (s : Bool) (a b : ℕ) → 0 < b → a ≤ 2 ^ j * b → Within j (round binary64 s a b)
  round_within s a b p h =
      round_sign_free j s a b
      (within_le j (round binary64 false a b) (round_plain a b)
      (subst (λ (y : Float). T (le (round binary64 false a b) y)) itself
      (round_mono binary64 a b (2 ^ j) 1 p (omega arith) (le_trans (le_of_eq (mul-one a)) h))))

itself_34 : round binary64 false (2 ^ 34) 1 ≡ fin false 1 (pos 34)
unfolding round
itself_34 = refl

itself_38 : round binary64 false (2 ^ 38) 1 ≡ fin false 1 (pos 38)
unfolding round
itself_38 = refl

-- ---- a quotient by 1,000, and a product by 10

abbrev pub thousand : Float
thousand = of_bits binary64 0x408f_4000_0000_0000

abbrev pub ten : Float
ten = of_bits binary64 0x4024_0000_0000_0000

pub div_within : (x : Float) → Within 43 x → Within 34 (div binary64 x thousand)
unfolding div of_bits
div_within nan w = w
div_within (inf s) w = w
div_within (fin s m e) w = let p = down_pos e in
    round_within 34 itself_34 (unlike s false) (m * up e * 1) (125 * 8 * down e) (omega (arith, p)) (omega (arith, w, p))

pub mul_within : (x : Float) → Within 34 x → Within 38 (mul binary64 x ten)
unfolding mul of_bits
mul_within nan w = w
mul_within (inf s) w = w
mul_within (fin s m e) w = let p = down_pos e in
    round_within 38 itself_38 (unlike s false) (m * up e * (5 * 2)) (down e * 1) (omega (arith, p)) (omega (arith, w, p))
