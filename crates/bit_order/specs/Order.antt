-- Figures that are not negative stand in the order of their bits: with the sign clear, the greater number of two bit patterns is
-- the greater figure. So a figure whose bits are at most those of 2^40 is in size.
use Prim.Native.Nat.{ℕ, zero, suc, ◌+◌, ◌*◌, ◌/◌, ◌%◌, ◌^◌, ◌≤◌, ◌<◌}
use Rattle.std.specs.Prelude.{◌≡◌, refl, Bool, cond, leb, ℤ, pos, negsuc, Float}
use Rattle.std.proofs.Common.{sym, ap, ◌∙◌, subst, true≢false, le_trans, le_of_eq, lt_of_le_of_lt, mul-le-mul, mul-le-mul_left, le-mul_of_pos_right, div-add-mod', mod-lt, mod-eq_of_lt, mul_assoc, mul_comm, mul_right_comm, mul-pos, lt_of_mul-lt-mul_right, zero-mul, arith, pow_pos, pow_mono}
use Rattle.std.proofs.Math.Bool.{true, false}
use Rattle.std.proofs.Math.Nat.{lt_of_lt_of_le, mul-lt-mul_of_pos_right, two-pow-succ}
use Rattle.std.proofs.Math.Decide.{dec_le}
use Rattle.std.specs.Float.Ieee.{nan, up, down, hid, top, ones, low, odd, of_bits, of_fields, lt, le, eq, neg}
use Rattle.std.specs.Float.{inf, fin, binary64}
use Rattle.std.specs.Float.Ieee.Exact.{HasValue, odd_sign}
use borrow.Author.Tests.{lt-ltb, le-ltb, le-leb, lt-leb, eq-eqb, ne_eqb}
use Rattle.figures.specs.Figure.{zero_hz, limit40, in_size, figure_of}

-- the magnitude of a pattern's fields, in units of the least figure: an exponent's field of 0 has no leading digit
mag : ℕ → ℕ → ℕ → ℕ
mag h zero t = t
mag h (suc p) t = (h + t) * 2 ^ p

same_field : (x h t u : ℕ) → x * h + t < x * h + u → t < u
same_field x h t u e = omega arith

two_times : (p : ℕ) → 2 ^ suc p ≡ 2 * 2 ^ p
two_times p = two-pow-succ p ∙ omega arith

-- a smaller field
step : (h t : ℕ) (p q : ℕ) → t < h → p < q → (h + t) * 2 ^ p < h * 2 ^ q
step h t p q a b =
    let d : h + t < 2 * h = omega arith in
    let e : 2 ^ suc p ≤ 2 ^ q = pow_mono b in
    let f : 2 * h * 2 ^ p ≡ h * 2 ^ suc p = ap (λ (x : ℕ). x * 2 ^ p) (mul_comm 2 h) ∙ mul_assoc h 2 (2 ^ p) ∙ ap (λ (x : ℕ). h * x) (sym (two_times p)) in
    lt_of_lt_of_le (mul-lt-mul_of_pos_right d (pow_pos p)) (le_trans (le_of_eq f) (mul-le-mul_left h e))

-- the order of the fields is that of the magnitudes
module _ (h : ℕ) (t u : ℕ) (a : t < h) (b : u < h) where
  up_field : (x y : ℕ) → x < y → mag h x t < mag h y u
  unfolding mag
  up_field zero (suc q) e =
      lt_of_lt_of_le a (le_trans (le-mul_of_pos_right h (pow_pos q)) (mul-le-mul {n₁ = h} {m₁ = 2 ^ q} {n₂ = h + u} {m₂ = 2 ^ q} (omega arith) (omega arith)))
  up_field (suc p) (suc q) e =
      lt_of_lt_of_le (step h t p q a (omega arith)) (mul-le-mul {n₁ = h} {m₁ = 2 ^ q} {n₂ = h + u} {m₂ = 2 ^ q} (omega arith) (omega arith))
  up_field x zero e = absurd (omega arith)

  in_field : (x : ℕ) → t < u → mag h x t < mag h x u
  unfolding mag
  in_field zero e = e
  in_field (suc p) e = mul-lt-mul_of_pos_right {m = h + t} {n = h + u} (omega arith) (pow_pos p)

-- the magnitude of a pattern whose sign is clear
magnitude : ℕ → ℕ
magnitude b = mag (hid binary64) (b / hid binary64) (b % hid binary64)

apart : (h x y t u a b : ℕ) → x * h + t ≡ a → y * h + u ≡ b → a < b → x ≡ y → t < u
apart h x y t u a b p q e s =
    let r : x * h ≡ y * h = ap (λ (k : ℕ). k * h) s in
    omega arith

magnitude_mono : (a b : ℕ) → a < b → magnitude a < magnitude b
unfolding magnitude
magnitude_mono a b e = go (dec_le (suc x) y)
  where
    h : ℕ
    h = hid binary64

    x : ℕ
    x = a / hid binary64

    y : ℕ
    y = b / hid binary64

    ta : a % hid binary64 < hid binary64
    ta = mod-lt a {m = hid binary64} (pow_pos 52)

    tb : b % hid binary64 < hid binary64
    tb = mod-lt b {m = hid binary64} (pow_pos 52)

    go : Dec (suc (a / hid binary64) ≤ b / hid binary64)
        → mag (hid binary64) (a / hid binary64) (a % hid binary64) < mag (hid binary64) (b / hid binary64) (b % hid binary64)
    go (yes k) = up_field (hid binary64) (a % hid binary64) (b % hid binary64) ta tb (a / hid binary64) (b / hid binary64) k
    go (no k) =
        let s : a / hid binary64 ≡ b / hid binary64 = omega arith in
        let l : a % hid binary64 < b % hid binary64 = apart (hid binary64) (a / hid binary64) (b / hid binary64)
        (a % hid binary64) (b % hid binary64) a b (div-add-mod' a (hid binary64)) (div-add-mod' b (hid binary64)) e s in
        rw s (in_field (hid binary64) (a % hid binary64) (b % hid binary64) ta tb (b / hid binary64) l)

-- the bits of 2^40
abbrev pub limit_bits : ℕ
limit_bits = 0x4270_0000_0000_0000

-- fields below those of an infinity, and the sign clear
fields_value : (x t : ℕ) → x < ones binary64 → HasValue (of_fields binary64 false x t) false (mag (hid binary64) x t) (2 ^ low binary64)
unfolding of_fields mag
fields_value zero t h = subst (λ (n : ℕ). HasValue (odd 53 false t 0 (low binary64)) false n (2 ^ low binary64))
    (omega arith) (odd_sign 53 false t 0 (low binary64))
fields_value (suc x) t h = rw (ne_eqb (suc x) (ones binary64) (λ e. omega arith)) (odd_sign 53 false (hid binary64 + t) x (low binary64))

value : (b : ℕ) → b ≤ limit_bits → HasValue (of_bits binary64 b) false (magnitude b) (2 ^ low binary64)
unfolding of_bits magnitude
value b h =
    rw (lt-leb (top binary64) b (omega arith))
    (rw (mod-eq_of_lt {n = b} {m = top binary64} (omega arith))
    (fields_value (b / hid binary64) (b % hid binary64) (omega arith)))

down_pos : (e : ℤ) → 0 < down e
down_pos (pos k) = omega arith
down_pos (negsuc k) = pow_pos (suc k)

-- x / de is a / c and y / dd is b / c, so where a is below b the one is below the other
cross : (x y de dd a b c : ℕ) → 0 < de → 0 < dd → x * c ≡ a * de → y * c ≡ b * dd → a < b → x * dd < y * de
cross x y de dd a b c D E p q h =
    let l : x * dd * c ≡ a * (de * dd) = mul_right_comm x dd c ∙ ap (λ (z : ℕ). z * dd) p ∙ mul_assoc a de dd in
    let r : y * de * c ≡ b * (de * dd) = mul_right_comm y de c ∙ ap (λ (z : ℕ). z * de) q ∙ mul_assoc b dd de ∙ ap (λ (z : ℕ). b * z) (mul_comm dd de) in
    lt_of_mul-lt-mul_right c (lt_of_le_of_lt (le_of_eq l) (lt_of_lt_of_le (mul-lt-mul_of_pos_right h (mul-pos D E)) (le_of_eq (sym r))))

-- Two figures that are not negative, by the fractions that they equal.
module _ (a b c : ℕ) (h : a < b) where
  lt_values : (x y : Float) → HasValue x false a c → HasValue y false b c → lt x y ≡ true
  unfolding lt
  lt_values nan y p q = absurd p
  lt_values (inf s) y p q = absurd p
  lt_values (fin true m e) y p q = absurd (true≢false p.0)
  lt_values (fin false m e) nan p q = absurd q
  lt_values (fin false m e) (inf t) p q = absurd q
  lt_values (fin false m e) (fin true n d) p q = absurd (true≢false q.0)
  lt_values (fin false m e) (fin false n d) p q =
      lt-ltb (m * up e * down d) (n * up d * down e) (cross (m * up e) (n * up d) (down e) (down d) a b c (down_pos e) (down_pos d) p.1 q.1 h)

  le_back : (x y : Float) → HasValue x false a c → HasValue y false b c → le y x ≡ false
  unfolding le lt eq
  le_back nan y p q = absurd p
  le_back (inf s) y p q = absurd p
  le_back (fin true m e) y p q = absurd (true≢false p.0)
  le_back (fin false m e) nan p q = absurd q
  le_back (fin false m e) (inf t) p q = absurd q
  le_back (fin false m e) (fin true n d) p q = absurd (true≢false q.0)
  le_back (fin false m e) (fin false n d) p q =
      let l : m * up e * down d < n * up d * down e = cross (m * up e) (n * up d) (down e) (down d) a b c (down_pos e) (down_pos d) p.1 q.1 h in
      rw (le-ltb (n * up d * down e) (m * up e * down d) (omega arith))
      (rw (ne_eqb (n * up d * down e) (m * up e * down d) (λ e. omega arith)))

not_below : (x : Float) (a c : ℕ) → HasValue x false a c → lt x zero_hz ≡ false
unfolding lt of_bits
not_below nan a c p = absurd p
not_below (inf s) a c p = absurd p
not_below (fin true m e) a c p = absurd (true≢false p.0)
not_below (fin false m e) a c p = le-ltb (m * up e * 1) (0 * 1 * down e) (let z : 0 * 1 * down e ≡ 0 = zero-mul (down e) in omega arith)

-- ---- what other crates cite

-- the lesser bits are the lesser figure
pub bits_lt : (a b : ℕ) → a < b → b ≤ limit_bits → lt (figure_of a) (figure_of b) ≡ true
bits_lt a b h k = lt_values (magnitude a) (magnitude b) (2 ^ low binary64) (magnitude_mono a b h) (figure_of a) (figure_of b) (value a (omega arith)) (value b k)

pub bits_le_not : (a b : ℕ) → a < b → b ≤ limit_bits → le (figure_of b) (figure_of a) ≡ false
bits_le_not a b h k = le_back (magnitude a) (magnitude b)
    (2 ^ low binary64) (magnitude_mono a b h) (figure_of a) (figure_of b) (value a (omega arith)) (value b k)

lt_le : (x y : Float) → lt x y ≡ true → le x y ≡ true
unfolding le
lt_le x y e = rw e

le_self : (x : Float) (a c : ℕ) → HasValue x false a c → le x x ≡ true
unfolding le lt eq
le_self nan a c p = absurd p
le_self (inf s) a c p = absurd p
le_self (fin true m e) a c p = absurd (true≢false p.0)
le_self (fin false m e) a c p = rw (le-ltb (m * up e * down e) (m * up e * down e) (omega arith)) (rw (eq-eqb (m * up e * down e) (m * up e * down e) refl))

-- figures compare as their bits do
pub bits_le : (a b : ℕ) → a ≤ limit_bits → b ≤ limit_bits → le (figure_of a) (figure_of b) ≡ leb a b
bits_le a b h k = go (dec_le a b) (dec_le b a)
  where
    go : Dec (a ≤ b) → Dec (b ≤ a) → le (figure_of a) (figure_of b) ≡ leb a b
    go (yes p) (yes q) =
        let e : a ≡ b = omega arith in
        rw e (le_self (figure_of b) (magnitude b) (2 ^ low binary64) (value b k) ∙ sym (le-leb b b (omega arith)))
    go (yes p) (no q) = lt_le (figure_of a) (figure_of b) (bits_lt a b (omega arith) k) ∙ sym (le-leb a b p)
    go (no p) q = bits_le_not b a (omega arith) h ∙ sym (lt-leb a b (omega arith))

at_most : (b : ℕ) → b ≤ limit_bits → le (figure_of b) limit40 ≡ true
at_most b h = go (dec_le (suc b) limit_bits)
  where
    go : Dec (suc b ≤ limit_bits) → le (figure_of b) limit40 ≡ true
    go (yes k) = lt_le (figure_of b) limit40 (bits_lt b limit_bits k (omega arith))
    go (no k) = let e : b ≡ limit_bits = omega arith in rw e (unfold le lt eq of_bits in refl)

abs_of_holds : (x : Float) → lt x zero_hz ≡ false → (e : Bool) → eq x zero_hz ≡ e
    → le x limit40 ≡ true → le (cond (lt x zero_hz) (neg x) (cond (eq x zero_hz) zero_hz x)) limit40 ≡ true
abs_of_holds x p true q r = rw p (rw q (unfold le lt eq of_bits in refl))
abs_of_holds x p false q r = rw p (rw q r)

-- at most the bits of 2^40: in size
pub bits_sized : (b : ℕ) → b ≤ limit_bits → in_size limit40 (figure_of b) ≡ true
bits_sized b h = abs_of_holds (figure_of b) (not_below (figure_of b) (magnitude b) (2 ^ low binary64) (value b h)) (eq (figure_of b) zero_hz) refl (at_most b h)
