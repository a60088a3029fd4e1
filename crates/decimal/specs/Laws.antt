-- What a double's bits say of its exact value, and the roundings by it.
use Rattle.std.specs.Prelude.{◌≡◌, ℕ, zero, suc, ◌+◌, ◌-◌, ◌*◌, ◌/◌, ◌%◌, ◌^◌, ◌<◌, ◌≤◌, Bool, true, false, cond, not, T, pos, ◌==◌, nat_le, to_bits, refl, Float}
use Prim.Native.Nat.{compare, Ordering}
use Rattle.std.proofs.Common.{sym, ap, ◌∙◌, subst, le_trans, le_of_eq, mul-le-mul_right, mul_right_comm, mul_assoc, mul_comm, mul_left_comm, le_of_mul-le-mul_right, mod-lt, mod-eq_of_lt, add-mul, lt_irrefl, le_of_lt, lt_of_le_of_lt, div-mul-le_self, add-one, arith, le→leb, eqb→eq, pow-add, pow_pos, pow_mono}
use Rattle.std.proofs.Math.Nat.{eq_of_mul-eq-mul_right, div-eq_of_lt}
use Rattle.std.proofs.Math.Decide.{dec_le}
use Rattle.std.proofs.Math.Arith.{lt→nleb}
use Rattle.std.proofs.Math.Dec.{is_le, compare_is_eq, eqb_refl}
use Rattle.std.specs.Float.{nan, inf, fin, binary64}
use Rattle.std.specs.Float.Ieee.{fits, up, down, neg, hid, top, ones, odd, of_fields, of_bits, of_int, nearest, is_nan}
use Rattle.std.specs.Float.Ieee.Bits.{of_bits-to_bits}
use Rattle.std.specs.Float.Ieee.Exact.{HasValue, odd_sign}
use Rattle.std.specs.Float.Ieee.Fits.{down_pos}
use Rattle.std.specs.Float.Ieee.Nearest.{closest, closest_same, div_same}
use Rattle.decimal.specs.Decimal.{decimal_of, sign_of, half_up, signed, round_of, decimal_rounded}
use Rattle.decimal.specs.Within.{Within}

-- ---- a value as a fraction

-- a figure within 2 ^ j is a fraction that is
at_most : (j : ℕ) (x : Float) (s : Bool) (a c : ℕ) → Within j x → HasValue x s a c → a ≤ 2 ^ j * c
at_most j nan s a c w v = absurd w
at_most j (inf t) s a c w v = absurd w
at_most j (fin t m e) s a c w v =
    le_of_mul-le-mul_right
    (le_trans (le_of_eq (sym v.1)) (le_trans (mul-le-mul_right c w) (le_of_eq (mul_right_comm (2 ^ j) (down e) c))))
    (down_pos e)

-- a fraction of powers of two, shortened
shortened : (x : Float) (s : Bool) (d g l : ℕ) → g ≤ l → HasValue x s (d * 2 ^ g) (2 ^ l) → HasValue x s d (2 ^ (l - g))
shortened nan s d g l h v = v
shortened (inf t) s d g l h v = v
shortened (fin t m e) s d g l h v =
    let q : l - g + g ≡ l = omega arith in (
      v.0,
      eq_of_mul-eq-mul_right (2 ^ g) (pow_pos g) (m * up e * 2 ^ (l - g)) (d * down e)
          (mul_assoc (m * up e) (2 ^ (l - g)) (2 ^ g)
          ∙ ap (λ (n : ℕ). m * up e * n) (sym (pow-add 2 (l - g) g) ∙ ap (λ (n : ℕ). 2 ^ n) q)
          ∙ v.1
          ∙ mul_right_comm d (2 ^ g) (down e)),
    )

-- 53 digits that stand for at most 2 ^ 43
low_enough : (t g l : ℕ) → (2 ^ 52 + t) * 2 ^ g ≤ 2 ^ 43 * 2 ^ l → g + 9 ≤ l
low_enough t g l h = go (dec_le (g + 9) l)
  where
    go : Dec (g + 9 ≤ l) → g + 9 ≤ l
    go (yes k) = k
    go (no k) =
        let a : 2 ^ l ≤ 2 ^ (g + 8) = pow_mono (omega arith) in
        let b : 2 ^ (g + 8) ≡ 2 ^ g * 2 ^ 8 = pow-add 2 g 8 in
        let c : (2 ^ 52 + t) * 2 ^ g ≡ 2 ^ 52 * 2 ^ g + t * 2 ^ g = add-mul (2 ^ 52) t (2 ^ g) in
        let d : 0 < 2 ^ g = pow_pos g in
        absurd (omega (arith, h, a, b, c, d))

-- ---- the parts of a double

-- its sign, its digits, and by how many binary places they are moved down
pub record Parted (x : Float) (negative : Bool) (digits shift : ℕ) : Type 0 where
  pub value : HasValue x negative digits (2 ^ shift)
  pub few : digits < 2 ^ 53

by_fields : (x : Float) → T (fits binary64 x)
    → of_fields binary64 (nat_le (top binary64) (to_bits binary64 x)) (to_bits binary64 x % top binary64 / hid binary64) (to_bits binary64 x % hid binary64) ≡ x
unfolding of_bits
by_fields x h = of_bits-to_bits binary64 x h

zero_field : (s : Bool) (f t : ℕ) (x : Float) → of_fields binary64 s f t ≡ x → f ≡ 0 → t < 2 ^ 52 → Parted x s t 1074
unfolding of_fields
zero_field s zero t x e z h = record {
  value =
      let o : t * 2 ^ 0 ≡ t = omega arith in
      subst (λ (y : Float). HasValue y s t (2 ^ 1074)) e
      (subst (λ (n : ℕ). HasValue (odd 53 s t 0 1074) s n (2 ^ 1074)) o (odd_sign 53 s t 0 1074));
  few = omega arith;
}
zero_field s (suc f) t x e z h = absurd (omega (arith, z))

more_field : (s : Bool) (f t : ℕ) (x : Float) → of_fields binary64 s f t ≡ x → 0 < f → t < 2 ^ 52 → Within 43 x
    → (f ≤ 1075) × Parted x s (2 ^ 52 + t) (1075 - f)
unfolding of_fields
more_field s zero t x e z h w = absurd (omega (arith, z))
more_field s (suc g) t x e z h w = go (suc g == ones binary64) (t == 0) e
  where
    go : (b c : Bool) → cond b (cond c (inf s) nan) (odd 53 s (2 ^ 52 + t) g 1074) ≡ x
        → (suc g ≤ 1075) × Parted x s (2 ^ 52 + t) (1075 - suc g)
    go true true e = absurd (subst (Within 43) (sym e) w)
    go true false e = absurd (subst (Within 43) (sym e) w)
    go false c e =
        let v : HasValue x s ((2 ^ 52 + t) * 2 ^ g) (2 ^ 1074) = subst (λ (y : Float). HasValue y s ((2 ^ 52 + t) * 2 ^ g) (2 ^ 1074)) e
        (odd_sign 53 s (2 ^ 52 + t) g 1074) in
        let k : g + 9 ≤ 1074 = low_enough t g 1074 (at_most 43 x s ((2 ^ 52 + t) * 2 ^ g) (2 ^ 1074) w v) in
        let q : 1074 - g ≡ 1075 - suc g = omega arith in (
          omega (arith, k),
          record {
            value = subst (λ (n : ℕ). HasValue x s (2 ^ 52 + t) (2 ^ n)) q (shortened x s (2 ^ 52 + t) g 1074 (omega (arith, k)) v);
            few = omega (arith, h);
          },
        )

pub parted_low : (x : Float) → fits binary64 x ≡ true → to_bits binary64 x % top binary64 / hid binary64 ≡ 0
    → Parted x (nat_le (top binary64) (to_bits binary64 x)) (to_bits binary64 x % hid binary64) 1074
parted_low x h z = zero_field _ _ _ x (by_fields x (subst T (sym h) tt)) z (mod-lt (to_bits binary64 x) {m = hid binary64} (pow_pos 52))

pub parted_high : (x : Float) → fits binary64 x ≡ true → Within 43 x → 0 < to_bits binary64 x % top binary64 / hid binary64
    → (to_bits binary64 x % top binary64 / hid binary64 ≤ 1075)
    × Parted x (nat_le (top binary64) (to_bits binary64 x)) (2 ^ 52 + to_bits binary64 x % hid binary64) (1075 - to_bits binary64 x % top binary64 / hid binary64)
parted_high x h w z =
    more_field _ _ _ x (by_fields x (subst T (sym h) tt)) z (mod-lt (to_bits binary64 x) {m = hid binary64} (pow_pos 52)) w

-- ---- the roundings, by any fraction that is the value

pub sign_by : (x : Float) (s : Bool) (d c : ℕ) → HasValue x s d c → s ≡ sign_of x
unfolding sign_of
sign_by nan s d c v = absurd v
sign_by (inf t) s d c v = absurd v
sign_by (fin t m e) s d c v = sym v.0

pub decimal_by : (units : ℕ) (x : Float) (s : Bool) (d c : ℕ) → 0 < c → HasValue x s d c → closest (d * units) c ≡ decimal_of units x
unfolding decimal_of
decimal_by units nan s d c p v = absurd v
decimal_by units (inf t) s d c p v = absurd v
decimal_by units (fin t m e) s d c p v =
    closest_same (d * units) c (m * up e * units) (down e) p (down_pos e)
    (mul_right_comm d units (down e) ∙ ap (λ (n : ℕ). n * units) (sym v.1) ∙ mul_right_comm (m * up e) c units)

-- (2 a + b) 2 d and (2 c + d) 2 b, where a d is c b
doubled : (a b c d : ℕ) → a * d ≡ c * b → (2 * a + b) * (2 * d) ≡ (2 * c + d) * (2 * b)
doubled a b c d e =
    let l : (2 * a + b) * (2 * d) ≡ 4 * (a * d) + 2 * (b * d) = spread a b d in
    let r : (2 * c + d) * (2 * b) ≡ 4 * (c * b) + 2 * (d * b) = spread c d b in
    let k : b * d ≡ d * b = mul_comm b d in
    omega (arith, l, r, k, e)
  where
    spread : (a b d : ℕ) → (2 * a + b) * (2 * d) ≡ 4 * (a * d) + 2 * (b * d)
    spread a b d =
        let p : (2 * a + b) * (2 * d) ≡ 2 * a * (2 * d) + b * (2 * d) = add-mul (2 * a) b (2 * d) in
        let q : 2 * a * (2 * d) ≡ 2 * (2 * (a * d)) = mul_assoc 2 a (2 * d) ∙ ap (λ (n : ℕ). 2 * n) (mul_left_comm a 2 d) in
        let r : b * (2 * d) ≡ 2 * (b * d) = mul_left_comm b 2 d in
        omega (arith, p, q, r)

pub round_by : (x : Float) (s : Bool) (d c : ℕ) → 0 < c → HasValue x s d c → signed s (of_int binary64 (pos (half_up d c))) ≡ round_of x
unfolding round_of
round_by nan s d c p v = absurd v
round_by (inf t) s d c p v = absurd v
round_by (fin t m e) s d c p v =
    let q : d * down e ≡ m * up e * c = sym v.1 in
    let a : 0 < 2 * c = omega (arith, p) in
    let b : 0 < 2 * down e = omega (arith, down_pos e) in
    ap (λ (n : ℕ). signed s (of_int binary64 (pos n)))
    (div_same (2 * d + c) (2 * c) (2 * (m * up e) + down e) (2 * down e) a b (doubled d c (m * up e) (down e) q))
    ∙ ap (λ (z : Bool). signed z (of_int binary64 (pos (half_up (m * up e) (down e))))) (sym v.0)

-- ---- the roundings, by the parts

pub parted_rounded : (units : ℕ) (x : Float) (s : Bool) (d n : ℕ) → Parted x s d n
    → record { negative = s; count = closest (d * units) (2 ^ n) } ≡ decimal_rounded units x
parted_rounded units x s d n p = rw (sign_by x s d (2 ^ n) p.value) (rw (decimal_by units x s d (2 ^ n) (pow_pos n) p.value))

pub parted_less : (x : Float) (s : Bool) (d n : ℕ) → Parted x s d n → s ≡ true → neg (of_int binary64 (pos (half_up d (2 ^ n)))) ≡ round_of x
parted_less x s d n p e = rw (sym (round_by x s d (2 ^ n) (pow_pos n) p.value)) (rw e)

pub parted_plus : (x : Float) (s : Bool) (d n : ℕ) → Parted x s d n → s ≡ false → of_int binary64 (pos (half_up d (2 ^ n))) ≡ round_of x
parted_plus x s d n p e = rw (sym (round_by x s d (2 ^ n) (pow_pos n) p.value)) (rw e)

-- ---- the nearest whole number, by how twice the remainder compares

below : (a b : ℕ) → a < b → compare a b ≡ Ordering.lt
below a b h = go (compare a b) (le→leb a b (le_of_lt h)) (λ t. lt_irrefl b (subst (λ (n : ℕ). n < b) (eqb→eq a b t) h))
  where
    go : (o : Ordering) → T (is_le o) → (T (compare_is_eq o) → ⊥) → o ≡ Ordering.lt
    go Ordering.lt l n = refl
    go Ordering.eq l n = absurd (n tt)
    go Ordering.gt l n = absurd l

level : (a b : ℕ) → a ≡ b → compare a b ≡ Ordering.eq
level a b e = go (compare a b) (subst (λ (n : ℕ). T (a == n)) e (eqb_refl a))
  where
    go : (o : Ordering) → T (compare_is_eq o) → o ≡ Ordering.eq
    go Ordering.lt t = absurd t
    go Ordering.eq t = refl
    go Ordering.gt t = absurd t

above : (a b : ℕ) → b < a → compare a b ≡ Ordering.gt
above a b h = go (compare a b) (lt→nleb a b h)
  where
    go : (o : Ordering) → T (not (is_le o)) → o ≡ Ordering.gt
    go Ordering.lt t = absurd t
    go Ordering.eq t = absurd t
    go Ordering.gt t = refl

pub closest_down : (n c : ℕ) → n % c * 2 < c → n / c ≡ closest n c
closest_down n c h = sym (ap (nearest (n / c)) (below (n % c * 2) c h))

pub closest_tie : (n c : ℕ) → n % c * 2 ≡ c → n / c + n / c % 2 ≡ closest n c
closest_tie n c h = sym (ap (nearest (n / c)) (level (n % c * 2) c h))

pub closest_up : (n c : ℕ) → c < n % c * 2 → n / c + 1 ≡ closest n c
closest_up n c h = add-one (n / c) ∙ sym (ap (nearest (n / c)) (above (n % c * 2) c h))

-- far below a half
pub closest_nought : (n shift : ℕ) → n < 2 ^ 63 → 63 < shift → 0 ≡ closest n (2 ^ shift)
closest_nought n shift h k =
    let a : 2 ^ 64 ≤ 2 ^ shift = pow_mono k in
    let b : n < 2 ^ shift = omega (arith, h, a) in
    let q : n / 2 ^ shift ≡ 0 = div-eq_of_lt b in
    let r : n % 2 ^ shift ≡ n = mod-eq_of_lt b in
    sym q ∙ closest_down n (2 ^ shift) (omega (arith, r, h, a))

pub half_up_nought : (n shift : ℕ) → n < 2 ^ 53 → 62 < shift → 0 ≡ half_up n (2 ^ shift)
half_up_nought n shift h k =
    let a : 2 ^ 63 ≤ 2 ^ shift = pow_mono k in
    sym (div-eq_of_lt {n = 2 * n + 2 ^ shift} {m = 2 * 2 ^ shift} (omega (arith, h, a)))

-- ---- bits are had of a number only

pub no_nan : (x : Float) → Within 43 x → T (not (is_nan x))
unfolding is_nan
no_nan nan w = absurd w
no_nan (inf s) w = absurd w
no_nan (fin s m e) w = tt

-- ---- the same by shifts of 64 bits

-- the whole part, moved back
pub moved_back : (n s : ℕ) → n < 2 ^ 63 → s ≤ 63 → n / 2 ^ s * 2 ^ s % 18446744073709551616 ≡ n / 2 ^ s * 2 ^ s
moved_back n s h k = mod-eq_of_lt (lt_of_le_of_lt (div-mul-le_self n (2 ^ s)) (omega (arith, h)))
