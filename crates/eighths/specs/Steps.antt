-- The arithmetic under the laws of the grid: what the sums and the comparisons of `lib.Ieee` come to on fractions with one denominator. Assumes nothing.
use Rattle.std.specs.Prelude.{◌≡◌, refl, Bool, true, false, not, ◌&&◌, ◌||◌, cond, ℕ, suc, ◌+◌, ◌-◌, ◌*◌, ◌^◌, ◌≤◌, ◌<◌, T, leb, ltb, eqb, ℤ, pos, negsuc, Float}
use Rattle.std.proofs.Common.{sym, ap, subst, mul_comm, mul-pos, add-mul, mul-lt-mul_of_pos_right, lt_of_mul-lt-mul_right, lt_of_lt_of_le, arith, leb→le, le→leb, ltb→lt, lt→ltb, eqb→eq, nltb→le, lit≤, pow_pos, pow_mono, shl_lt}
use Rattle.std.proofs.Math.Nat.{mul-sub, eq_of_mul-eq-mul_right}
use Rattle.std.proofs.Math.Dec.{eqb_refl}
use Rattle.std.specs.Float.{nan, inf, fin, binary64}
use Rattle.std.specs.Float.Ieee.{up, down, round, sum, below, level}
use Rattle.std.specs.Float.Ieee.Exact.{HasValue, round_exact}
use Rattle.eighths.specs.Grid.{Signed, Value, Small}

-- ---- tests

eq→eqb : (m n : ℕ) → m ≡ n → T (eqb m n)
eq→eqb m n e = subst (λ (x : ℕ). T (eqb m x)) e (eqb_refl m)

ruleset tests = (arith, ltb→lt, lt→ltb, nltb→le, leb→le, le→leb, eqb→eq, eq→eqb)

-- tests that imply each other are equal
same : (x y : Bool) → (T x → T y) → (T y → T x) → x ≡ y
same true true f g = refl
same true false f g = absurd (f tt)
same false true f g = absurd (g tt)
same false false f g = refl

-- a test joined by `&&`, and by `||`, to be shown equal to one test
and : (x y z : Bool) → (T x → T y → T z) → (T z → T x) → (T z → T y) → (x && y) ≡ z
and true y z f g h = same y z (f tt) h
and false y z f g h = same false z absurd g

or : (x y z : Bool) → (T x → T z) → (T y → T z) → (T (not x) → T z → T y) → (x || y) ≡ z
or true y z f g h = same true z f (λ _. tt)
or false y z f g h = same y z g (h tt)

-- what holds of a choice, by its test
either : (P : Float → Type 0) (x : Bool) (a b : Float) → (T x → P a) → (T (not x) → P b) → P (cond x a b)
either P true a b f g = f tt
either P false a b f g = g tt

-- ---- two figures over one denominator

down_pos : (e : ℤ) → 0 < down e
down_pos (pos k) = omega arith
down_pos (negsuc k) = pow_pos (suc k)

-- both parts of a fraction multiplied by k
scaled : (s : Bool) (a p q d k : ℕ) → Signed s a (p * d) (q * d) → Signed s (a * k) (p * (d * k)) (q * (d * k))
scaled false a p q d k h = omega (arith, ap (λ (x : ℕ). x * k) h)
scaled true a p q d k h = omega (arith, ap (λ (x : ℕ). x * k) h)

-- What holds of two finite values, with the numerators and the denominator that `lib.Ieee` adds and compares, holds of any two figures in eighths.
pub finite : (P : Float → Float → Type 0) (x y : Float) (p q p' q' : ℕ) → Value x p q → Value y p' q'
    → ((s t : Bool) (m n : ℕ) (e d : ℤ) → 0 < down e * down d
    → Signed s (m * up e * down d) (p * (down e * down d)) (q * (down e * down d))
    → Signed t (n * up d * down e) (p' * (down e * down d)) (q' * (down e * down d)) → P (fin s m e) (fin t n d))
    → P x y
finite P nan y p q p' q' v w f = absurd v
finite P (inf s) y p q p' q' v w f = absurd v
finite P (fin s m e) nan p q p' q' v w f = absurd w
finite P (fin s m e) (inf t) p q p' q' v w f = absurd w
finite P (fin s m e) (fin t n d) p q p' q' v w f =
    f s t m n e d (mul-pos (down_pos e) (down_pos d)) (scaled s (m * up e) p q (down e) (down d) v)
    (subst (λ (c : ℕ). Signed t (n * up d * down e) (p' * c) (q' * c)) (mul_comm (down d) (down e)) (scaled t (n * up d) p' q' (down d) (down e) w))

-- ---- exact results

-- a / c and m / d are one fraction
rescaled : (s : Bool) (m d a c p q : ℕ) → 0 < c → m * c ≡ a * d → Signed s a (p * c) (q * c) → Signed s m (p * d) (q * d)
rescaled false m d a c p q cp e h = eq_of_mul-eq-mul_right c cp (m * 8 + q * d) (p * d) (omega (arith, e, ap (λ (x : ℕ). x * d) h))
rescaled true m d a c p q cp e h = eq_of_mul-eq-mul_right c cp (m * 8 + p * d) (q * d) (omega (arith, e, ap (λ (x : ℕ). x * d) h))

-- from a value that has a sign and a size to p and q
valued : (x : Float) (s : Bool) (a c p q : ℕ) → 0 < c → Signed s a (p * c) (q * c) → HasValue x s a c → Value x p q
valued nan s a c p q cp h v = v
valued (inf t) s a c p q cp h v = v
valued (fin t m e) s a c p q cp h v =
    subst (λ (b : Bool). Signed b (m * up e) (p * down e) (q * down e)) (sym v.0) (rescaled s (m * up e) (down e) a c p q cp v.1 h)

-- 2 ^ 2098 units of 2 ^ -1074 is where binary64 ends, and an eighth is 2 ^ 1071 of them
room : (n : ℕ) → n < 2 ^ 53 → n * 2 ^ 1071 < 2 ^ 2098
room n h = lt_of_lt_of_le (shl_lt 53 1071 h) (pow_mono {i = 1124} {j = 2098} (lit≤ tt))

widened : (a c n w : ℕ) → a * 8 ≡ c * n → a * (8 * w) ≡ n * w * c
widened a c n w h = omega (arith, ap (λ (x : ℕ). x * w) h)

-- binary64 holds a whole number of eighths below 2 ^ 53
exact : (s : Bool) (a c p q : ℕ) → 0 < c → p < q + 2 ^ 53 → a * 8 + q * c ≡ p * c → HasValue (round binary64 s a c) s a c
exact s a c p q cp small h =
    let n = p - q in
    let few : n < 2 ^ 53 = omega arith in
    let eight : a * 8 ≡ c * n = rw mul-sub (omega arith) in
    round_exact binary64 s a c n 1071 cp few (room n few) (widened a c n (2 ^ 1071) eight)

-- so a fraction that is (p - q) / 8 rounds to a value that is (p - q) / 8
rounded : (s : Bool) (a c p q : ℕ) → 0 < c → Small p q → Signed s a (p * c) (q * c) → Value (round binary64 s a c) p q
rounded false a c p q cp small h = valued (round binary64 false a c) false a c p q cp h (exact false a c p q cp small.0 h)
rounded true a c p q cp small h = valued (round binary64 true a c) true a c p q cp h (exact true a c q p cp small.1 h)

-- the sum of two fractions, for each pair of signs
pub summed : (s t : Bool) (a b c p q p' q' : ℕ) → Small (p + p') (q + q') → 0 < c → Signed s a (p * c) (q * c) → Signed t b (p' * c) (q' * c)
    → Value (sum binary64 s a t b c) (p + p') (q + q')
unfolding sum
summed false false a b c p q p' q' small cp h k = rounded false (a + b) c (p + p') (q + q') cp small (omega arith)
summed true true a b c p q p' q' small cp h k = rounded true (a + b) c (p + p') (q + q') cp small (omega arith)
summed false true a b c p q p' q' small cp h k =
    either (λ x. Value x (p + p') (q + q')) (ltb a b) (round binary64 true (b - a) c) (round binary64 false (a - b) c)
    (λ t. rounded true (b - a) c (p + p') (q + q') cp small (omega (arith, ltb→lt a b t)))
    (λ t. rounded false (a - b) c (p + p') (q + q') cp small (omega (arith, nltb→le a b t)))
summed true false a b c p q p' q' small cp h k =
    either (λ x. Value x (p + p') (q + q')) (ltb a b) (round binary64 false (b - a) c) (round binary64 (ltb b a) (a - b) c)
    (λ t. rounded false (b - a) c (p + p') (q + q') cp small (omega (arith, ltb→lt a b t)))
    (λ t. signed (ltb b a) (nltb→le a b t) (ltb→lt b a) (nltb→le b a))
  where
    signed : (x : Bool) → b ≤ a → (T x → b < a) → (T (not x) → a ≤ b) → Value (round binary64 x (a - b) c) (p + p') (q + q')
    signed true l f g = rounded true (a - b) c (p + p') (q + q') cp small (omega (arith, f tt))
    signed false l f g = rounded false (a - b) c (p + p') (q + q') cp small (omega (arith, g tt))

-- ---- comparisons

-- a factor above 0 changes no comparison
scale_ltb : (a b c : ℕ) → 0 < c → ltb (a * c) (b * c) ≡ ltb a b
scale_ltb a b c cp =
    same (ltb (a * c) (b * c)) (ltb a b) (λ t. lt→ltb a b (lt_of_mul-lt-mul_right c (ltb→lt (a * c) (b * c) t)))
    (λ t. lt→ltb (a * c) (b * c) (mul-lt-mul_of_pos_right (ltb→lt a b t) cp))

scale_eqb : (a b c : ℕ) → 0 < c → eqb (a * c) (b * c) ≡ eqb a b
scale_eqb a b c cp =
    same (eqb (a * c) (b * c)) (eqb a b) (λ t. eq→eqb a b (eq_of_mul-eq-mul_right c cp a b (eqb→eq (a * c) (b * c) t)))
    (λ t. eq→eqb (a * c) (b * c) (ap (λ (x : ℕ). x * c) (eqb→eq a b t)))

-- `lib.Ieee`'s two comparisons of signed numbers, for each pair of signs
below_is : (s t : Bool) (a b p q p' q' : ℕ) → Signed s a p q → Signed t b p' q' → below s a t b ≡ ltb (p + q') (p' + q)
below_is false false a b p q p' q' h k = same (ltb a b) (ltb (p + q') (p' + q)) (omega tests) (omega tests)
below_is false true a b p q p' q' h k = same false (ltb (p + q') (p' + q)) (omega tests) (omega tests)
below_is true false a b p q p' q' h k = same (ltb 0 (a + b)) (ltb (p + q') (p' + q)) (omega tests) (omega tests)
below_is true true a b p q p' q' h k = same (ltb b a) (ltb (p + q') (p' + q)) (omega tests) (omega tests)

level_is : (s t : Bool) (a b p q p' q' : ℕ) → Signed s a p q → Signed t b p' q' → level s a t b ≡ eqb (p + q') (p' + q)
level_is false false a b p q p' q' h k = and (eqb a b) true (eqb (p + q') (p' + q)) (omega tests) (omega tests) (λ _. tt)
level_is true true a b p q p' q' h k = and (eqb a b) true (eqb (p + q') (p' + q)) (omega tests) (omega tests) (λ _. tt)
level_is false true a b p q p' q' h k = and (eqb a b) (eqb a 0) (eqb (p + q') (p' + q)) (omega tests) (omega tests) (omega tests)
level_is true false a b p q p' q' h k = and (eqb a b) (eqb a 0) (eqb (p + q') (p' + q)) (omega tests) (omega tests) (omega tests)

-- the same over a denominator
module _ (s t : Bool) (a b c p q p' q' : ℕ) (cp : 0 < c) (h : Signed s a (p * c) (q * c)) (k : Signed t b (p' * c) (q' * c)) where
  pub ordered : below s a t b ≡ ltb (p + q') (p' + q)
  ordered = rw (← scale_ltb (p + q') (p' + q) c cp, add-mul p q' c, add-mul p' q c) (below_is s t a b (p * c) (q * c) (p' * c) (q' * c) h k)

  pub levelled : level s a t b ≡ eqb (p + q') (p' + q)
  levelled = rw (← scale_eqb (p + q') (p' + q) c cp, add-mul p q' c, add-mul p' q c) (level_is s t a b (p * c) (q * c) (p' * c) (q' * c) h k)

pub lt_or_eq : (a b : ℕ) → (ltb a b || eqb a b) ≡ leb a b
lt_or_eq a b = or (ltb a b) (eqb a b) (leb a b) (omega tests) (omega tests) (omega tests)
