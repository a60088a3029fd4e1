-- No digit is lost: a whole number's text, read back, is the number, and a figure within the limit has no more digits than are written.
use Rattle.std.specs.Prelude.{ℕ, zero, suc, ◌+◌, ◌-◌, ◌*◌, ◌/◌, ◌%◌, ◌^◌, ◌<◌, ◌≤◌, Bool, true, false, cond, List, [], ◌∷◌, ◌++◌, ◌≡◌, refl, T, ltb, Float}
use Rattle.std.proofs.Common.{sym, ap, ◌∙◌, le_trans, le_of_eq, mod-eq_of_lt, mul-le-mul_right, mul-one, mul_comm, div-one, mul_right_comm, arith, ltb→lt}
use Rattle.std.proofs.Math.Nat.{pow-succ', mod-one}
use Rattle.std.proofs.Math.Arith.{mod-mul}
use Rattle.std.specs.Float.{nan, inf, fin}
use Rattle.std.specs.Float.Ieee.{up, down}
use Rattle.std.specs.Float.Ieee.Fits.{down_pos}
use Rattle.std.specs.Float.Ieee.Nearest.{closest, closest_mono, div_mono}
use Rattle.decimal.specs.Decimal.{decimal_of}
use Rattle.decimal.specs.Within.{Within}
use Rattle.decimal.specs.Laws.{closest_down}
use Rattle.number_texts.specs.Text.{digits, digit_count, whole_text}

tens : (k : ℕ) → 10 ^ suc k ≡ 10 ^ k * 10
tens k = pow-succ' 10 k ∙ mul_comm 10 (10 ^ k)

-- digits read from the front, with what was read before
unfoldable pub read_from : ℕ → List ℕ → ℕ
read_from n [] = n
read_from n (d ∷ ds) = read_from (n * 10 + (d - 48)) ds

abbrev pub read : List ℕ → ℕ
read ds = read_from 0 ds

read_last : (n d : ℕ) (a : List ℕ) → read_from n (a ++ (d ∷ [])) ≡ read_from n a * 10 + (d - 48)
unfolding read_from
read_last n d [] = refl
read_last n d (x ∷ a) = read_last (n * 10 + (x - 48)) d a

ten_pos : (k : ℕ) → 0 < 10 ^ k
ten_pos zero = omega arith
ten_pos (suc k) = let e : 10 ^ suc k ≡ 10 ^ k * 10 = tens k in let h = ten_pos k in omega (arith, e, h)

-- the last so many digits of n
pub read_digits : (count n : ℕ) → read (digits count n) ≡ n % 10 ^ count
unfolding digits read_from
read_digits zero n = sym (mod-one n)
read_digits (suc count) n =
    let d : 48 + n % 10 - 48 ≡ n % 10 = omega arith in
    read_last 0 (48 + n % 10) (digits count (n / 10))
    ∙ ap (λ (k : ℕ). k * 10 + (48 + n % 10 - 48)) (read_digits count (n / 10))
    ∙ ap (λ (k : ℕ). n / 10 % 10 ^ count * 10 + k) d
    ∙ sym (mod-mul n (ten_pos count) (omega arith))
    ∙ ap (λ (k : ℕ). n % k) (sym (tens count))

ten_more : (n k : ℕ) → n / 10 < 10 ^ k → n < 10 ^ suc k
ten_more n k h = let e : 10 ^ suc k ≡ 10 ^ k * 10 = tens k in omega (arith, e, h)

ten_less : (n k : ℕ) → n < 10 ^ suc k → n / 10 < 10 ^ k
ten_less n k h = let e : 10 ^ suc k ≡ 10 ^ k * 10 = tens k in omega (arith, e, h)

count_enough : (more n : ℕ) → n < 10 ^ suc more → n < 10 ^ digit_count more n
unfolding digit_count
count_enough zero n h = h
count_enough (suc more) n h = go (ltb n 10) (ltb→lt n 10) (count_enough more (n / 10) (ten_less n (suc more) h))
  where
    go : (b : Bool) → (T b → n < 10) → n / 10 < 10 ^ digit_count more (n / 10) → n < 10 ^ cond b 1 (suc (digit_count more (n / 10)))
    go true f g = f tt
    go false f g = ten_more n (digit_count more (n / 10)) g

pub whole_read : (n : ℕ) → n < 10 ^ 13 → read (whole_text n) ≡ n
whole_read n h = read_digits (digit_count 12 n) n ∙ mod-eq_of_lt (count_enough 12 n h)

-- ---- a figure within 2 ^ 43

whole_closest : (n : ℕ) → closest n 1 ≡ n
whole_closest n =
    let r : n % 1 ≡ 0 = mod-one n in
    sym (closest_down n 1 (omega (arith, r))) ∙ div-one n

div_bound : (units n : ℕ) → 0 < units → n ≤ 2 ^ 43 * units → n / units ≤ 2 ^ 43
div_bound units n p h = le_trans (div_mono n units (2 ^ 43) 1 p (omega arith) (le_trans (le_of_eq (mul-one n)) h)) (le_of_eq (div-one (2 ^ 43)))

pub whole_few : (units : ℕ) (x : Float) → 0 < units → Within 43 x → decimal_of units x / units < 10 ^ 13
unfolding decimal_of
whole_few units nan p w = absurd w
whole_few units (inf s) p w = absurd w
whole_few units (fin s m e) p w =
    let a : closest (m * up e * units) (down e) ≤ closest (2 ^ 43 * units) 1 =
    closest_mono (m * up e * units) (down e) (2 ^ 43 * units) 1 (down_pos e) (omega arith)
    (le_trans (le_of_eq (mul-one (m * up e * units))) (le_trans (mul-le-mul_right units w) (le_of_eq (mul_right_comm (2 ^ 43) (down e) units)))) in
    let b : closest (m * up e * units) (down e) / units ≤ 2 ^ 43 = div_bound units (closest (m * up e * units) (down e)) p
    (le_trans a (le_of_eq (whole_closest (2 ^ 43 * units)))) in
    omega (arith, b)
