-- The number texts of `at` and `khz`, and whole hertz (document 02, 1): a double's exact value as a decimal, in ASCII.
use Rattle.std.specs.Prelude.{ℕ, zero, suc, ◌+◌, ◌/◌, ◌%◌, ◌^◌, Bool, cond, not, List, [], ◌∷◌, ◌++◌, ◌≡◌, eqb, ltb, Float, drop, length, Result, Ok, Err}
use Rattle.codes.specs.declared.Refusal.TheVariants as refusal
use Rattle.codes.specs.Refusal.{Checked, Test, test, refusal_of}
use Rattle.codes.specs.declared.Refusal.{Refusal}
use Rattle.std.specs.Float.{binary64}
use Rattle.std.specs.Float.Ieee.{div, lt, mul, of_bits, sub}
use Rattle.figures.specs.Figure.{abs_of, in_size}
use Rattle.decimal.specs.Decimal.{decimal_of, round_of, sign_of}
use Rattle.decimal.specs.Within.{limit43, ten, thousand}

-- ---- a text of so many places

-- the last so many digits of n, noughts in front kept; 48 is the digit 0
unfoldable pub digits : ℕ → ℕ → List ℕ
digits zero n = []
digits (suc count) n = digits count (n / 10) ++ ((48 + n % 10) ∷ [])

-- how many digits n has, at least one and at most 1 + more
unfoldable pub digit_count : ℕ → ℕ → ℕ
digit_count zero n = 1
digit_count (suc more) n = cond (ltb n 10) 1 (suc (digit_count more (n / 10)))

-- a whole number: 2 ^ 43 has 13 digits
abbrev pub whole_text : ℕ → List ℕ
whole_text n = digits (digit_count 12 n) n

-- 45 is the minus sign
abbrev pub sign_text : Bool → List ℕ
sign_text negative = cond negative (45 ∷ []) []

-- the point, 46, and the digits after it; neither where there are no places
abbrev pub point_text : ℕ → ℕ → List ℕ
point_text places part = cond (eqb places 0) [] (46 ∷ digits places part)

abbrev pub written : Bool → ℕ → ℕ → ℕ → List ℕ
written negative whole places part = sign_text negative ++ (whole_text whole ++ point_text places part)

-- "The digits are those of the printed double's exact value, nearest, halves to even", with the double's own sign
unfoldable pub text_of : ℕ → Float → List ℕ
text_of places x =
    let units = 10 ^ places in
    written (sign_of x) (decimal_of units x / units) places (decimal_of units x % units)

-- ---- the three texts

-- `hz / 1000.0`
abbrev pub kilohertz : Float → Float
kilohertz hz = div binary64 hz thousand

-- 1e-6
abbrev pub millionth : Float
millionth = of_bits binary64 0x3eb0_c6f7_a0b5_ed8d

-- "the branch tests in `khz` keep its float steps and its own rounding": `(k - k.round()).abs() < 1e-6`
unfoldable pub near_whole : Float → Bool
near_whole k = lt (abs_of (sub binary64 k (round_of k))) millionth

-- the same of k itself, then of `k * 10.0`
unfoldable pub khz_places : Float → ℕ
khz_places k = cond (near_whole k) 0 (cond (near_whole (mul binary64 k ten)) 1 3)

-- `at`: kilohertz with three decimals
unfoldable pub at_text : Float → List ℕ
at_text hz = text_of 3 (kilohertz hz)

-- `khz`: as many as it needs
unfoldable pub khz_text : Float → List ℕ
khz_text hz = text_of (khz_places (kilohertz hz)) (kilohertz hz)

-- "whole hertz as `{:.0}` gives them"
unfoldable pub hertz_text : Float → List ℕ
hertz_text hz = text_of 0 hz

-- ---- in lent bytes

-- "A figure not finite or above 2^43 in size meets 21. It refuses (24, after 23) when the lent bytes are too few, and writes none."
abbrev pub room_tests : List ℕ → List ℕ → List Test
room_tests text lent = test refusal.Text (ltb (length lent) (length text)) ∷ []

abbrev pub size_test : Float → Test
size_test hz = test refusal.StationFigure (not (in_size limit43 hz))

-- the first of the two
abbrev pub sized : Float → Checked
sized hz = refusal_of (size_test hz ∷ [])

abbrev pub text_tests : Float → List ℕ → List ℕ → List Test
text_tests hz text lent = size_test hz ∷ room_tests text lent

abbrev pub text_answer : Checked → List ℕ → Result ℕ Refusal
text_answer (Ok tt) text = Ok (length text)
text_answer (Err n) text = Err n

-- the text from the first byte on, and behind it what was lent; with a refusal, what was lent
abbrev pub text_bytes : Checked → List ℕ → List ℕ → List ℕ
text_bytes (Ok tt) text lent = text ++ drop (length text) lent
text_bytes (Err n) text lent = lent

-- an answer and the bytes that were left
pub record Left (c : Checked) (text lent left : List ℕ) (answer : Result ℕ Refusal) : Type 0 where
  pub answered : answer ≡ text_answer c text
  pub bytes : left ≡ text_bytes c text lent

-- what the calls promise
abbrev pub Texted : Float → List ℕ → List ℕ → List ℕ → Result ℕ Refusal → Type 0
Texted hz text lent left answer = Left (refusal_of (text_tests hz text lent)) text lent left answer
