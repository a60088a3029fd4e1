-- The texts of single figures. The paper's own examples, the largest figure, the longest text and the least figure above 0.
use Rattle.std.specs.Prelude.{[], ◌∷◌, ◌≡◌, refl}
use Rattle.std.specs.Float.{binary64}
use Rattle.std.specs.Float.Ieee.{div, eq, lt, mul, neg, of_bits, of_int, sub}
use Rattle.decimal.specs.Decimal.{decimal_of, round_of, sign_of}
use Rattle.number_texts.specs.Text.{digits, digit_count, text_of, near_whole, khz_places, at_text, khz_text, hertz_text}

-- 0.5 Hz: "0.001"
pub at_1 : at_text (of_bits binary64 0x3fe0000000000000) ≡ 48 ∷ 46 ∷ 48 ∷ 48 ∷ 49 ∷ []
unfolding at_text text_of khz_places near_whole decimal_of round_of sign_of digits digit_count of_bits of_int div mul sub neg lt eq
at_1 = refl

-- 1.5 Hz: "0.002"
pub at_2 : at_text (of_bits binary64 0x3ff8000000000000) ≡ 48 ∷ 46 ∷ 48 ∷ 48 ∷ 50 ∷ []
unfolding at_text text_of khz_places near_whole decimal_of round_of sign_of digits digit_count of_bits of_int div mul sub neg lt eq
at_2 = refl

-- 2.5 Hz: "0.003"
pub at_3 : at_text (of_bits binary64 0x4004000000000000) ≡ 48 ∷ 46 ∷ 48 ∷ 48 ∷ 51 ∷ []
unfolding at_text text_of khz_places near_whole decimal_of round_of sign_of digits digit_count of_bits of_int div mul sub neg lt eq
at_3 = refl

-- 4.5 Hz: "0.004"
pub at_4 : at_text (of_bits binary64 0x4012000000000000) ≡ 48 ∷ 46 ∷ 48 ∷ 48 ∷ 52 ∷ []
unfolding at_text text_of khz_places near_whole decimal_of round_of sign_of digits digit_count of_bits of_int div mul sub neg lt eq
at_4 = refl

-- 62.5 Hz: "0.062"
pub at_5 : at_text (of_bits binary64 0x404f400000000000) ≡ 48 ∷ 46 ∷ 48 ∷ 54 ∷ 50 ∷ []
unfolding at_text text_of khz_places near_whole decimal_of round_of sign_of digits digit_count of_bits of_int div mul sub neg lt eq
at_5 = refl

-- 187.5 Hz: "0.188"
pub at_6 : at_text (of_bits binary64 0x4067700000000000) ≡ 48 ∷ 46 ∷ 49 ∷ 56 ∷ 56 ∷ []
unfolding at_text text_of khz_places near_whole decimal_of round_of sign_of digits digit_count of_bits of_int div mul sub neg lt eq
at_6 = refl

-- 14097700.0 Hz: "14097.700"
pub at_7 : at_text (of_bits binary64 0x416ae3a480000000) ≡ 49 ∷ 52 ∷ 48 ∷ 57 ∷ 55 ∷ 46 ∷ 55 ∷ 48 ∷ 48 ∷ []
unfolding at_text text_of khz_places near_whole decimal_of round_of sign_of digits digit_count of_bits of_int div mul sub neg lt eq
at_7 = refl

-- -0.0 Hz: "-0.000"
pub at_8 : at_text (of_bits binary64 0x8000000000000000) ≡ 45 ∷ 48 ∷ 46 ∷ 48 ∷ 48 ∷ 48 ∷ []
unfolding at_text text_of khz_places near_whole decimal_of round_of sign_of digits digit_count of_bits of_int div mul sub neg lt eq
at_8 = refl

-- 2^43 Hz: "8796093022.208"
pub at_9 : at_text (of_bits binary64 0x42a0000000000000) ≡ 56 ∷ 55 ∷ 57 ∷ 54 ∷ 48 ∷ 57 ∷ 51 ∷ 48 ∷ 50 ∷ 50 ∷ 46 ∷ 50 ∷ 48 ∷ 56 ∷ []
unfolding at_text text_of khz_places near_whole decimal_of round_of sign_of digits digit_count of_bits of_int div mul sub neg lt eq
at_9 = refl

-- -2^43 Hz: "-8796093022.208"
pub at_10 :
    at_text (of_bits binary64 0xc2a0000000000000) ≡ 45 ∷ 56 ∷ 55 ∷ 57 ∷ 54 ∷ 48 ∷ 57 ∷ 51 ∷ 48 ∷ 50 ∷ 50 ∷ 46 ∷ 50 ∷ 48 ∷ 56 ∷ []
unfolding at_text text_of khz_places near_whole decimal_of round_of sign_of digits digit_count of_bits of_int div mul sub neg lt eq
at_10 = refl

-- -0.4 Hz: "-0.000"
pub khz_1 : khz_text (of_bits binary64 0xbfd999999999999a) ≡ 45 ∷ 48 ∷ 46 ∷ 48 ∷ 48 ∷ 48 ∷ []
unfolding khz_text text_of khz_places near_whole decimal_of round_of sign_of digits digit_count of_bits of_int div mul sub neg lt eq
khz_1 = refl

-- -0.0001 Hz: "-0"
pub khz_2 : khz_text (of_bits binary64 0xbf1a36e2eb1c432d) ≡ 45 ∷ 48 ∷ []
unfolding khz_text text_of khz_places near_whole decimal_of round_of sign_of digits digit_count of_bits of_int div mul sub neg lt eq
khz_2 = refl

-- 0.001 Hz: "0.000"
pub khz_3 : khz_text (of_bits binary64 0x3f50624dd2f1a9fc) ≡ 48 ∷ 46 ∷ 48 ∷ 48 ∷ 48 ∷ []
unfolding khz_text text_of khz_places near_whole decimal_of round_of sign_of digits digit_count of_bits of_int div mul sub neg lt eq
khz_3 = refl

-- 0.000999 Hz: "0"
pub khz_4 : khz_text (of_bits binary64 0x3f505e1c15097c81) ≡ 48 ∷ []
unfolding khz_text text_of khz_places near_whole decimal_of round_of sign_of digits digit_count of_bits of_int div mul sub neg lt eq
khz_4 = refl

-- 999.999 Hz: "1.000"
pub khz_5 : khz_text (of_bits binary64 0x408f3ffdf3b645a2) ≡ 49 ∷ 46 ∷ 48 ∷ 48 ∷ 48 ∷ []
unfolding khz_text text_of khz_places near_whole decimal_of round_of sign_of digits digit_count of_bits of_int div mul sub neg lt eq
khz_5 = refl

-- 999.9995 Hz: "1"
pub khz_6 : khz_text (of_bits binary64 0x408f3ffef9db22d1) ≡ 49 ∷ []
unfolding khz_text text_of khz_places near_whole decimal_of round_of sign_of digits digit_count of_bits of_int div mul sub neg lt eq
khz_6 = refl

-- 100.00009 Hz: "0.1"
pub khz_7 : khz_text (of_bits binary64 0x40590001797cc3a0) ≡ 48 ∷ 46 ∷ 49 ∷ []
unfolding khz_text text_of khz_places near_whole decimal_of round_of sign_of digits digit_count of_bits of_int div mul sub neg lt eq
khz_7 = refl

-- 100.0001 Hz: "0.100"
pub khz_8 : khz_text (of_bits binary64 0x40590001a36e2eb2) ≡ 48 ∷ 46 ∷ 49 ∷ 48 ∷ 48 ∷ []
unfolding khz_text text_of khz_places near_whole decimal_of round_of sign_of digits digit_count of_bits of_int div mul sub neg lt eq
khz_8 = refl

-- 14097700.0 Hz: "14097.7"
pub khz_9 : khz_text (of_bits binary64 0x416ae3a480000000) ≡ 49 ∷ 52 ∷ 48 ∷ 57 ∷ 55 ∷ 46 ∷ 55 ∷ []
unfolding khz_text text_of khz_places near_whole decimal_of round_of sign_of digits digit_count of_bits of_int div mul sub neg lt eq
khz_9 = refl

-- 2^43 Hz: "8796093022.208"
pub khz_10 :
    khz_text (of_bits binary64 0x42a0000000000000) ≡ 56 ∷ 55 ∷ 57 ∷ 54 ∷ 48 ∷ 57 ∷ 51 ∷ 48 ∷ 50 ∷ 50 ∷ 46 ∷ 50 ∷ 48 ∷ 56 ∷ []
unfolding khz_text text_of khz_places near_whole decimal_of round_of sign_of digits digit_count of_bits of_int div mul sub neg lt eq
khz_10 = refl

-- -0.5 Hz: "-0"
pub hertz_1 : hertz_text (of_bits binary64 0xbfe0000000000000) ≡ 45 ∷ 48 ∷ []
unfolding hertz_text text_of khz_places near_whole decimal_of round_of sign_of digits digit_count of_bits of_int div mul sub neg lt eq
hertz_1 = refl

-- -0.0 Hz: "-0"
pub hertz_2 : hertz_text (of_bits binary64 0x8000000000000000) ≡ 45 ∷ 48 ∷ []
unfolding hertz_text text_of khz_places near_whole decimal_of round_of sign_of digits digit_count of_bits of_int div mul sub neg lt eq
hertz_2 = refl

-- 0.5 Hz: "0"
pub hertz_3 : hertz_text (of_bits binary64 0x3fe0000000000000) ≡ 48 ∷ []
unfolding hertz_text text_of khz_places near_whole decimal_of round_of sign_of digits digit_count of_bits of_int div mul sub neg lt eq
hertz_3 = refl

-- 1.5 Hz: "2"
pub hertz_4 : hertz_text (of_bits binary64 0x3ff8000000000000) ≡ 50 ∷ []
unfolding hertz_text text_of khz_places near_whole decimal_of round_of sign_of digits digit_count of_bits of_int div mul sub neg lt eq
hertz_4 = refl

-- 2^43 Hz: "8796093022208"
pub hertz_5 : hertz_text (of_bits binary64 0x42a0000000000000) ≡ 56 ∷ 55 ∷ 57 ∷ 54 ∷ 48 ∷ 57 ∷ 51 ∷ 48 ∷ 50 ∷ 50 ∷ 50 ∷ 48 ∷ 56 ∷ []
unfolding hertz_text text_of khz_places near_whole decimal_of round_of sign_of digits digit_count of_bits of_int div mul sub neg lt eq
hertz_5 = refl

-- 2^-1074 Hz: "0"
pub hertz_6 : hertz_text (of_bits binary64 0x0000000000000001) ≡ 48 ∷ []
unfolding hertz_text text_of khz_places near_whole decimal_of round_of sign_of digits digit_count of_bits of_int div mul sub neg lt eq
hertz_6 = refl
