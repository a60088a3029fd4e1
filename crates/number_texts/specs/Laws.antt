-- What the loops over digits know at each turn, and the parts of a text put one behind the other.
use Prim.Native.Nat.{ℕ, zero, suc, ◌+◌, ◌-◌, ◌/◌, ◌%◌, ◌^◌, ◌<◌, ◌≤◌}
use Rattle.std.specs.Prelude.{Result, Ok, Err, Bool, true, false, cond, not, List, [], ◌∷◌, ◌++◌, ◌≡◌, eqb, ltb, Float, drop, set}
use Rattle.codes.specs.declared.Refusal.TheVariants as refusal
use Rattle.codes.specs.declared.Refusal.{Refusal}
use Rattle.std.proofs.Math.Path.{refl, sym, ap}
use Rattle.std.proofs.Common.{◌∙◌, add_assoc, zero-add, add-one, length-set, length-append}
use native.Mathlib.Omega.{arith}
use borrow.Author.Tests.{lt-ltb, le-ltb}
use Rattle.std.specs.Float.{binary64}
use Rattle.std.specs.Float.Ieee.{mul}
use Rattle.std.proofs.Math.ListN.{length}
use Rattle.std.proofs.Math.Seq.{sets}
use Rattle.std.proofs.lemmas.List.{set_comm}
use Rattle.std.proofs.lemmas.List.Edits.{sets-eq}
use Rattle.byte_writes.specs.Laws.{sets_next}
use Rattle.figures.specs.Figure.{in_size}
use Rattle.codes.specs.Refusal.{test, refusal_of}
use Rattle.decimal.specs.Decimal.{decimal_rounded}
use Rattle.decimal.specs.declared.Decimal.{Decimal}
use Rattle.digit_groups.specs.Group.{group_of}
use Rattle.digit_groups.specs.declared.Group.{Group}
use Rattle.decimal.specs.Within.{Within, limit43, ten, in_size_within, within_more, div_within, mul_within}
use Rattle.number_texts.specs.Text.{digits, digit_count, sign_text, whole_text, point_text, written, text_of, kilohertz, near_whole, khz_places, khz_text, sized}
use Rattle.number_texts.specs.Text.{room_tests, Left, Texted}

-- ---- counting digits

pub record Counting (n rest count : ℕ) : Type 0 where
  pub some : 1 ≤ count
  pub within : count ≤ 13
  pub more : digit_count 12 n + 1 ≡ count + digit_count (13 - count) rest

module _ (n : ℕ) where
  pub count_step : (rest count : ℕ) → Counting n rest count → count < 13 → 10 ≤ rest → Counting n (rest / 10) (count + 1)
  unfolding digit_count
  count_step rest count c h k =
      let a : 13 - count ≡ suc (13 - (count + 1)) = omega arith in
      let b = rw (a, le-ltb rest 10 k) at c.more in
      record { some = omega arith; within = omega arith; more = omega (arith, b) }

  -- three digits at once
  pub count_three : (rest count : ℕ) → Counting n rest count → count ≤ 10 → 1000 ≤ rest → Counting n (rest / 1000) (count + 3)
  count_three rest count c h k =
      let a = count_step rest count c (omega arith) (omega arith) in
      let b = count_step (rest / 10) (count + 1) a (omega arith) (omega arith) in
      let d = count_step (rest / 10 / 10) (count + 1 + 1) b (omega arith) (omega arith) in
      let e : rest / 10 / 10 / 10 ≡ rest / 1000 = omega arith in
      let f : count + 1 + 1 + 1 ≡ count + 3 = omega arith in
      rw (e, f) at d

  pub count_few : (rest count : ℕ) → Counting n rest count → count < 13 → rest < 10 → count ≡ digit_count 12 n
  unfolding digit_count
  count_few rest count c h k =
      let a : 13 - count ≡ suc (13 - (count + 1)) = omega arith in
      let b = rw (a, lt-ltb rest 10 k) at c.more in
      omega (arith, b)

  pub count_two : (rest count : ℕ) → Counting n rest count → count ≤ 10 → 10 ≤ rest → rest < 100 → count + 1 ≡ digit_count 12 n
  count_two rest count c h k t =
      count_few (rest / 10) (count + 1) (count_step rest count c (omega arith) k) (omega arith) (omega arith)

  pub count_all : (rest count : ℕ) → Counting n rest count → count ≤ 10 → 100 ≤ rest → rest < 1000 → count + 2 ≡ digit_count 12 n
  count_all rest count c h k t =
      let a = count_step rest count c (omega arith) (omega arith) in
      let b = count_step (rest / 10) (count + 1) a (omega arith) (omega arith) in
      let e : count + 1 + 1 ≡ count + 2 = omega arith in
      sym e ∙ count_few (rest / 10 / 10) (count + 1 + 1) b (omega arith) (omega arith)

  pub count_end : (rest count : ℕ) → Counting n rest count → 13 ≤ count → count ≡ digit_count 12 n
  unfolding digit_count
  count_end rest count c h =
      let a : 13 - count ≡ 0 = omega arith in
      let b = rw a at c.more in
      omega (arith, b)

pub count_some : (more n : ℕ) → 1 ≤ digit_count more n
unfolding digit_count
count_some zero n = omega arith
count_some (suc more) n = go (ltb n 10)
  where
    go : (b : Bool) → 1 ≤ cond b 1 (suc (digit_count more (n / 10)))
    go true = omega arith
    go false = omega arith

pub count_most : (more n : ℕ) → digit_count more n ≤ suc more
unfolding digit_count
count_most zero n = omega arith
count_most (suc more) n = go (ltb n 10) (count_most more (n / 10))
  where
    go : (b : Bool) → digit_count more (n / 10) ≤ suc more → cond b 1 (suc (digit_count more (n / 10))) ≤ suc (suc more)
    go true h = omega arith
    go false h = omega arith

-- ---- digits put from the last one back

-- a group of three digits, from a place on, and the room that it takes
pub record Room (l : List ℕ) (at : ℕ) : Type 0 where
  pub first : at < length l
  pub second : at + 1 < length l
  pub third : at + 2 < length l

abbrev pub group_set : List ℕ → ℕ → Group → List ℕ
group_set l at g = set (set (set l (at + 2) g.third) (at + 1) g.second) at g.first

-- its last digit or its last two
abbrev pub first_set : List ℕ → ℕ → ℕ → Group → List ℕ
first_set l at count g = cond (eqb count 1) (set l at g.third) (set (set l (at + 1) g.third) at g.second)

pub length_digits : (count n : ℕ) → length (digits count n) ≡ count
unfolding digits
length_digits zero n = refl
length_digits (suc count) n =
    length-append (digits count (n / 10)) ((48 + n % 10) ∷ []) ∙ ap (λ (k : ℕ). k + 1) (length_digits count (n / 10)) ∙ add-one count

-- a byte behind what is put stays
sets_behind : (a l : List ℕ) (at i x : ℕ) → at + length a ≤ i → set (sets l at a) i x ≡ sets (set l i x) at a
sets_behind [] l at i x h = refl
sets_behind (y ∷ a) l at i x h =
    let k : suc at + length a ≤ i = omega arith in
    sets_behind a (set l at y) (suc at) i x k ∙ ap (λ (m : List ℕ). sets m (suc at) a) (set_comm l at i y x (λ e. omega (arith, e, h)))

-- fewer than three digits
module _ (l : List ℕ) (at n : ℕ) where
  first_one : set l at (48 + n % 10) ≡ sets l at (digits 1 n)
  unfolding digits
  first_one = refl

  first_two : set (set l (at + 1) (48 + n % 10)) at (48 + n / 10 % 10) ≡ sets l at (digits 2 n)
  unfolding digits
  first_two = rw (add-one at) (sym (set_comm l at (suc at) (48 + n / 10 % 10) (48 + n % 10) (λ e. omega (arith, e))))

  first_some : (count : ℕ) → 0 < count → count < 3 → first_set l at count (group_of n) ≡ sets l at (digits count n)
  first_some zero h k = absurd (omega (arith, h))
  first_some (suc zero) h k = first_one
  first_some (suc (suc zero)) h k = first_two
  first_some (suc (suc (suc count))) h k = absurd (omega (arith, k))

pub record Digiting (l₀ : List ℕ) (at count n : ℕ) (l : List ℕ) (rest left : ℕ) : Type 0 where
  pub within : left ≤ count
  pub same : length l ≡ length l₀
  pub held : sets l at (digits left rest) ≡ sets l₀ at (digits count n)

module _ (l₀ : List ℕ) (at count n : ℕ) where
  last : (k rest : ℕ) (l : List ℕ) → sets l at (digits (suc k) rest) ≡ sets (set l (at + k) (48 + rest % 10)) at (digits k (rest / 10))
  unfolding digits
  last k rest l =
      let d = digits k (rest / 10) in
      let e : at + length d ≡ at + k = ap (λ (n : ℕ). at + n) (length_digits k (rest / 10)) in
      sym (sets_next d ((48 + rest % 10) ∷ []) l at (at + k) e) ∙ sets_behind d l at (at + k) (48 + rest % 10) (omega (arith, e))

  pub digit_step :
      (l : List ℕ) (rest left : ℕ) → Digiting l₀ at count n l rest left → 0 < left
      → Digiting l₀ at count n (set l (at + (left - 1)) (48 + rest % 10)) (rest / 10) (left - 1)
  digit_step l rest left d h =
      let a : left ≡ suc (left - 1) = omega arith in
      record {
        within = omega (arith, d.within);
        same = length-set l (at + (left - 1)) (48 + rest % 10) ∙ d.same;
        held = sym (last (left - 1) rest l) ∙ ap (λ (k : ℕ). sets l at (digits k rest)) (sym a) ∙ d.held;
      }

  -- three digits at once
  pub digit_three :
      (l : List ℕ) (rest left : ℕ) → Digiting l₀ at count n l rest left → 3 ≤ left
      → Digiting l₀ at count n (group_set l (at + (left - 3)) (group_of rest)) (rest / 1000) (left - 3)
  digit_three l rest left d h =
      let a = digit_step l rest left d (omega arith) in
      let b = digit_step _ (rest / 10) (left - 1) a (omega arith) in
      let c = digit_step _ (rest / 10 / 10) (left - 1 - 1) b (omega arith) in
      let e : rest / 10 / 10 / 10 ≡ rest / 1000 = omega arith in
      let f : rest / 10 / 10 ≡ rest / 100 = omega arith in
      let i : left - 1 - 1 - 1 ≡ left - 3 = omega arith in
      let j : at + (left - 1 - 1) ≡ at + (left - 3) + 1 = omega arith in
      let k : at + (left - 1) ≡ at + (left - 3) + 2 = omega arith in
      rw (e, f, i, j, k) at c

  -- the one or two that are left
  pub digit_first :
      (l : List ℕ) (rest left : ℕ) → Digiting l₀ at count n l rest left → 0 < left → left < 3
      → first_set l at left (group_of rest) ≡ sets l₀ at (digits count n)
  digit_first l rest left d h k = first_some l at rest left h k ∙ d.held

  pub digit_end : (l : List ℕ) (rest left : ℕ) → Digiting l₀ at count n l rest left → left ≤ 0 → l ≡ sets l₀ at (digits count n)
  unfolding digits
  digit_end l rest left d h =
      let e : left ≡ 0 = omega arith in
      ap (λ (k : ℕ). sets l at (digits k rest)) (sym e) ∙ d.held

-- ---- the parts of a text

-- the bytes of the point and what is behind it, whatever that is
abbrev pub point_length : ℕ → ℕ
point_length places = cond (eqb places 0) 0 (places + 1)

pub length_point : (places part : ℕ) → length (point_text places part) ≡ point_length places
length_point places part = go (eqb places 0)
  where
    go : (b : Bool) → length (cond b [] (46 ∷ digits places part)) ≡ cond b 0 (places + 1)
    go true = refl
    go false = ap suc (length_digits places part) ∙ sym (add-one places)

pub length_written : (negative : Bool) (whole places part : ℕ)
    → length (written negative whole places part) ≡ length (sign_text negative) + digit_count 12 whole + point_length places
length_written negative whole places part =
    length-append (sign_text negative) (whole_text whole ++ point_text places part)
    ∙ ap (λ (k : ℕ). length (sign_text negative) + k)
    (length-append (whole_text whole) (point_text places part)
    ∙ ap (λ (k : ℕ). k + length (point_text places part)) (length_digits (digit_count 12 whole) whole)
    ∙ ap (λ (k : ℕ). digit_count 12 whole + k) (length_point places part))
    ∙ sym (add_assoc (length (sign_text negative)) (digit_count 12 whole) (point_length places))

pub sign_short : (negative : Bool) → length (sign_text negative) ≤ 1
sign_short true = omega arith
sign_short false = omega arith

pub point_short : (places : ℕ) → places ≤ 3 → point_length places ≤ 4
point_short places h = go (eqb places 0)
  where
    go : (b : Bool) → cond b 0 (places + 1) ≤ 4
    go true = omega arith
    go false = omega (arith, h)

-- sign, whole number and point, each at its place
pub put_all : (l : List ℕ) (negative : Bool) (whole places part sign point : ℕ)
    → sign ≡ length (sign_text negative) → point ≡ sign + digit_count 12 whole
    → sets (sets (sets l 0 (sign_text negative)) sign (whole_text whole)) point (point_text places part) ≡ sets l 0 (written negative whole places part)
put_all l negative whole places part sign point e f =
    sets_next (whole_text whole) (point_text places part) (sets l 0 (sign_text negative)) sign point
    (ap (λ (k : ℕ). sign + k) (length_digits (digit_count 12 whole) whole) ∙ sym f)
    ∙ sets_next (sign_text negative) (whole_text whole ++ point_text places part) l 0 sign (zero-add (length (sign_text negative)) ∙ sym e)

-- ---- a text in lent bytes

-- where only its length can be against it
abbrev pub Shown : List ℕ → List ℕ → List ℕ → Result ℕ Refusal → Type 0
Shown text lent left answer = Left (refusal_of (room_tests text lent)) text lent left answer

pub shown_few : (text lent : List ℕ) (n : ℕ) → length text ≡ n → length lent < n → Shown text lent lent (Err refusal.Text)
shown_few text lent n e h =
    let k : length lent < length text = omega arith in
    record { answered = rw (lt-ltb (length lent) (length text) k); bytes = rw (lt-ltb (length lent) (length text) k) }

pub shown_all : (text lent left : List ℕ) (n : ℕ) → length text ≡ n → n ≤ length lent → left ≡ sets lent 0 text
    → Shown text lent left (Ok n)
shown_all text lent left n e h b =
    let k : length text ≤ length lent = omega arith in
    record {
      answered = rw (le-ltb (length lent) (length text) k) (ap Ok (sym e));
      bytes = rw (le-ltb (length lent) (length text) k)
          (b ∙ sets-eq text lent 0 (omega (arith, k)) ∙ ap (λ (n : ℕ). text ++ drop n lent) (zero-add (length text)));
    }

pub sized_in : (hz : Float) → sized hz ≡ Ok tt → in_size limit43 hz ≡ true
sized_in hz h = go (in_size limit43 hz) h
  where
    go : (b : Bool) → refusal_of (test refusal.StationFigure (not b) ∷ []) ≡ Ok tt → b ≡ true
    go true e = refl
    go false e = absurd (cc)

pub texted_size : (hz : Float) (text lent : List ℕ) (r : Refusal) (answer : Result ℕ Refusal) → sized hz ≡ Err r → answer ≡ Err r
    → Texted hz text lent lent answer
texted_size hz text lent r answer h q = go (in_size limit43 hz) h
  where
    go : (b : Bool) → refusal_of (test refusal.StationFigure (not b) ∷ []) ≡ Err r
        → Left (refusal_of (test refusal.StationFigure (not b) ∷ room_tests text lent)) text lent lent answer
    go true e = absurd (cc)
    go false e = let p : r ≡ refusal.StationFigure = cc in record { answered = q ∙ ap Err p; bytes = refl }

pub texted_shown : (hz : Float) (text lent left : List ℕ) (r : Result ℕ Refusal) → sized hz ≡ Ok tt → Shown text lent left r
    → Texted hz text lent left r
texted_shown hz text lent left r h s = let e = sized_in hz h in record { answered = rw e s.answered; bytes = rw e s.bytes }

-- ---- a figure's text by its decimal

pub ten_power : (places : ℕ) → places ≤ 3 → (0 < 10 ^ places) × (10 ^ places ≤ 1000)
ten_power zero h = (omega arith, omega arith)
ten_power (suc zero) h = (omega arith, omega arith)
ten_power (suc (suc zero)) h = (omega arith, omega arith)
ten_power (suc (suc (suc zero))) h = (omega arith, omega arith)
ten_power (suc (suc (suc (suc n)))) h = absurd (omega (arith, h))

module _ (x : Float) (places units : ℕ) (d : Decimal) (e : units ≡ 10 ^ places) (r : d ≡ decimal_rounded units x) where
  pub text_is : written d.negative (d.count / units) places (d.count % units) ≡ text_of places x
  unfolding text_of
  text_is = rw r (rw e)

  pub text_length :
      (sign width point : ℕ) → sign ≡ length (sign_text d.negative) → width ≡ digit_count 12 (d.count / units) → point ≡ point_length places
      → length (text_of places x) ≡ sign + width + point
  text_length sign width point p q t =
      ap length (sym text_is) ∙ length_written d.negative (d.count / units) places (d.count % units) ∙ rw (p, q, t)

  -- it has at most 18 bytes
  pub text_short :
      (sign width point : ℕ) → places ≤ 3 → sign ≡ length (sign_text d.negative) → width ≡ digit_count 12 (d.count / units)
      → point ≡ point_length places → sign + width + point ≤ 18
  text_short sign width point h p q t =
      let a = sign_short d.negative in
      let b = count_most 12 (d.count / units) in
      let k = point_short places h in
      omega (arith, a, b, k, p, q, t)

-- ---- kilohertz are within the limit too

pub hertz_within : (hz : Float) → sized hz ≡ Ok tt → Within 43 hz
hertz_within hz h = in_size_within hz (sized_in hz h)

pub khz_within : (hz : Float) → sized hz ≡ Ok tt → Within 43 (kilohertz hz)
khz_within hz h = within_more 34 43 (omega arith) (kilohertz hz) (div_within hz (hertz_within hz h))

pub khz_ten_within : (hz : Float) → sized hz ≡ Ok tt → Within 43 (mul binary64 (kilohertz hz) ten)
khz_ten_within hz h = within_more 38 43 (omega arith) (mul binary64 (kilohertz hz) ten) (mul_within (kilohertz hz) (div_within hz (hertz_within hz h)))

-- ---- the places of khz

pub khz_none : (k : Float) → near_whole k ≡ true → khz_places k ≡ 0
unfolding khz_places
khz_none k h = rw h

pub khz_one : (k : Float) → near_whole k ≡ false → near_whole (mul binary64 k ten) ≡ true → khz_places k ≡ 1
unfolding khz_places
khz_one k h t = rw h (rw t)

pub khz_three : (k : Float) → near_whole k ≡ false → near_whole (mul binary64 k ten) ≡ false → khz_places k ≡ 3
unfolding khz_places
khz_three k h t = rw h (rw t)

pub places_few : (k : Float) → khz_places k ≤ 3
unfolding khz_places
places_few k = go (near_whole k) (near_whole (mul binary64 k ten))
  where
    go : (b c : Bool) → cond b 0 (cond c 1 3) ≤ 3
    go true c = omega arith
    go false true = omega arith
    go false false = omega arith

pub texted_khz : (hz : Float) (places : ℕ) (lent left : List ℕ) (r : Result ℕ Refusal) → in_size limit43 hz ≡ true → khz_places (kilohertz hz) ≡ places
    → Shown (text_of places (kilohertz hz)) lent left r → Texted hz (khz_text hz) lent left r
unfolding khz_text
texted_khz hz places lent left r h e s = rw e (texted_shown hz (text_of places (kilohertz hz)) lent left r (rw h) s)
