-- The rows as the distance reads them: from the bytes that the list call leaves, the distance is nought exactly if the dial lies in a row
-- that counts.
use Rattle.std.specs.Prelude.{ℕ, zero, suc, ◌*◌, ◌<◌, Bool, true, false, ◌||◌, List, [], ◌∷◌, ◌++◌, ◌≡◌, refl, length, get_or, Float, Ok}
use Rattle.std.proofs.lemmas.Bool.{false≢true}
use Rattle.std.proofs.Common.{sym, ap, subst, ◌∙◌, arith}
use Rattle.figures.specs.Figure.{zero_hz}
use Rattle.profile.specs.Range.{range}
use Rattle.scan.specs.First.{some}
use Rattle.scan.specs.Laws.{some_true}
use Rattle.eighths.specs.Grid.{Figure}
use Rattle.rows.specs.Rows.{row_size, encode_all, sorted, low_at, high_at, row_band}
use Rattle.lists.specs.Laws.{Every}
use Rattle.rows.specs.Order.{any_row, any_sorted, length_sorted, every_sorted, or_left, or_right}
use Rattle.rows.specs.Read.{low_of, high_of_holds, band_of_holds}
use Rattle.rows.specs.declared.SafeDial.{SafeDial}
use Rattle.dial_rows.specs.Laws.{DialsFit}
use Rattle.distance.specs.Distance.{is_outside, least_up_to}
use Rattle.demand_3.specs.Tests.{same}
use Rattle.demand_3.specs.Words.{nought}
use Rattle.demand_3.specs.Dial.{RowEnd}
use Rattle.demand_3.specs.Listed.{Passing, some_index, lies}
use Rattle.demand_3.specs.Rows.{OutsideEnds}
use Rattle.demand_3.specs.Nearest.{lies_at, least_nought}

-- a row for places past the end
abbrev pub no_row : SafeDial
no_row = record { band = 0; segment = range zero_hz zero_hz; rule = 0; dial_low_hz = zero_hz; dial_high_hz = zero_hz }

pub every_get : (P : SafeDial → Type 0) (xs : List SafeDial) → Every P xs → (i : ℕ) → i < length xs → P (get_or xs i no_row)
every_get P [] h i k = absurd (omega arith)
every_get P (x ∷ xs) h zero k = h.0
every_get P (x ∷ xs) h (suc i) k = every_get P xs h.1 i (omega arith)

-- whether a row passes, row by row
any_in : (test : SafeDial → Bool) (xs : List SafeDial) (i : ℕ) → i < length xs → test (get_or xs i no_row) ≡ true → any_row test xs ≡ true
any_in test [] i k e = absurd (omega arith)
any_in test (x ∷ xs) zero k e = or_left (test x) (any_row test xs) e
any_in test (x ∷ xs) (suc i) k e = or_right (test x) (any_row test xs) (any_in test xs i (omega arith) e)

any_of : (test : SafeDial → Bool) (xs : List SafeDial) → any_row test xs ≡ true → Passing (λ i. test (get_or xs i no_row)) (length xs)
any_of test [] e = absurd (false≢true e)
any_of test (x ∷ xs) e = go (test x) refl (any_of test xs) e
  where
    go :
        (b : Bool) → test x ≡ b → (any_row test xs ≡ true → Passing (λ i. test (get_or xs i no_row)) (length xs)) → (b || any_row test xs) ≡ true
        → Passing (λ i. test (get_or (x ∷ xs) i no_row)) (suc (length xs))
    go true p next q = record { index = 0; below = omega arith; passes = p }
    go false p next q = let s = next q in record { index = suc s.index; below = omega (arith, s.below); passes = s.passes }

module _ (dial : Float) (flags channel : ℕ) (ys : List SafeDial) (rest : List ℕ) (F : Every DialsFit ys) where
  abbrev bytes : List ℕ
  bytes = encode_all ys ++ rest

  module _ (i : ℕ) (h : i < length ys) where
    low_is : low_at bytes (i * row_size) ≡ (get_or ys i no_row).dial_low_hz
    low_is = low_of ys rest i no_row h (every_get DialsFit ys F i h).0

    high_is : high_at bytes (i * row_size) ≡ (get_or ys i no_row).dial_high_hz
    high_is = high_of_holds ys rest i no_row h (every_get DialsFit ys F i h).1

    pub band_is : row_band bytes (i * row_size) ≡ (get_or ys i no_row).band
    band_is = band_of_holds ys rest i no_row h

    lies_is : lies_at dial flags channel bytes i ≡ lies flags channel dial (get_or ys i no_row)
    lies_is = rw low_is (rw high_is (rw band_is))

  -- whether the dial lies in a row that counts, of the bytes
  pub lies_read : some (lies_at dial flags channel bytes) (length ys) ≡ any_row (lies flags channel dial) ys
  lies_read =
      same (some (lies_at dial flags channel bytes) (length ys)) (any_row (lies flags channel dial) ys)
      (λ e.
      let s = some_index (lies_at dial flags channel bytes) (length ys) e in
      any_in (lies flags channel dial) ys s.index s.below (sym (lies_is s.index s.below) ∙ s.passes))
      (λ e.
      let s = any_of (lies flags channel dial) ys e in
      some_true (lies_at dial flags channel bytes) (length ys) s.index s.below (lies_is s.index s.below ∙ s.passes))

  -- So the distance is nought exactly then.
  rows_nought : Figure dial → Every (OutsideEnds flags channel) ys
      → nought (Ok (least_up_to dial flags channel bytes (length ys))) ≡ any_row (lies flags channel dial) ys
  rows_nought D E =
      least_nought dial flags channel bytes (length ys) D
      (λ i h o.
      let r = every_get (OutsideEnds flags channel) ys E i h (ap (is_outside flags channel) (sym (band_is i h)) ∙ o) in
      (subst RowEnd (sym (low_is i h)) r.low, subst RowEnd (sym (high_is i h)) r.high))
      ∙ lies_read

-- The same of the rows in their order, as the list call leaves them.
pub sorted_nought :
    (dial : Float) (flags channel : ℕ) → Figure dial → (xs : List SafeDial) (rest : List ℕ) → Every DialsFit xs → Every (OutsideEnds flags channel) xs
    → nought (Ok (least_up_to dial flags channel (encode_all (sorted xs) ++ rest) (length xs))) ≡ any_row (lies flags channel dial) xs
sorted_nought dial flags channel D xs rest F E =
    ap (λ (n : ℕ). nought (Ok (least_up_to dial flags channel (encode_all (sorted xs) ++ rest) n))) (sym (length_sorted xs))
    ∙ rows_nought dial flags channel (sorted xs) rest (every_sorted DialsFit xs F) D (every_sorted (OutsideEnds flags channel) xs E)
    ∙ any_sorted (lies flags channel dial) xs
