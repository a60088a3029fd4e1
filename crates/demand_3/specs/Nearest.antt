-- The least distance over rows whose ends are on the grid: nought exactly if the dial lies in one of them, and none listed if none counts.
use Prim.Native.Nat.{ℕ, zero, suc, ◌+◌, ◌*◌, ◌≤◌, ◌<◌}
use Rattle.std.specs.Prelude.{Option, Some, None, Ok, Bool, not, cond, ◌&&◌, List, ◌≡◌}
use Rattle.std.proofs.Math.Bool.{true, false}
use Rattle.std.proofs.Common.{true≢false, sym, ap, subst, ◌∙◌, arith, eqb-true, eq-eqb, ne_eqb}
use Rattle.std.proofs.lemmas.Bool.{false≢true}
use Rattle.std.proofs.Math.Path.{refl}
use Rattle.std.proofs.Math.Decide.{dec_le}
use Rattle.std.specs.Float.Ieee.{Float, sub, lt, le, eq}
use Rattle.std.specs.Float.{binary64}
use Rattle.figures.specs.Figure.{zero_hz}
use Rattle.scan.specs.First.{some}
use Rattle.scan.specs.Laws.{some_true, and_true}
use Rattle.eighths.specs.Grid.{Figure}
use Rattle.eighths.specs.Laws.{zero_eighths, eq_eighths}
use Rattle.exact.specs.Air.{distance, distance_above}
use Rattle.rows.specs.Rows.{row_size, low_at, high_at, row_band}
use Rattle.distance.specs.Distance.{is_outside, counts, distance_to, nearer_of, considered_at, least_up_to}
use Rattle.demand_3.specs.Words.{nought, answers}
use Rattle.demand_3.specs.Tests.{and_both, same}
use Rattle.demand_3.specs.Order.{Grid, grid, figure_grid, lt_true, lt_false, le_by_lt}
use Rattle.demand_3.specs.Dial.{RowEnd}
use Rattle.demand_3.specs.Listed.{Passing, some_index}

abbrev nil : Grid zero_hz
nil = grid zero_eighths

-- a figure on the grid that is not below zero
record Size (d : Float) : Type 0 where
  eighths : Grid d
  positive : eighths.below ≤ eighths.above

module _ {d : Float} (X : Grid d) where
  zero_true : eq d zero_hz ≡ true → X.above ≡ X.below
  zero_true h = let e = eqb-true (X.above + 0) (0 + X.below) (sym (eq_eighths X.eighths zero_eighths) ∙ h) in omega arith

  zero_of : X.above ≡ X.below → eq d zero_hz ≡ true
  zero_of h = eq_eighths X.eighths zero_eighths ∙ eq-eqb (X.above + 0) (0 + X.below) (omega arith)

  zero_not : X.below < X.above → eq d zero_hz ≡ false
  zero_not h = eq_eighths X.eighths zero_eighths ∙ ne_eqb (X.above + 0) (0 + X.below) (λ e. absurd (omega arith))

-- ---- one row

abbrev between : Float → Float → Float → Bool
between dial low high = le low dial && le dial high

record Near (d : Float) (inside : Bool) : Type 0 where
  size : Size d
  exactly : eq d zero_hz ≡ inside

and_not_left : (a b : Bool) → a ≡ false → (a && b) ≡ false
and_not_left a b e = rw e

and_not_right : (a b : Bool) → b ≡ false → (a && b) ≡ false
and_not_right true b e = e
and_not_right false b e = refl

-- The distance to a row is nought exactly on it or between its ends.
row_near : (dial low high : Float) → Figure dial → RowEnd low → RowEnd high → Near (distance_to dial low high) (between dial low high)
row_near dial low high D L H = go (lt dial low) (lt high dial) refl refl
  where
    low_e : Grid low
    low_e = grid L.eighths

    high_e : Grid high
    high_e = grid H.eighths

    go :
        (a b : Bool) → lt dial low ≡ a → lt high dial ≡ b
        → Near (cond a (sub binary64 low dial) (cond b (sub binary64 dial high) zero_hz)) (between dial low high)
    go true b p q =
        let s = grid (distance dial low L.above L.below D L.eighths L.above_le L.below_le) in
        let h = lt_true (figure_grid D) low_e p in
        record {
          size = record { eighths = s; positive = omega arith };
          exactly =
              zero_not s (omega arith)
              ∙ sym (and_not_left (le low dial) (le dial high) (le_by_lt low_e (figure_grid D) ∙ ap not p));
        }
    go false true p q =
        let s = grid (distance_above dial high H.above H.below D H.eighths H.above_le H.below_le) in
        let h = lt_true high_e (figure_grid D) q in
        record {
          size = record { eighths = s; positive = omega arith };
          exactly =
              zero_not s (omega arith)
              ∙ sym (and_not_right (le low dial) (le dial high) (le_by_lt (figure_grid D) high_e ∙ ap not q));
        }
    go false false p q =
        record {
          size = record { eighths = nil; positive = omega arith };
          exactly =
              zero_of nil refl
              ∙ sym (and_both (le low dial) (le dial high) (le_by_lt low_e (figure_grid D) ∙ ap not p) (le_by_lt (figure_grid D) high_e ∙ ap not q));
        }

-- ---- the least of several

module _ (dial : Float) (flags channel : ℕ) (rows : List ℕ) where
  abbrev pub low_of : ℕ → Float
  low_of i = low_at rows (i * row_size)

  abbrev pub high_of : ℕ → Float
  high_of i = high_at rows (i * row_size)

  abbrev pub row_band_of : ℕ → ℕ
  row_band_of i = row_band rows (i * row_size)

  abbrev pub counts_at : ℕ → Bool
  counts_at i = counts flags channel (row_band_of i) (low_of i) (high_of i)

  abbrev pub lies_at : ℕ → Bool
  lies_at i = counts_at i && between dial (low_of i) (high_of i)

  -- the least of the first n rows
  record Least (d : Float) (n : ℕ) : Type 0 where
    size : Size d
    nought_of : eq d zero_hz ≡ true → Passing lies_at n
    of_nought : (i : ℕ) → i < n → lies_at i ≡ true → eq d zero_hz ≡ true

  abbrev LeastOf : Option Float → ℕ → Type 0
  LeastOf (Some d) n = Least d n
  LeastOf None n = (i : ℕ) → i < n → counts_at i ≡ false

  -- an index below n + 1 is n or below n
  last_or : (n : ℕ) (P : ℕ → Type 0) → P n → ((i : ℕ) → i < n → P i) → (i : ℕ) → i < suc n → P i
  last_or n P here before i h = go (dec_le (suc i) n)
    where
      go : Dec (suc i ≤ n) → P i
      go (yes k) = before i k
      go (no k) = let e : n ≡ i = omega arith in subst P e here

  more : {n : ℕ} → Passing lies_at n → Passing lies_at (suc n)
  more s = record { index = s.index; below = omega (arith, s.below); passes = s.passes }

  -- a row that counts
  module _ (n : ℕ) (c : counts_at n ≡ true) (N : Near (distance_to dial (low_of n) (high_of n)) (between dial (low_of n) (high_of n))) where
    abbrev by : Float
    by = distance_to dial (low_of n) (high_of n)

    here : eq by zero_hz ≡ true → Passing lies_at (suc n)
    here e =
        record { index = n; below = omega arith; passes = and_both (counts_at n) (between dial (low_of n) (high_of n)) c (sym N.exactly ∙ e) }

    nought_here : lies_at n ≡ true → eq by zero_hz ≡ true
    nought_here e = N.exactly ∙ (and_true (counts_at n) (between dial (low_of n) (high_of n)) e).1

    counted : (best : Option Float) → LeastOf best n → LeastOf (nearer_of best by) (suc n)
    counted None before =
        record {
          size = N.size;
          nought_of = here;
          of_nought = last_or n (λ i. lies_at i ≡ true → eq by zero_hz ≡ true) nought_here
              (λ i h e. absurd (true≢false (sym (and_true (counts_at i) (between dial (low_of i) (high_of i)) e).0 ∙ before i h)));
        }
    counted (Some a) before = go (lt by a) refl
      where
        A : Size a
        A = before.size

        B : Size by
        B = N.size

        go : (b : Bool) → lt by a ≡ b → LeastOf (Some (cond b by a)) (suc n)
        go true l =
            record {
              size = B;
              nought_of = here;
              of_nought = last_or n (λ i. lies_at i ≡ true → eq by zero_hz ≡ true) nought_here
                  (λ i h e.
                  absurd
                  (omega
                  (arith, lt_true B.eighths A.eighths l, zero_true A.eighths (before.of_nought i h e), B.positive)));
            }
        go false l =
            record {
              size = A;
              nought_of = λ e. more (before.nought_of e);
              of_nought = last_or n (λ i. lies_at i ≡ true → eq a zero_hz ≡ true)
                  (λ e.
                  zero_of A.eighths
                  (omega
                  (arith, lt_false B.eighths A.eighths l, zero_true B.eighths (nought_here e), A.positive)))
                  (λ i h e. before.of_nought i h e);
            }

  -- a row that does not
  passed : (n : ℕ) → counts_at n ≡ false → (best : Option Float) → LeastOf best n → LeastOf best (suc n)
  passed n c None before = last_or n (λ i. counts_at i ≡ false) c before
  passed n c (Some a) before =
      record {
        size = before.size;
        nought_of = λ e. more (before.nought_of e);
        of_nought = last_or n (λ i. lies_at i ≡ true → eq a zero_hz ≡ true)
            (λ e. absurd (true≢false (sym (and_true (counts_at n) (between dial (low_of n) (high_of n)) e).0 ∙ c)))
            (λ i h e. before.of_nought i h e);
      }

  module _
      (count : ℕ) (D : Figure dial)
      (E : (i : ℕ) → i < count → is_outside flags channel (row_band_of i) ≡ true → (RowEnd (low_of i)) × (RowEnd (high_of i)))
    where
      least_of : (n : ℕ) → n ≤ count → LeastOf (least_up_to dial flags channel rows n) n
      unfolding least_up_to considered_at
      least_of zero h = λ i k. absurd (omega arith)
      least_of (suc n) h = go (counts_at n) refl (least_up_to dial flags channel rows n) (least_of n (omega arith))
        where
          go :
              (b : Bool) → counts_at n ≡ b → (best : Option Float) → LeastOf best n
              → LeastOf (cond b (nearer_of best (distance_to dial (low_of n) (high_of n))) best) (suc n)
          go true c best before =
              let e = E n (omega arith) (and_true (is_outside flags channel (row_band_of n)) (le (low_of n) (high_of n)) c).0 in
              counted n c (row_near dial (low_of n) (high_of n) D e.0 e.1) best before
          go false c best before = passed n c best before

      -- Nought exactly if the dial lies in a row that counts.
      pub least_nought : nought (Ok (least_up_to dial flags channel rows count)) ≡ some lies_at count
      least_nought = go (least_up_to dial flags channel rows count) (least_of count (omega arith))
        where
          go : (best : Option Float) → LeastOf best count → nought (Ok best) ≡ some lies_at count
          go (Some d) L =
              same (eq d zero_hz) (some lies_at count) (λ e. let s = L.nought_of e in some_true lies_at count s.index s.below s.passes)
              (λ e. let s = some_index lies_at count e in L.of_nought s.index s.below s.passes)
          go None L =
              same false (some lies_at count) (λ e. absurd (false≢true e))
              (λ e.
              let s = some_index lies_at count e in
              absurd
              (true≢false
              (sym (and_true (counts_at s.index) (between dial (low_of s.index) (high_of s.index)) s.passes).0 ∙ L s.index s.below)))

  -- None listed if no row counts.
  pub least_none : (n : ℕ) → ((i : ℕ) → i < n → counts_at i ≡ false) → least_up_to dial flags channel rows n ≡ None
  unfolding least_up_to considered_at
  least_none zero h = refl
  least_none (suc n) h = rw (h n (omega arith)) (least_none n (λ i k. h i (omega arith)))

-- The least is an answer.
pub least_answers : (best : Option Float) → answers (Ok best) ≡ true
least_answers (Some d) = refl
least_answers None = refl
