-- On the grid of eighths every sum is exact: a dial lies between the ends of a piece's dial range exactly if the piece holds the guarded
-- signal at that dial, on either sideband and for margins of either sign.
use Rattle.std.specs.Prelude.{ℕ, ◌+◌, ◌*◌, ◌≤◌, ◌^◌, true, ◌≡◌, Float}
use Rattle.std.proofs.Common.{arith}
use Rattle.std.specs.Float.Ieee.{lt, le}
use Rattle.figures.specs.Figure.{zero_hz}
use Rattle.codes.specs.declared.Sideband.{Sideband}
use Rattle.codes.specs.declared.Sideband.TheVariants.{Usb, Lsb}
use Rattle.profile.specs.Range.{lengthy}
use Rattle.profile.specs.declared.Range.{Range}
use Rattle.air.specs.Air.{rf_range_of, guarded_of, dial_ends_of}
use Rattle.air.specs.declared.Margins.{Margins}
use Rattle.eighths.specs.Grid.{Figure, Eighths, plus_eighths, minus_eighths}
use Rattle.eighths.specs.Laws.{zero_eighths, add_eighths, le_eighths}
use Rattle.exact.specs.Air.{MarginFigures, guarded_usb_low, guarded_usb_high, guarded_lsb_low, guarded_lsb_high}
use Rattle.exact.specs.Air.{width, dial_usb_low, dial_usb_high, dial_lsb_low, dial_lsb_high}
use Rattle.demand_3.specs.Words.{guarded_width}
use Rattle.demand_3.specs.Order.{grid, lt_true, lt_of, Ends, Figures}

-- Two comparisons of figures that differ by the same number of eighths are one.
same_le :
    {x y z w : Float} {p q p' q' r s r' s' : ℕ} → Eighths x p q → Eighths y p' q' → Eighths z r s → Eighths w r' s' → p + q' ≡ r + s' → p' + q ≡ r' + s
    → le x y ≡ le z w
same_le X Y Z W e f = rw (le_eighths X Y) (rw (le_eighths Z W) (rw e (rw f)))

-- the end of a row: a sum of three figures
pub record RowEnd (x : Float) : Type 0 where
  pub above : ℕ
  pub below : ℕ
  pub eighths : Eighths x above below
  pub above_le : above ≤ 3 * 2 ^ 43
  pub below_le : below ≤ 3 * 2 ^ 43

row_end : {x : Float} {p q : ℕ} → Eighths x p q → p ≤ 3 * 2 ^ 43 → q ≤ 3 * 2 ^ 43 → RowEnd x
row_end {x} {p} {q} E h k = record { above = p; below = q; eighths = E; above_le = h; below_le = k }

module _ (dial : Float) (margin : Margins) (audio : Range) (D : Figure dial) (M : MarginFigures margin) (A : Figures audio) where
  abbrev guarded : Sideband → Range
  guarded sideband = guarded_of margin (rf_range_of dial sideband audio)

  abbrev low : Float
  low = audio.low_hz

  abbrev high : Float
  high = audio.high_hz

  -- the guarded signal's ends are on the grid
  pub guarded_ends : (sideband : Sideband) → Ends (guarded sideband)
  guarded_ends Usb =
      record {
        low = grid (guarded_usb_low dial low high margin D A.low A.high M);
        high = grid (guarded_usb_high dial low high margin D A.low A.high M);
      }
  guarded_ends Lsb =
      record {
        low = grid (guarded_lsb_low dial low high margin D A.low A.high M);
        high = grid (guarded_lsb_high dial low high margin D A.low A.high M);
      }

  wide :
      Eighths (guarded_width audio margin)
      (plus_eighths high + minus_eighths low + (plus_eighths margin.lower_hz + plus_eighths margin.upper_hz))
      (minus_eighths high + plus_eighths low + (minus_eighths margin.lower_hz + minus_eighths margin.upper_hz))
  unfolding guarded_width
  wide =
      add_eighths (width low high A.low A.high) (add_eighths M.lower.eighths M.upper.eighths (omega arith)) (omega arith)

  -- A positive guarded width: the guarded signal has a positive length.
  pub guarded_lengthy : (sideband : Sideband) → lt zero_hz (guarded_width audio margin) ≡ true → lengthy (guarded sideband) ≡ true
  guarded_lengthy Usb h =
      lt_of (grid (guarded_usb_low dial low high margin D A.low A.high M)) (grid (guarded_usb_high dial low high margin D A.low A.high M))
      (omega (arith, lt_true (grid zero_eighths) (grid wide) h))
  guarded_lengthy Lsb h =
      lt_of (grid (guarded_lsb_low dial low high margin D A.low A.high M)) (grid (guarded_lsb_high dial low high margin D A.low A.high M))
      (omega (arith, lt_true (grid zero_eighths) (grid wide) h))

  module _ (piece : Range) (P : Figures piece) where
    abbrev dials : Sideband → Range
    dials sideband = dial_ends_of piece sideband audio margin

    abbrev from : Float
    from = piece.low_hz

    abbrev to : Float
    to = piece.high_hz

    pub dial_low_holds : (sideband : Sideband) → le (dials sideband).low_hz dial ≡ le from (guarded sideband).low_hz
    dial_low_holds Usb =
        same_le (dial_usb_low from to low high margin P.low P.high A.low A.high M) D.eighths P.low.eighths
        (guarded_usb_low dial low high margin D A.low A.high M) (omega arith) (omega arith)
    dial_low_holds Lsb =
        same_le (dial_lsb_low from to low high margin P.low P.high A.low A.high M) D.eighths P.low.eighths
        (guarded_lsb_low dial low high margin D A.low A.high M) (omega arith) (omega arith)

    pub dial_high_holds : (sideband : Sideband) → le dial (dials sideband).high_hz ≡ le (guarded sideband).high_hz to
    dial_high_holds Usb =
        same_le D.eighths (dial_usb_high from to low high margin P.low P.high A.low A.high M)
        (guarded_usb_high dial low high margin D A.low A.high M) P.high.eighths (omega arith) (omega arith)
    dial_high_holds Lsb =
        same_le D.eighths (dial_lsb_high from to low high margin P.low P.high A.low A.high M)
        (guarded_lsb_high dial low high margin D A.low A.high M) P.high.eighths (omega arith) (omega arith)

-- both ends of a row are sums of three figures
module _ (piece audio : Range) (margin : Margins) (P : Figures piece) (A : Figures audio) (M : MarginFigures margin) where
  pub end_low : (sideband : Sideband) → RowEnd (dial_ends_of piece sideband audio margin).low_hz
  end_low Usb =
      row_end (dial_usb_low piece.low_hz piece.high_hz audio.low_hz audio.high_hz margin P.low P.high A.low A.high M)
      (omega arith) (omega arith)
  end_low Lsb =
      row_end (dial_lsb_low piece.low_hz piece.high_hz audio.low_hz audio.high_hz margin P.low P.high A.low A.high M)
      (omega arith) (omega arith)

  pub end_high : (sideband : Sideband) → RowEnd (dial_ends_of piece sideband audio margin).high_hz
  end_high Usb =
      row_end (dial_usb_high piece.low_hz piece.high_hz audio.low_hz audio.high_hz margin P.low P.high A.low A.high M)
      (omega arith) (omega arith)
  end_high Lsb =
      row_end (dial_lsb_high piece.low_hz piece.high_hz audio.low_hz audio.high_hz margin P.low P.high A.low A.high M)
      (omega arith) (omega arith)
