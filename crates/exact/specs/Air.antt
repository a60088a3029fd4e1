-- Figures in eighths up to 2^40 in size: what each sum of the air and of the dial range is, as a whole number of eighths. `Eighths x p q`
-- says that x is (p − q)/8. Orders among these are those of whole numbers: `le_eighths`, `lt_eighths` (Rattle.eighths).
use Rattle.std.specs.Prelude.{ℕ, ◌+◌, ◌*◌, ◌≤◌, ◌^◌, Float}
use Rattle.std.proofs.Common.{arith}
use Rattle.std.specs.Float.{binary64}
use Rattle.std.specs.Float.Ieee.{sub}
use Rattle.codes.specs.declared.Sideband.TheVariants.{Usb, Lsb}
use Rattle.profile.specs.Range.{range}
use Rattle.air.specs.Air.{rf_range_of, guarded_of, width_of, dial_ends_of}
use Rattle.air.specs.declared.Margins.{Margins}
use Rattle.eighths.specs.Grid.{Figure, Eighths, plus_eighths, minus_eighths}
use Rattle.eighths.specs.Laws.{add_eighths, sub_eighths}

-- a figure's eighths above zero, and below
abbrev pub up : Float → ℕ
up x = plus_eighths x

abbrev pub down : Float → ℕ
down x = minus_eighths x

-- both margins are figures
pub record MarginFigures (margin : Margins) : Type 0 where
  pub lower : Figure margin.lower_hz
  pub upper : Figure margin.upper_hz

-- the range on the air, and the same guarded, on either sideband
module _ (dial low high : Float) (margin : Margins) (D : Figure dial) (L : Figure low) (H : Figure high) (M : MarginFigures margin) where
  pub usb_low : Eighths (rf_range_of dial Usb (range low high)).low_hz (up dial + up low) (down dial + down low)
  usb_low = add_eighths D.eighths L.eighths (omega arith)

  pub usb_high : Eighths (rf_range_of dial Usb (range low high)).high_hz (up dial + up high) (down dial + down high)
  usb_high = add_eighths D.eighths H.eighths (omega arith)

  pub lsb_low : Eighths (rf_range_of dial Lsb (range low high)).low_hz (up dial + down high) (down dial + up high)
  lsb_low = sub_eighths D.eighths H.eighths (omega arith)

  pub lsb_high : Eighths (rf_range_of dial Lsb (range low high)).high_hz (up dial + down low) (down dial + up low)
  lsb_high = sub_eighths D.eighths L.eighths (omega arith)

  pub guarded_usb_low :
      Eighths (guarded_of margin (rf_range_of dial Usb (range low high))).low_hz
      (up dial + up low + down margin.lower_hz)
      (down dial + down low + up margin.lower_hz)
  guarded_usb_low = sub_eighths usb_low M.lower.eighths (omega arith)

  pub guarded_usb_high :
      Eighths (guarded_of margin (rf_range_of dial Usb (range low high))).high_hz
      (up dial + up high + up margin.upper_hz)
      (down dial + down high + down margin.upper_hz)
  guarded_usb_high = add_eighths usb_high M.upper.eighths (omega arith)

  pub guarded_lsb_low :
      Eighths (guarded_of margin (rf_range_of dial Lsb (range low high))).low_hz
      (up dial + down high + down margin.lower_hz)
      (down dial + up high + up margin.lower_hz)
  guarded_lsb_low = sub_eighths lsb_low M.lower.eighths (omega arith)

  pub guarded_lsb_high :
      Eighths (guarded_of margin (rf_range_of dial Lsb (range low high))).high_hz
      (up dial + down low + up margin.upper_hz)
      (down dial + up low + down margin.upper_hz)
  guarded_lsb_high = add_eighths lsb_high M.upper.eighths (omega arith)

-- the width
pub width : (low high : Float) → Figure low → Figure high → Eighths (width_of (range low high)) (up high + down low) (down high + up low)
width low high L H = sub_eighths H.eighths L.eighths (omega arith)

-- the ends of a dial range, for a piece from one figure to another
module _ (from to low high : Float) (margin : Margins) (P : Figure from) (Q : Figure to) (L : Figure low) (H : Figure high) (M : MarginFigures margin) where
  pub dial_usb_low :
      Eighths (dial_ends_of (range from to) Usb (range low high) margin).low_hz
      (up from + down low + up margin.lower_hz)
      (down from + up low + down margin.lower_hz)
  dial_usb_low = add_eighths (sub_eighths P.eighths L.eighths (omega arith)) M.lower.eighths (omega arith)

  pub dial_usb_high :
      Eighths (dial_ends_of (range from to) Usb (range low high) margin).high_hz
      (up to + down high + down margin.upper_hz)
      (down to + up high + up margin.upper_hz)
  dial_usb_high = sub_eighths (sub_eighths Q.eighths H.eighths (omega arith)) M.upper.eighths (omega arith)

  pub dial_lsb_low :
      Eighths (dial_ends_of (range from to) Lsb (range low high) margin).low_hz
      (up from + up high + up margin.lower_hz)
      (down from + down high + down margin.lower_hz)
  dial_lsb_low = add_eighths (add_eighths P.eighths H.eighths (omega arith)) M.lower.eighths (omega arith)

  pub dial_lsb_high :
      Eighths (dial_ends_of (range from to) Lsb (range low high) margin).high_hz
      (up to + up low + down margin.upper_hz)
      (down to + down low + up margin.upper_hz)
  dial_lsb_high = sub_eighths (add_eighths Q.eighths L.eighths (omega arith)) M.upper.eighths (omega arith)

-- a distance, from a dial to an end of a row: the row's end is a sum of three figures
pub distance :
    (dial end : Float) (p q : ℕ) → Figure dial → Eighths end p q → p ≤ 3 * 2 ^ 43 → q ≤ 3 * 2 ^ 43
    → Eighths (sub binary64 end dial) (p + down dial) (q + up dial)
distance dial end p q D E a b = sub_eighths E D.eighths (omega arith)

pub distance_above :
    (dial end : Float) (p q : ℕ) → Figure dial → Eighths end p q → p ≤ 3 * 2 ^ 43 → q ≤ 3 * 2 ^ 43
    → Eighths (sub binary64 dial end) (up dial + q) (down dial + p)
distance_above dial end p q D E a b = sub_eighths D.eighths E (omega arith)
