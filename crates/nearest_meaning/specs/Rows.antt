-- Rows where every hertz figure is at most 2^38 in size: their dials are sums of three such figures, so they are in eighths and below 2^40,
-- and no test refuses them.
use Rattle.std.specs.Prelude.{ℕ, ◌+◌, ◌≤◌, ◌<◌, ◌^◌, Bool, false, not, cond, ◌||◌, ◌≡◌, eqb, Float, Some, None}
use Rattle.std.proofs.Math.Bool.{true}
use Rattle.std.proofs.Common.{true≢false, sym, ◌∙◌, arith, eqb-true}
use mathlib.Core.List.{List, []}
use Rattle.std.proofs.Math.Path.{refl}
use Rattle.std.proofs.lemmas.Bool.{not-true, not-false}
use Rattle.std.specs.Float.Ieee.{of_bits, neg, lt, le, eq}
use Rattle.figures.specs.Figure.{zero_hz, limit40, in_size, figure_of, min_of, max_of}
use Rattle.codes.specs.declared.Sideband.{Sideband}
use Rattle.codes.specs.declared.Sideband.TheVariants.{Usb, Lsb}
use Rattle.profile.specs.Range.{lengthy, common_of, intersect_of}
use Rattle.profile.specs.declared.Range.{Range}
use Rattle.occupancy.specs.Edges.{range_of}
use Rattle.occupancy.specs.declared.Edges.{Edges}
use Rattle.occupancy.specs.declared.Reading.{Reading}
use Rattle.occupancy.specs.declared.Reading.TheVariants.{Power, Spectral, Wider}
use Rattle.air.specs.Air.{dial_ends_of}
use Rattle.air.specs.declared.Margins.{Margins}
use Rattle.scan.specs.First.{some}
use Rattle.scan.specs.Laws.{some_false, and_true}
use Rattle.lists.specs.Each.{each}
use Rattle.lists.specs.Laws.{Every, every_append, every_map}
use Rattle.layout.specs.Layout.{tables, segments, privileges, automatic, power}
use Rattle.table.specs.Table.{Table}
use Rattle.table.specs.Parts.{span_of, segment_of, privilege_of, channels_of}
use Rattle.table.specs.declared.Segment.{Segment}
use Rattle.rows.specs.declared.SafeDial.{SafeDial}
use Rattle.dial_rows.specs.Dials.{dial_rows, piece_rows, on_shared, automatic_rows_at, automatic_rows, cut, cut_rows, may_use, privilege_rows, privilege_rows_at}
use Rattle.dial_rows.specs.Dials.{privileges_rows, too_wide, excluded_band, segment_rows, segment_rows_at, data_rows, band_rows, rows_of}
use Rattle.dial_rows.specs.declared.Request.{Request}
use Rattle.distance.specs.Distance.{is_outside}
use Rattle.eighths.specs.Grid.{Figure, Eighths, in_eighths, plus_eighths, minus_eighths}
use Rattle.eighths.specs.Laws.{eighths_of, in_eighths_holds, zero_eighths, neg_eighths, eq_eighths, plus_bound, minus_bound, figure_of_holds}
use Rattle.exact.specs.Air.{MarginFigures, dial_usb_low, dial_usb_high, dial_lsb_low, dial_lsb_high}
use Rattle.on_grid.specs.Within.{limit38, figure_met, record_met, block_met, unmet_at, unmet_in, figures_met, range_met, edges_met, margins_met}
use Rattle.demand_3.specs.Tests.{all_three}
use Rattle.demand_3.specs.Order.{Grid, grid, figure_grid, le_true, le_of, lt_true, lt_false, by_max, by_min, Figures}
use Rattle.demand_3.specs.Rows.{OnChannels, band_rows_holds, every_below, every_cond}

-- ---- one figure

-- x is in eighths and at most 2 ^ 38 in size
pub record Figure38 (x : Float) : Type 0 where
  pub eighths : Eighths x (plus_eighths x) (minus_eighths x)
  pub plus_le : plus_eighths x ≤ 2 ^ 41
  pub minus_le : minus_eighths x ≤ 2 ^ 41

pub figure : {x : Float} → Figure38 x → Figure x
figure F =
    let a = F.plus_le in
    let b = F.minus_le in
    record { eighths = F.eighths; plus_le = omega arith; minus_le = omega arith }

most38 : Eighths limit38 (2 ^ 41) 0
unfolding of_bits
most38 = record { value = refl }

most40 : Eighths limit40 (2 ^ 43) 0
unfolding of_bits
most40 = record { value = refl }

level : {x : Float} (X : Grid x) → eq x zero_hz ≡ true → X.above ≡ X.below
level {x} X e = let k = eqb-true (X.above + 0) (0 + X.below) (sym (eq_eighths X.eighths zero_eighths) ∙ e) in omega arith

-- A figure that meets the premise.
pub met_figure : (x : Float) → figure_met x ≡ true → Figure38 x
unfolding figure_met
met_figure x m = go (lt x zero_hz) (eq x zero_hz) refl refl (and_true (in_size limit38 x) (in_eighths x) m).0
  where
    on : in_eighths x ≡ true
    on = (and_true (in_size limit38 x) (in_eighths x) m).1

    X : Grid x
    X = grid (eighths_of x on)

    up : X.above ≤ 2 ^ 41 + X.below → X.below ≤ X.above + 2 ^ 41 → Figure38 x
    up a b =
        record {
          eighths = X.eighths;
          plus_le = plus_bound x on most38 (le_of X (grid most38) (omega arith));
          minus_le = minus_bound x on (neg_eighths most38) (le_of (grid (neg_eighths most38)) X (omega arith));
        }

    go : (a b : Bool) → lt x zero_hz ≡ a → eq x zero_hz ≡ b → le (cond a (neg x) (cond b zero_hz x)) limit38 ≡ true → Figure38 x
    go true b p q k =
        let m = le_true (grid (neg_eighths X.eighths)) (grid most38) k in
        let n = lt_true X (grid zero_eighths) p in
        up (omega arith) (omega arith)
    go false true p q k = let e = level X q in up (omega arith) (omega arith)
    go false false p q k =
        let m = le_true X (grid most38) k in
        let n = lt_false X (grid zero_eighths) p in
        up (omega arith) (omega arith)

-- A sum that stays within 2^40 is a figure.
pub figure_within : {x : Float} {p q : ℕ} → Eighths x p q → p ≤ 2 ^ 43 → q ≤ 2 ^ 43 → Figure x
figure_within {x} {p} {q} E h k =
    figure_of_holds x (in_eighths_holds E) (le_of (grid E) (grid most40) (omega arith)) (le_of (grid (neg_eighths most40)) (grid E) (omega arith))

-- The size test passes a figure.
pub figure_in_size : (x : Float) → Figure x → in_size limit40 x ≡ true
figure_in_size x F = go (lt x zero_hz) (eq x zero_hz)
  where
    X : Grid x
    X = figure_grid F

    go : (a b : Bool) → le (cond a (neg x) (cond b zero_hz x)) limit40 ≡ true
    go true b = let a = F.minus_le in le_of (grid (neg_eighths F.eighths)) (grid most40) (omega arith)
    go false true = le_of (grid zero_eighths) (grid most40) (omega arith)
    go false false = let a = F.plus_le in le_of X (grid most40) (omega arith)

-- ---- ranges, margins and tables of such figures

pub record Figures38 (r : Range) : Type 0 where
  pub low : Figure38 r.low_hz
  pub high : Figure38 r.high_hz

pub figures : {r : Range} → Figures38 r → Figures r
figures F = record { low = figure F.low; high = figure F.high }

pub record Margins38 (m : Margins) : Type 0 where
  pub lower : Figure38 m.lower_hz
  pub upper : Figure38 m.upper_hz

pub margin_figures38 : {m : Margins} → Margins38 m → MarginFigures m
margin_figures38 M = record { lower = figure M.lower; upper = figure M.upper }

grid38 : {x : Float} → Figure38 x → Grid x
grid38 F = grid F.eighths

pub range_met_holds : (r : Range) → range_met r ≡ true → Figures38 r
range_met_holds r h =
    let both = and_true (figure_met r.low_hz) (figure_met r.high_hz) h in
    record { low = met_figure r.low_hz both.0; high = met_figure r.high_hz both.1 }

pub margins_met_holds : (m : Margins) → margins_met m ≡ true → Margins38 m
margins_met_holds m h =
    let both = and_true (figure_met m.lower_hz) (figure_met m.upper_hz) h in
    record { lower = met_figure m.lower_hz both.0; upper = met_figure m.upper_hz both.1 }

min38 : (x y : Float) → Figure38 x → Figure38 y → Figure38 (min_of x y)
min38 x y X Y = by_min (grid38 X) (grid38 Y) Figure38 (λ _. Y) (λ _. X)

max38 : (x y : Float) → Figure38 x → Figure38 y → Figure38 (max_of x y)
max38 x y X Y = by_max (grid38 X) (grid38 Y) Figure38 (λ _. Y) (λ _. X)

range38 : (e : Edges) (reading : Reading) → Figures38 e.power → Figures38 e.spectral → Figures38 (range_of e reading)
range38 e Power P S = P
range38 e Spectral P S = S
range38 e Wider P S =
    record {
      low = min38 e.power.low_hz e.spectral.low_hz P.low S.low;
      high = max38 e.power.high_hz e.spectral.high_hz P.high S.high;
    }

pub edges_met_holds : (e : Edges) (reading : Reading) → edges_met e ≡ true → Figures38 (range_of e reading)
unfolding edges_met
edges_met_holds e reading h =
    let both = and_true (range_met e.power) (range_met e.spectral) h in
    range38 e reading (range_met_holds e.power both.0) (range_met_holds e.spectral both.1)

common38 : (a b : Range) → Figures38 a → Figures38 b → Figures38 (common_of a b)
common38 a b A B =
    record {
      low = max38 a.low_hz b.low_hz A.low B.low;
      high = min38 a.high_hz b.high_hz A.high B.high;
    }

-- every record's range is of such figures
pub record Spans38 (table : Table) : Type 0 where
  pub span : (t i : ℕ) → t < tables → i < table.count t → Figures38 (span_of (table.at t i))

pub spans38 : (table : Table) → figures_met table ≡ true → Spans38 table
unfolding figures_met record_met
spans38 table h =
    record {
      span = λ t i ht hi.
          let r = table.at t i in
          let none = not-true (some (unmet_in table) tables) (and_true (block_met table.general) (not (some (unmet_in table) tables)) h).1 in
          let m =
          all_three (figure_met (figure_of r.low)) (figure_met (figure_of r.high)) (eqb t power || figure_met (figure_of r.figure))
          (not-false (record_met t r) (some_false (unmet_at table t) (table.count t) (some_false (unmet_in table) tables none t ht) i hi)) in
          record { low = met_figure (figure_of r.low) m.0; high = met_figure (figure_of r.high) m.1 };
    }

-- ---- the dials of a row

-- both are figures, in their order
pub record RowDials (x : SafeDial) : Type 0 where
  pub low : Figure x.dial_low_hz
  pub high : Figure x.dial_high_hz
  pub ordered : le x.dial_low_hz x.dial_high_hz ≡ true

module _ (piece audio : Range) (margin : Margins) (P : Figures38 piece) (A : Figures38 audio) (M : Margins38 margin) where
  abbrev from : Float
  from = piece.low_hz

  abbrev to : Float
  to = piece.high_hz

  abbrev low : Float
  low = audio.low_hz

  abbrev high : Float
  high = audio.high_hz

  low_figure : (sideband : Sideband) → Figure (dial_ends_of piece sideband audio margin).low_hz
  low_figure Usb =
      let a = P.low in
      let b = A.low in
      let c = M.lower in
      figure_within (dial_usb_low from to low high margin (figure P.low) (figure P.high) (figure A.low) (figure A.high) (margin_figures38 M))
      (omega (arith, a.plus_le, b.minus_le, c.plus_le)) (omega (arith, a.minus_le, b.plus_le, c.minus_le))
  low_figure Lsb =
      let a = P.low in
      let b = A.high in
      let c = M.lower in
      figure_within (dial_lsb_low from to low high margin (figure P.low) (figure P.high) (figure A.low) (figure A.high) (margin_figures38 M))
      (omega (arith, a.plus_le, b.plus_le, c.plus_le)) (omega (arith, a.minus_le, b.minus_le, c.minus_le))

  high_figure : (sideband : Sideband) → Figure (dial_ends_of piece sideband audio margin).high_hz
  high_figure Usb =
      let a = P.high in
      let b = A.high in
      let c = M.upper in
      figure_within (dial_usb_high from to low high margin (figure P.low) (figure P.high) (figure A.low) (figure A.high) (margin_figures38 M))
      (omega (arith, a.plus_le, b.minus_le, c.minus_le)) (omega (arith, a.minus_le, b.plus_le, c.plus_le))
  high_figure Lsb =
      let a = P.high in
      let b = A.low in
      let c = M.upper in
      figure_within (dial_lsb_high from to low high margin (figure P.low) (figure P.high) (figure A.low) (figure A.high) (margin_figures38 M))
      (omega (arith, a.plus_le, b.plus_le, c.minus_le)) (omega (arith, a.minus_le, b.minus_le, c.plus_le))

-- ---- every row of the data segments

module _ (table : Table) (q : Request) (S : Spans38 table) (M : Margins38 q.margin) (A : Figures38 q.audio) where
  piece_dials : (band rule : ℕ) (piece : Range) → Figures38 piece → Every RowDials (piece_rows q band rule piece)
  unfolding piece_rows
  piece_dials band rule piece P = go (le dials.low_hz dials.high_hz) refl
    where
      dials : Range
      dials = dial_ends_of piece q.sideband q.audio q.margin

      go : (b : Bool) → le dials.low_hz dials.high_hz ≡ b → Every RowDials (dial_rows band rule piece (cond b (Some dials) None))
      go true e = (
        record {
          low = low_figure piece q.audio q.margin P A M q.sideband;
          high = high_figure piece q.audio q.margin P A M q.sideband;
          ordered = e;
        },
        tt,
      )
      go false e = tt

  shared_dials :
      (a b : Range) → Figures38 a → Figures38 b → (f : Range → List SafeDial) → ((r : Range) → Figures38 r → Every RowDials (f r))
      → Every RowDials (on_shared (intersect_of a b) f)
  shared_dials a b FA FB f h = go (lengthy (common_of a b))
    where
      go : (t : Bool) → Every RowDials (on_shared (cond t (Some (common_of a b)) None) f)
      go true = h (common_of a b) (common38 a b FA FB)
      go false = tt

  cut_dials : (s : Segment) (piece : Range) → Figures38 piece → Every RowDials (cut_rows table q s piece)
  unfolding cut_rows automatic_rows
  cut_dials s piece P =
      every_cond RowDials (cut q) (each (table.count automatic) (automatic_rows_at table q s.band piece)) (piece_rows q s.band s.rule piece)
      (every_below RowDials (table.count automatic) (automatic_rows_at table q s.band piece)
      (λ a h. shared_dials piece (span_of (table.at automatic a)) P (S.span automatic a (omega arith) h) (piece_rows q s.band q.segments_rule)
      (piece_dials s.band q.segments_rule)))
      (piece_dials s.band s.rule piece P)

  data_dials : Every RowDials (data_rows table q)
  unfolding data_rows segment_rows privileges_rows privilege_rows
  data_dials =
      every_below RowDials (table.count segments) (segment_rows_at table q)
      (λ i h.
      every_cond RowDials (too_wide q (segment_of (table.at segments i)) || excluded_band table q (segment_of (table.at segments i))) []
      (each (table.count privileges) (privilege_rows_at table q (segment_of (table.at segments i)))) tt
      (every_below RowDials (table.count privileges) (privilege_rows_at table q (segment_of (table.at segments i)))
      (λ p k.
      every_cond RowDials (may_use q (privilege_of (table.at privileges p)))
      (on_shared (intersect_of (span_of (table.at segments i)) (span_of (table.at privileges p))) (cut_rows table q (segment_of (table.at segments i)))) []
      (shared_dials (span_of (table.at segments i)) (span_of (table.at privileges p)) (S.span segments i (omega arith) h) (S.span privileges p (omega arith) k)
      (cut_rows table q (segment_of (table.at segments i))) (cut_dials (segment_of (table.at segments i))))
      tt)))

  -- Every row outside the channel band has such dials.
  pub rows_dials : Every (λ x. is_outside table.general.flags table.general.channel_band x.band ≡ true → RowDials x) (rows_of table q)
  unfolding rows_of
  rows_dials =
      let counted : SafeDial → Type 0 = λ x. is_outside table.general.flags table.general.channel_band x.band ≡ true → RowDials x in
      every_append counted (data_rows table q) (band_rows table q (channels_of table.general))
      (every_map RowDials counted (λ x r _. r) (data_rows table q) data_dials)
      (every_map (OnChannels table) counted (λ x e o. absurd (true≢false (sym o ∙ e))) (band_rows table q (channels_of table.general))
      (band_rows_holds table q))
