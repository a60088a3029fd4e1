-- The whole list: no channel row counts, so a dial lies in a row that counts exactly if it lies in a data row; and both dials of every
-- row that counts are on the grid.
use Rattle.std.specs.Prelude.{ℕ, zero, suc, ◌<◌, Bool, true, false, cond, ◌&&◌, ◌||◌, ◌≡◌, refl, Float, Some, None}
use Rattle.std.proofs.Common.{true≢false, sym, ap, ◌∙◌, arith}
use Rattle.std.proofs.Math.Bool.{or-false}
use mathlib.Core.List.{List, [], ◌∷◌}
use Rattle.std.specs.Float.Ieee.{le}
use Rattle.profile.specs.Range.{lengthy, common_of, intersect_of}
use Rattle.profile.specs.declared.Range.{Range}
use Rattle.air.specs.Air.{dial_ends_of}
use Rattle.layout.specs.Layout.{segments, channels, privileges, automatic}
use Rattle.table.specs.Table.{Table}
use Rattle.table.specs.Parts.{span_of, segment_of, privilege_of, channels_of, centre_of}
use Rattle.table.specs.declared.Segment.{Segment}
use Rattle.table.specs.declared.Channels.{Channels}
use Rattle.lists.specs.Each.{each}
use Rattle.lists.specs.Laws.{Every, every_append, every_map}
use Rattle.rows.specs.Order.{any_row, any_append}
use Rattle.rows.specs.declared.SafeDial.{SafeDial}
use Rattle.dial_rows.specs.Dials.{dial_rows, piece_rows, on_shared, automatic_rows_at, automatic_rows, cut, cut_rows, may_use, privilege_rows, privilege_rows_at}
use Rattle.dial_rows.specs.Dials.{privileges_rows, too_wide, excluded_band, segment_rows, segment_rows_at, data_rows, channel_safe, channel_holds}
use Rattle.dial_rows.specs.Dials.{channel_row, channel_rows_at, channel_rows, channels_open, channel_found, open_rows, band_rows, rows_of}
use Rattle.dial_rows.specs.declared.Request.{Request}
use Rattle.distance.specs.Distance.{is_outside}
use Rattle.exact.specs.Air.{MarginFigures}
use Rattle.demand_3.specs.Order.{Figures, common_figures}
use Rattle.demand_3.specs.Dial.{RowEnd, end_low, end_high}
use Rattle.demand_3.specs.Listed.{lies, Spans}
use Rattle.demand_3.specs.Judged.{by_channels}

-- What fails of every row fails of the list.
pub any_none : (test : SafeDial → Bool) (xs : List SafeDial) → Every (λ x. test x ≡ false) xs → any_row test xs ≡ false
any_none test [] h = refl
any_none test (x ∷ xs) h = rw h.0 (any_none test xs h.1)

-- what holds for the rows of every index below n
pub every_below : (P : SafeDial → Type 0) (n : ℕ) (f : ℕ → List SafeDial) → ((i : ℕ) → i < n → Every P (f i)) → Every P (each n f)
unfolding each
every_below P zero f h = tt
every_below P (suc n) f h = every_append P (each n f) (f n) (every_below P n f (λ i k. h i (omega arith))) (h n (omega arith))

pub every_cond : (P : SafeDial → Type 0) (b : Bool) (xs ys : List SafeDial) → Every P xs → Every P ys → Every P (cond b xs ys)
every_cond P true xs ys p q = p
every_cond P false xs ys p q = q

-- ---- channel rows

-- a row of the channel band
abbrev pub OnChannels : Table → SafeDial → Type 0
OnChannels table x = is_outside table.general.flags table.general.channel_band x.band ≡ false

channel_rows_holds :
    (P : SafeDial → Type 0) (table : Table) (q : Request) (c : Channels) → ((centre : Float) → P (channel_safe c centre))
    → Every P (open_rows table q c)
unfolding open_rows channel_rows channel_row
channel_rows_holds P table q c h =
    every_cond P (channels_open q && channel_found table q) (each (table.count channels) (channel_rows_at table q c)) []
    (every_below P (table.count channels) (channel_rows_at table q c)
    (λ i _.
    let centre = centre_of (table.at channels i) in
    every_cond P (channel_holds q c centre) (channel_safe c centre ∷ []) [] (h centre, tt) tt))
    tt

pub band_rows_holds : (table : Table) (q : Request) → Every (OnChannels table) (band_rows table q (channels_of table.general))
band_rows_holds table q =
    by_channels table.general (λ x. Every (OnChannels table) (band_rows table q x)) (λ c own. channel_rows_holds (OnChannels table) table q c (λ _. own)) tt

-- A dial lies in a row that counts exactly if it lies in a data row that counts.
pub rows_listed :
    (table : Table) (q : Request) (dial : Float)
    → any_row (lies table.general.flags table.general.channel_band dial) (rows_of table q)
    ≡ any_row (lies table.general.flags table.general.channel_band dial) (data_rows table q)
unfolding rows_of
rows_listed table q dial =
    let test = lies table.general.flags table.general.channel_band dial in
    let channels = band_rows table q (channels_of table.general) in
    any_append test (data_rows table q) channels
    ∙ ap (λ (b : Bool). any_row test (data_rows table q) || b)
    (any_none test channels (every_map (OnChannels table) (λ x. test x ≡ false) (λ x e. rw e) channels (band_rows_holds table q)))
    ∙ or-false (any_row test (data_rows table q))

-- ---- both dials of a row, as sums of figures

pub record RowEnds (x : SafeDial) : Type 0 where
  pub low : RowEnd x.dial_low_hz
  pub high : RowEnd x.dial_high_hz

-- of a row outside the channel band
abbrev pub OutsideEnds : ℕ → ℕ → SafeDial → Type 0
OutsideEnds flags channel x = is_outside flags channel x.band ≡ true → RowEnds x

module _ (table : Table) (q : Request) (S : Spans table) (M : MarginFigures q.margin) (A : Figures q.audio) where
  piece_ends : (band rule : ℕ) (piece : Range) → Figures piece → Every RowEnds (piece_rows q band rule piece)
  unfolding piece_rows
  piece_ends band rule piece P = go (le dials.low_hz dials.high_hz)
    where
      dials : Range
      dials = dial_ends_of piece q.sideband q.audio q.margin

      go : (b : Bool) → Every RowEnds (dial_rows band rule piece (cond b (Some dials) None))
      go true = (
        record {
          low = end_low piece q.audio q.margin P A M q.sideband;
          high = end_high piece q.audio q.margin P A M q.sideband;
        },
        tt,
      )
      go false = tt

  shared_ends :
      (a b : Range) → Figures a → Figures b → (f : Range → List SafeDial) → ((r : Range) → Figures r → Every RowEnds (f r))
      → Every RowEnds (on_shared (intersect_of a b) f)
  shared_ends a b FA FB f h = go (lengthy (common_of a b))
    where
      go : (t : Bool) → Every RowEnds (on_shared (cond t (Some (common_of a b)) None) f)
      go true = h (common_of a b) (common_figures a b FA FB)
      go false = tt

  cut_ends : (s : Segment) (piece : Range) → Figures piece → Every RowEnds (cut_rows table q s piece)
  unfolding cut_rows automatic_rows
  cut_ends s piece P =
      every_cond RowEnds (cut q) (each (table.count automatic) (automatic_rows_at table q s.band piece)) (piece_rows q s.band s.rule piece)
      (every_below RowEnds (table.count automatic) (automatic_rows_at table q s.band piece)
      (λ a h. shared_ends piece (span_of (table.at automatic a)) P (S.span automatic a (omega arith) h) (piece_rows q s.band q.segments_rule)
      (piece_ends s.band q.segments_rule)))
      (piece_ends s.band s.rule piece P)

  pub data_ends : Every RowEnds (data_rows table q)
  unfolding data_rows segment_rows privileges_rows privilege_rows
  data_ends =
      every_below RowEnds (table.count segments) (segment_rows_at table q)
      (λ i h.
      every_cond RowEnds (too_wide q (segment_of (table.at segments i)) || excluded_band table q (segment_of (table.at segments i))) []
      (each (table.count privileges) (privilege_rows_at table q (segment_of (table.at segments i)))) tt
      (every_below RowEnds (table.count privileges) (privilege_rows_at table q (segment_of (table.at segments i)))
      (λ p k.
      every_cond RowEnds (may_use q (privilege_of (table.at privileges p)))
      (on_shared (intersect_of (span_of (table.at segments i)) (span_of (table.at privileges p))) (cut_rows table q (segment_of (table.at segments i)))) []
      (shared_ends (span_of (table.at segments i)) (span_of (table.at privileges p)) (S.span segments i (omega arith) h) (S.span privileges p (omega arith) k)
      (cut_rows table q (segment_of (table.at segments i))) (cut_ends (segment_of (table.at segments i))))
      tt)))

  -- Every row that counts has both.
  pub rows_ends : Every (OutsideEnds table.general.flags table.general.channel_band) (rows_of table q)
  unfolding rows_of
  rows_ends =
      let counted = OutsideEnds table.general.flags table.general.channel_band in
      every_append counted (data_rows table q) (band_rows table q (channels_of table.general))
      (every_map RowEnds counted (λ x r _. r) (data_rows table q) data_ends)
      (every_map (OnChannels table) counted (λ x e o. absurd (true≢false (sym o ∙ e))) (band_rows table q (channels_of table.general))
      (band_rows_holds table q))
