-- From the premises to the grid: every figure that list and verdict add or compare is in eighths and at most 2^40 in size. Of the table
-- the checks of what it holds see to the size, of station and signal the calls' refusals.
use Rattle.std.specs.Prelude.{ℕ, ◌+◌, ◌≤◌, ◌^◌, Bool, not, ◌||◌, List, refl, eqb, Float, Some, None, Ok, Err}
use Rattle.codes.specs.Refusal.{Checked, refusal_of}
use Rattle.std.proofs.Math.Bool.{true, false, cond}
use Rattle.std.proofs.lemmas.Bool.{false≢true}
use Rattle.std.proofs.Math.Path.{◌≡◌, subst}
use Rattle.std.proofs.Common.{sym, ap, ◌∙◌, arith}
use borrow.Author.Tests.{eqb-true, not-true, not-false}
use Rattle.std.specs.Float.Ieee.{of_bits, neg, lt, le, eq}
use Rattle.figures.specs.Figure.{zero_hz, limit40, negative_zero_bits, in_size, read_hz, figure_of, min_of, max_of}
use Rattle.codes.specs.Code.{bit_of, policy_code}
use Rattle.codes.specs.Laws.{none_fails, refusal_both}
use Rattle.codes.specs.declared.Policy.TheVariants.{Unset, NoProfile, Rules, Broken}
use Rattle.profile.specs.declared.Range.{Range}
use Rattle.occupancy.specs.Edges.{range_of}
use Rattle.occupancy.specs.declared.Edges.{Edges}
use Rattle.occupancy.specs.declared.Reading.{Reading}
use Rattle.occupancy.specs.declared.Reading.TheVariants.{Power, Spectral, Wider}
use Rattle.air.specs.Air.{width_of}
use Rattle.scan.specs.First.{some}
use Rattle.scan.specs.Laws.{some_false, and_true}
use Rattle.station.specs.Station.{under_rules, margins_valid, figure_valid, figures_valid, margins_read, figure_read, station_tests, situation_of}
use Rattle.station.specs.declared.StationRecord.{StationRecord}
use Rattle.layout.specs.Form.{form_tests}
use Rattle.layout.specs.Laws.{or_false_both}
use Rattle.layout.specs.Layout.{tables, power}
use Rattle.table.specs.Parts.{elsewhere_of}
use Rattle.table.specs.Table.{Table, table_of}
use Rattle.table.specs.declared.Elsewhere.{Elsewhere}
use Rattle.find.specs.Question.{asks, sound_bits, sound_record}
use Rattle.find.specs.declared.Question.TheVariants.{Unsound}
use Rattle.image.specs.Check.{content_tests, check_of, sound_block, unsound_in, unsound}
use Rattle.entry.specs.Entry.{image_tests, entry_tests, pair_valid, edges_valid, pair_read, edges_read}
use Rattle.tidy.specs.Tidy.{tidy_table, tidiness_of, tidy_of}
use Rattle.eighths.specs.Grid.{Figure, Eighths, in_eighths}
use Rattle.eighths.specs.Laws.{eighths_of, zero_eighths, neg_eighths, eq_eighths, figure_of_holds}
use Rattle.exact.specs.Air.{MarginFigures, width}
use Rattle.demand_3.specs.Words.{record_in_eighths, block_in_eighths, off_grid_at, off_grid_in, table_in_eighths, range_in_eighths}
use Rattle.demand_3.specs.Words.{edges_in_eighths, dial_in_eighths, margins_in_eighths, station_in_eighths, accepted, rules_in_force, unrefused, table_met}
use Rattle.demand_3.specs.Tests.{all_three, and_both}
use Rattle.demand_3.specs.Order.{Grid, grid, le_true, le_of, lt_true, lt_false, le_by_lt, by_max, by_min, figure_grid, Figures}
use Rattle.demand_3.specs.Listed.{Spans}
use Rattle.demand_3.specs.Judged.{Comparable}
use Rattle.demand_3.specs.Same.{Tidied, tidied}

-- ---- one figure

most : Eighths limit40 (2 ^ 43) 0
unfolding of_bits
most = record { value = refl }

-- A figure in eighths that the size test passes.
pub figure_size : (x : Float) → in_eighths x ≡ true → in_size limit40 x ≡ true → Figure x
figure_size x on h = go (lt x zero_hz) (eq x zero_hz) refl refl h
  where
    X : Grid x
    X = grid (eighths_of x on)

    up : X.above ≤ 2 ^ 43 + X.below → X.below ≤ X.above + 2 ^ 43 → Figure x
    up a b = figure_of_holds x on (le_of X (grid most) (omega arith)) (le_of (grid (neg_eighths most)) X (omega arith))

    level : eq x zero_hz ≡ true → X.above ≡ X.below
    level e = let k = eqb-true (X.above + 0) (0 + X.below) (sym (eq_eighths X.eighths zero_eighths) ∙ e) in omega arith

    go : (a b : Bool) → lt x zero_hz ≡ a → eq x zero_hz ≡ b → le (cond a (neg x) (cond b zero_hz x)) limit40 ≡ true → Figure x
    go true b p q k =
        let m = le_true (grid (neg_eighths X.eighths)) (grid most) k in
        let n = lt_true X (grid zero_eighths) p in
        up (omega arith) (omega arith)
    go false true p q k = let e = level q in up (omega arith) (omega arith)
    go false false p q k =
        let m = le_true X (grid most) k in
        let n = lt_false X (grid zero_eighths) p in
        up (omega arith) (omega arith)

zero_size : in_size limit40 zero_hz ≡ true
unfolding lt le eq of_bits
zero_size = refl

-- The same as it is read.
pub figure_read_holds : (x : Float) → in_eighths (read_hz x) ≡ true → in_size limit40 x ≡ true → Figure (read_hz x)
figure_read_holds x on h = go (eq x zero_hz) on
  where
    go : (b : Bool) → in_eighths (cond b zero_hz x) ≡ true → Figure (cond b zero_hz x)
    go true on = figure_size zero_hz on zero_size
    go false on = figure_size x on h

bits_figure : (b : ℕ) → sound_bits b ≡ true → in_eighths (figure_of b) ≡ true → Figure (figure_of b)
unfolding sound_bits
bits_figure b s on = figure_size (figure_of b) on (and_true (in_size limit40 (figure_of b)) (not (eqb b negative_zero_bits)) s).0

-- ---- the table

pub accepted_of : (c : Checked) → accepted c ≡ true → c ≡ Ok tt
accepted_of (Ok tt) e = refl
accepted_of (Err n) e = absurd (false≢true e)

comparable_if :
    (w : Float) (b : Bool) (e : Elsewhere) → le w e.max_bandwidth_hz ≡ not (lt e.max_bandwidth_hz w)
    → Comparable (cond b (Some e) None) w
comparable_if w true e k = k
comparable_if w false e k = tt

module _ (table : Table) (T : table_met table ≡ true) where
  parts : (unrefused table ≡ true) × (tidy_table table ≡ true) × (table_in_eighths table ≡ true)
  unfolding table_met
  parts = all_three (unrefused table) (tidy_table table) (table_in_eighths table) T

  pub tidied_of : Tidied table
  tidied_of = tidied table parts.1

  -- refusal 6 met nothing
  sound : (sound_block table.general ≡ true) × (some (unsound_in table) tables ≡ false)
  unfolding unsound
  sound =
      let none = (none_fails (content_tests table) (accepted_of (refusal_of (content_tests table)) parts.0)).1.0 in
      let both = or_false_both (not (sound_block table.general)) (some (unsound_in table) tables) none in
      (not-false (sound_block table.general) both.0, both.1)

  on_grid : (block_in_eighths table.general ≡ true) × (some (off_grid_in table) tables ≡ false)
  unfolding table_in_eighths
  on_grid =
      let block = block_in_eighths table.general in
      let off = some (off_grid_in table) tables in
      ((and_true block (not off) parts.2).0, not-true off (and_true block (not off) parts.2).1)

  pub spans : Spans table
  unfolding asks sound_record record_in_eighths
  spans =
      record {
        span = λ t i ht hi.
            let r = table.at t i in
            let s =
            all_three (sound_bits r.low) (sound_bits r.high) (sound_bits r.figure)
            (not-false (sound_record r)
            (some_false (λ k. asks Unsound (table.at t k)) (table.count t) (some_false (unsound_in table) tables sound.1 t ht) i hi)) in
            let o =
            all_three (in_eighths (figure_of r.low)) (in_eighths (figure_of r.high)) (eqb t power || in_eighths (figure_of r.figure))
            (not-false (record_in_eighths t r)
            (some_false (off_grid_at table t) (table.count t) (some_false (off_grid_in table) tables on_grid.1 t ht) i hi)) in
            record { low = bits_figure r.low s.0 o.0; high = bits_figure r.high s.1 o.1 };
      }

  -- the limit of 97.221(c)
  elsewhere_figure : Figure (figure_of table.general.elsewhere_limit)
  unfolding sound_block block_in_eighths
  elsewhere_figure =
      let g = table.general in
      let s = all_three (sound_bits g.data_limit) (sound_bits g.elsewhere_limit) _ sound.0 in
      let o = all_three (in_eighths (figure_of g.data_limit)) (in_eighths (figure_of g.elsewhere_limit)) _ on_grid.0 in
      bits_figure g.elsewhere_limit s.1 o.1

  -- It compares with the width of figures both ways.
  pub comparable : (audio : Range) → Figures audio → Comparable (elsewhere_of table.general) (width_of audio)
  comparable audio A =
      comparable_if (width_of audio) (bit_of table.general.flags 0) _
      (le_by_lt
      (grid (width audio.low_hz audio.high_hz A.low A.high)) (figure_grid elsewhere_figure))

-- A table that the tidy call finds tidy.
tidy_of_holds : (c : Checked) (b : Bool) → tidiness_of c b ≡ Ok true → (c ≡ Ok tt) × (b ≡ true)
tidy_of_holds (Ok tt) true e = (refl, refl)
tidy_of_holds (Ok tt) false e = absurd (let z : ◌≡◌ {A = ℕ} 0 1 = cc in omega arith)
tidy_of_holds (Err n) b e = absurd (let z : ◌≡◌ {A = ℕ} 0 1 = cc in omega arith)

pub tidy_met : (l : List ℕ) → tidy_of l ≡ Ok true → table_in_eighths (table_of l) ≡ true → table_met (table_of l) ≡ true
unfolding table_met check_of
tidy_met l t on =
    let both = tidy_of_holds (check_of l) (tidy_table (table_of l)) t in
    and_both _ _ (ap accepted (refusal_both (form_tests l) (content_tests (table_of l)) both.0).1) (and_both _ _ both.1 on)

-- ---- the station

pub under_rules_holds : (r : StationRecord) → rules_in_force (situation_of r) ≡ true → under_rules r ≡ true
unfolding situation_of
under_rules_holds r e = go (eqb r.policy 0) (eqb r.policy 1) (eqb r.policy 2) e
  where
    go : (a b c : Bool) → eqb (policy_code (cond a Unset (cond b NoProfile (cond c Rules Broken)))) (policy_code Rules) ≡ true → c ≡ true
    go true b c e = absurd (false≢true e)
    go false true c e = absurd (false≢true e)
    go false false true e = refl
    go false false false e = absurd (false≢true e)

-- a station record that a call does not refuse
module _ (r : StationRecord) (beside : Bool) (l : List ℕ) (ok : refusal_of (entry_tests r beside l) ≡ Ok tt) where
  pub figures_valid_holds :
      (margins_valid r.margin ≡ true) × (figure_valid r.dial_known r.dial_hz ≡ true)
      × (figure_valid r.power_known r.power_w ≡ true)
  unfolding figures_valid
  figures_valid_holds =
      all_three (margins_valid r.margin) (figure_valid r.dial_known r.dial_hz) (figure_valid r.power_known r.power_w)
      (not-false (figures_valid r)
      (none_fails (station_tests r beside l) (refusal_both (station_tests r beside l) (image_tests r l) ok).0).1.0)

  module _ (on : station_in_eighths (situation_of r) ≡ true) where
    grids : (margins_in_eighths (margins_read r.margin) ≡ true) × (dial_in_eighths (figure_read r.dial_known r.dial_hz) ≡ true)
    unfolding station_in_eighths situation_of
    grids = and_true (margins_in_eighths (margins_read r.margin)) (dial_in_eighths (figure_read r.dial_known r.dial_hz)) on

    pub margin_figures : MarginFigures (situation_of r).margin
    unfolding situation_of
    margin_figures =
        let lower = r.margin.lower_hz in
        let upper = r.margin.upper_hz in
        let on = and_true (in_eighths (read_hz lower)) (in_eighths (read_hz upper)) grids.0 in
        let size = and_true (in_size limit40 lower) (in_size limit40 upper) figures_valid_holds.0 in
        record { lower = figure_read_holds lower on.0 size.0; upper = figure_read_holds upper on.1 size.1 }

    pub dial_figure : (x : Float) → (situation_of r).dial ≡ Some x → Figure x
    unfolding situation_of
    dial_figure x e = go (eqb r.dial_known 0) figures_valid_holds.1 grids.1 e
      where
        go :
            (b : Bool) → (b || in_size limit40 r.dial_hz) ≡ true → dial_in_eighths (cond b None (Some (read_hz r.dial_hz))) ≡ true
            → cond b None (Some (read_hz r.dial_hz)) ≡ Some x → Figure x
        go true v on e = absurd (let z : ◌≡◌ {A = ℕ} 0 1 = cc in omega arith)
        go false v on e = let same : read_hz r.dial_hz ≡ x = cc in subst Figure same (figure_read_holds r.dial_hz on v)

-- ---- the edges

hull : (x y : Float) → Figure x → Figure y → (Figure (min_of x y)) × (Figure (max_of x y))
hull x y X Y =
    (by_min (figure_grid X) (figure_grid Y) Figure (λ _. Y) (λ _. X), by_max (figure_grid X) (figure_grid Y) Figure (λ _. Y) (λ _. X))

-- a range of edges that are figures, whichever the reading takes
pub range_figures : (e : Edges) (reading : Reading) → Figures e.power → Figures e.spectral → Figures (range_of e reading)
range_figures e Power P S = P
range_figures e Spectral P S = S
range_figures e Wider P S =
    record {
      low = (hull e.power.low_hz e.spectral.low_hz P.low S.low).0;
      high = (hull e.power.high_hz e.spectral.high_hz P.high S.high).1;
    }

pair_figures : (p : Range) → pair_valid p ≡ true → range_in_eighths (pair_read p) ≡ true → Figures (pair_read p)
pair_figures p v on =
    let size = and_true (in_size limit40 p.low_hz) (in_size limit40 p.high_hz) v in
    let grids = and_true (in_eighths (read_hz p.low_hz)) (in_eighths (read_hz p.high_hz)) on in
    record { low = figure_read_holds p.low_hz grids.0 size.0; high = figure_read_holds p.high_hz grids.1 size.1 }

-- the edges as they are read
pub audio_figures : (e : Edges) (reading : Reading) → edges_valid e ≡ true → edges_in_eighths (edges_read e) ≡ true → Figures (range_of (edges_read e) reading)
unfolding edges_valid edges_read edges_in_eighths
audio_figures e reading v on =
    let size = and_true (pair_valid e.power) (pair_valid e.spectral) v in
    let grids = and_true (range_in_eighths (pair_read e.power)) (range_in_eighths (pair_read e.spectral)) on in
    range_figures (edges_read e) reading (pair_figures e.power size.0 grids.0) (pair_figures e.spectral size.1 grids.1)
