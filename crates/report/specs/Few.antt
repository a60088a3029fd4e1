-- How many rows a report has at most. Each gap of a piece but the lowest begins where a record ends inside the piece, so there is at most
-- one more than there are records.
use Prim.Native.Nat.{ℕ, zero, suc, ◌+◌, ◌*◌, ◌-◌, ◌<◌, ◌≤◌}
use Rattle.std.specs.Prelude.{Option, Some, None, Bool, false, cond, ◌&&◌, List, [], ◌∷◌, ◌++◌, ◌≡◌, Float}
use Rattle.std.proofs.Math.Bool.{true}
use Rattle.std.proofs.Common.{sym, ap, ◌∙◌, length-append}
use Rattle.std.proofs.Math.Path.{refl}
use native.Mathlib.Omega.{arith}
use Rattle.std.proofs.Math.ListN.{length}
use Rattle.std.proofs.lemmas.List.{length-map}
use Rattle.std.specs.Float.Ieee.{lt, ne}
use Rattle.figures.specs.Figure.{min_of}
use Rattle.order.specs.Total.{lt_number, lt_trans, lt_not, not_lt, lt_both}
use Rattle.order.specs.Greater.{max_second, min_second}
use Rattle.profile.specs.Range.{lengthy, common_of}
use Rattle.profile.specs.declared.Range.{Range}
use Rattle.lists.specs.Each.{each}
use Rattle.lists.specs.From.{stretch}
use Rattle.lists.specs.Laws.{each_few}
use Rattle.scan.specs.Laws.{and_true}
use Rattle.layout.specs.Form.{Whole}
use Rattle.layout.specs.Layout.{tables, bands, segments, privileges}
use Rattle.layout.specs.declared.Record.{Record}
use Rattle.table.specs.Parts.{span_of}
use Rattle.table.specs.Table.{Table, table_of}
use Rattle.table.specs.Laws.{count_in_holds}
use Rattle.sweep.specs.Sweep.{is_member, shared_with, on_shared, gives}
use Rattle.report.specs.Gaps.{below, above, of_part, left_from}
use Rattle.report.specs.Report.{pair_members, overlap_row, pair_rows, pair_rows_at, overlap_rows, gap_row, gaps_in, gaps_at, gap_rows, report_rows}

-- ---- what a record shares with a piece of positive length

-- the lesser of two is one of them
min_is : (a b : Float) (P : Float → Type 0) → P a → P b → P (min_of a b)
min_is a b P f g = go (ne a a) (lt b a)
  where
    go : (s t : Bool) → P (cond s b (cond t b a))
    go true t = g
    go false true = g
    go false false = f

-- x is the stretch that the range s shares with the piece p
module _ (s p x : Range) (long : lengthy p ≡ true) (is : x ≡ common_of s p) (shared : lengthy x ≡ true) where
  pub begins_inside : lt x.low_hz p.high_hz ≡ true
  begins_inside =
      let n = lt_number p.low_hz p.high_hz long in
      let m : lt p.high_hz x.high_hz ≡ false = ap (λ (y : Range). lt p.high_hz y.high_hz) is ∙ (min_second s.high_hz
      p.high_hz n.1).1 in
      lt_not x.low_hz x.high_hz p.high_hz n.1 shared m

  pub ends_inside : lt p.low_hz x.high_hz ≡ true
  ends_inside =
      let n = lt_number p.low_hz p.high_hz long in
      let m : lt x.low_hz p.low_hz ≡ false = ap (λ (y : Range). lt y.low_hz p.low_hz) is ∙ (max_second s.low_hz
      p.low_hz n.0).1 in
      not_lt p.low_hz x.low_hz x.high_hz n.0 m shared

  -- where it ends below the piece's end, it ends where the range does
  ends_there : lt x.high_hz p.high_hz ≡ true → x.high_hz ≡ s.high_hz
  ends_there h =
      let e : x.high_hz ≡ min_of s.high_hz p.high_hz = ap (λ (y : Range). y.high_hz) is in
      e ∙ min_is s.high_hz p.high_hz (λ (y : Float). lt y p.high_hz ≡ true → y ≡ s.high_hz) (λ _. refl)
      (λ k. absurd (lt_both p.high_hz p.high_hz k k)) (ap (λ (y : Float). lt y p.high_hz) (sym e) ∙ h)

-- ---- records that end inside a piece

abbrev within : Range → Float → Bool
within p y = lt p.low_hz y && lt y p.high_hz

abbrev unit : Bool → ℕ
unit b = cond b 1 0

-- of the n records from i on, those that end inside a piece
unfoldable ending : (ℕ → Record) → ℕ → ℕ → Range → ℕ
ending at zero i p = 0
ending at (suc n) i p = unit (within p (span_of (at i)).high_hz) + ending at n (suc i) p

unit_few : (b : Bool) → unit b ≤ 1
unit_few true = omega arith
unit_few false = omega arith

ending_few : (at : ℕ → Record) (n i : ℕ) (p : Range) → ending at n i p ≤ n
unfolding ending
ending_few at zero i p = omega arith
ending_few at (suc n) i p = omega (arith, unit_few (within p (span_of (at i)).high_hz), ending_few at n (suc i) p)

and_of : {a b : Bool} → a ≡ true → b ≡ true → (a && b) ≡ true
and_of e f = rw e f

-- at most one of two tests passes, and then a third
one_of : (a b c : Bool) → (a ≡ true → b ≡ true → ⊥) → (a ≡ true → c ≡ true) → (b ≡ true → c ≡ true) → unit a + unit b ≤ unit c
one_of true true c f g h = absurd (f refl refl)
one_of true false c f g h = rw (g refl) (omega arith)
one_of false true c f g h = rw (h refl) (omega arith)
one_of false false c f g h = omega arith

-- a stretch inside a piece, and the parts beside it
module _ (p x : Range) (shared : lengthy x ≡ true) (low : lt x.low_hz p.high_hz ≡ true) (high : lt p.low_hz x.high_hz ≡ true) where
  beside_one : (y : Float) → unit (within (below p x) y) + unit (within (above p x) y) ≤ unit (within p y)
  beside_one y =
      one_of (within (below p x) y) (within (above p x) y) (within p y)
      (λ a b. lt_both y x.low_hz (and_true (lt p.low_hz y) (lt y x.low_hz) a).1
      (lt_trans x.low_hz x.high_hz y shared (and_true (lt x.high_hz y) (lt y p.high_hz) b).0))
      (λ a.
      let e = and_true (lt p.low_hz y) (lt y x.low_hz) a in
      and_of e.0 (lt_trans y x.low_hz p.high_hz e.1 low))
      (λ b.
      let e = and_true (lt x.high_hz y) (lt y p.high_hz) b in
      and_of (lt_trans p.low_hz x.high_hz y high e.0) e.1)

  beside_ending : (at : ℕ → Record) (n i : ℕ) → ending at n i (below p x) + ending at n i (above p x) ≤ ending at n i p
  unfolding ending
  beside_ending at zero i = omega arith
  beside_ending at (suc n) i = omega (arith, beside_one (span_of (at i)).high_hz, beside_ending at n (suc i))

-- ---- gaps

-- a record's stretch is what it shares with the piece, and of positive length
shared_is : (m : Option ℕ) (p : Range) (r : Record) (x : Range) → shared_with m p r ≡ Some x → (x ≡ common_of (span_of r) p) × (lengthy x ≡ true)
unfolding shared_with
shared_is m p r x e = go (is_member m r) (lengthy (common_of (span_of r) p)) refl e
  where
    go :
        (a b : Bool) → lengthy (common_of (span_of r) p) ≡ b → cond a (cond b (Some (common_of (span_of r) p)) None) None ≡ Some x
        → (x ≡ common_of (span_of r) p) × (lengthy x ≡ true)
    go true true f q =
        let y : common_of (span_of r) p ≡ x = cc in
        (sym y, ap lengthy (sym y) ∙ f)
    go true false f q = absurd (let z : ◌≡◌ {A = ℕ} 0 1 = cc in omega arith)
    go false b f q = absurd (let z : ◌≡◌ {A = ℕ} 0 1 = cc in omega arith)

-- what is left of a part, by a bound E on what is left of a piece
module _ (F : Range → List Range) (E : Range → ℕ) (few : (q : Range) → lengthy q ≡ true → length (F q) ≤ suc (E q)) where
  part_few : (q : Range) → length (of_part F q) ≤ suc (E q)
  part_few q = go (lengthy q) refl
    where
      go : (b : Bool) → lengthy q ≡ b → length (cond b (F q) []) ≤ suc (E q)
      go true e = few q e
      go false e = omega arith

  -- what is left of the two parts beside the stretch x that a range s shares with a piece p
  parts_few :
      (s p x : Range) → lengthy p ≡ true → x ≡ common_of s p → lengthy x ≡ true → E (below p x) + E (above p x) ≤ E p
      → length (of_part F (below p x) ++ of_part F (above p x)) ≤ suc (unit (within p s.high_hz) + E p)
  parts_few s p x long is shared h =
      go (lengthy (below p x)) (lengthy (above p x)) refl refl
      (length-append (of_part F (below p x)) (of_part F (above p x)))
    where
      -- the range ends inside the piece where there is a part above
      ended : lengthy (above p x) ≡ true → within p s.high_hz ≡ true
      ended g =
          let e = ends_there s p x long is shared g in
          and_of (ap (λ (y : Float). lt p.low_hz y) (sym e) ∙ ends_inside s p x long is shared) (ap (λ (y : Float). lt y p.high_hz) (sym e) ∙ g)

      go :
          (b c : Bool) → lengthy (below p x) ≡ b → lengthy (above p x) ≡ c
          → length (cond b (F (below p x)) [] ++ cond c (F (above p x)) []) ≡ length (cond b (F (below p x)) []) + length (cond c (F (above p x)) [])
          → length (cond b (F (below p x)) [] ++ cond c (F (above p x)) []) ≤ suc (unit (within p s.high_hz) + E p)
      go true true f g e = rw (ended g) (omega (arith, few (below p x) f, few (above p x) g))
      go true false f g e = omega (arith, few (below p x) f)
      go false true f g e = omega (arith, few (above p x) g)
      go false false f g e = omega arith

module _ (at : ℕ → Record) (m : Option ℕ) where
  left_few : (n i : ℕ) (p : Range) → lengthy p ≡ true → length (left_from at m n i p) ≤ suc (ending at n i p)
  unfolding left_from ending
  left_few zero i p long = omega arith
  left_few (suc n) i p long = go (left_few n (suc i)) (shared_with m p (at i)) refl
    where
      go :
          ((q : Range) → lengthy q ≡ true → length (left_from at m n (suc i) q) ≤ suc (ending at n (suc i) q))
          → (s : Option Range) → shared_with m p (at i) ≡ s
          → length (on_shared s (λ x. of_part (left_from at m n (suc i)) (below p x) ++ of_part (left_from at m n (suc i)) (above p x)) (left_from at m n (suc i) p))
          ≤ suc (unit (within p (span_of (at i)).high_hz) + ending at n (suc i) p)
      go few (Some x) e =
          let r = shared_is m p (at i) x e in
          parts_few (left_from at m n (suc i)) (ending at n (suc i)) few (span_of (at i)) p x long r.0 r.1
          (beside_ending p x r.1 (begins_inside (span_of (at i)) p x long r.0 r.1) (ends_inside (span_of (at i)) p x long r.0 r.1) at n (suc i))
      go few None e = omega (arith, few p long)

  part_of_few : (n i : ℕ) (p : Range) → length (of_part (left_from at m n i) p) ≤ suc n
  part_of_few n i p = omega (arith, part_few (left_from at m n i) (ending at n i) (left_few n i) p, ending_few at n i p)

-- ---- rows

gives_few : {A : Type 0} (at : ℕ → Record) (m : Option ℕ) (w : Range) (g : ℕ → Range → A) (j : ℕ) → length (gives at m w g j) ≤ 1
gives_few at m w g j = go (shared_with m w (at j))
  where
    go : (s : Option Range) → length (on_shared s (λ x. g j x ∷ []) []) ≤ 1
    go (Some x) = omega arith
    go None = omega arith

stretch_few : {A : Type 0} (f : ℕ → List A) → ((j : ℕ) → length (f j) ≤ 1) → (k i : ℕ) → length (stretch k i f) ≤ k
unfolding stretch
stretch_few f h zero i = omega arith
stretch_few f h (suc k) i =
    let e : length (f i ++ stretch k (suc i) f) ≡ length (f i) + length (stretch k (suc i) f) = length-append (f i) (stretch k (suc i) f) in
    omega (arith, h i, stretch_few f h k (suc i))

pairs_few : (table : Table) (t i : ℕ) → length (pair_rows_at table t i) ≤ table.count t
unfolding pair_rows
pairs_few table t i =
    let r = table.at t i in
    let f = gives (table.at t) (pair_members t r) (span_of r) (overlap_row t (pair_members t r) i) in
    omega (
      arith,
      stretch_few f (gives_few (table.at t) (pair_members t r) (span_of r) (overlap_row t (pair_members t r) i)) (table.count t - (i + 1)) (i + 1),
    )

overlaps_few : (table : Table) (t : ℕ) → table.count t ≤ 256 → length (overlap_rows table t) ≤ 65536
unfolding overlap_rows
overlaps_few table t h =
    let a : length (each (table.count t) (pair_rows_at table t)) ≤ table.count t * 256 =
    each_few (table.count t) 256 (pair_rows_at table t) (λ i. omega (arith, pairs_few table t i)) in
    omega arith

gaps_few : (table : Table) (class : ℕ) → table.count segments ≤ 256 → table.count privileges ≤ 256 → length (gap_rows table class) ≤ 65792
unfolding gap_rows gaps_in
gaps_few table class h k =
    let a : length (each (table.count segments) (gaps_at table class)) ≤ table.count segments * 257 =
    each_few (table.count segments) 257 (gaps_at table class)
    (λ i. omega (
      arith,
      length-map (of_part (left_from (table.at privileges) (Some class) (table.count privileges) 0) (span_of (table.at segments i))) (gap_row class i),
      part_of_few (table.at privileges) (Some class) (table.count privileges) 0 (span_of (table.at segments i)),
    )) in
    omega arith

-- ---- the parts of a report, and the whole: fewer than 2^18 + 2^9 rows

module _ (l : List ℕ) (w : Whole l) where
  pub table_few : (t : ℕ) → t < tables → length (overlap_rows (table_of l) t) ≤ 65536
  table_few t h = overlaps_few (table_of l) t (omega (arith, count_in_holds l t h, w.few t h))

  pub segments_few : (class : ℕ) → length (gap_rows (table_of l) class) ≤ 65792
  segments_few class = gaps_few (table_of l) class (w.few segments (omega arith)) (w.few privileges (omega arith))

pub report_few : (l : List ℕ) → Whole l → (class : ℕ) → length (report_rows (table_of l) class) ≤ 262400
unfolding report_rows
report_few l w class =
    let b = overlap_rows (table_of l) bands in
    let s = overlap_rows (table_of l) segments in
    let p = overlap_rows (table_of l) privileges in
    let g = gap_rows (table_of l) class in
    omega (
      arith,
      length-append b (s ++ (p ++ g)),
      length-append s (p ++ g),
      length-append p g,
      table_few l w bands (omega arith),
      table_few l w segments (omega arith),
      table_few l w privileges (omega arith),
      segments_few l w class,
    )
