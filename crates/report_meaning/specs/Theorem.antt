-- What the rows of a report mean, over the definition that the call's promise cites, for the table of an accepted image.
use Rattle.std.specs.Prelude.{ℕ, zero, suc, ◌+◌, ◌-◌, ◌<◌, ◌≤◌, Bool, true, false, cond, List, [], ◌∷◌, ◌++◌, map, ◌⊎◌, ◌≡◌, refl, Float, Option, Some, None, Ok}
use Rattle.std.proofs.Common.{inl, inr, sym, subst, ◌∙◌, arith}
use Rattle.std.proofs.lemmas.Bool.{not-false}
use Rattle.std.proofs.Math.Decide.{dec_le}
use Rattle.std.specs.Float.Ieee.{lt, is_nan}
use Rattle.codes.specs.Laws.{refusal_both, none_fails}
use Rattle.order.specs.Total.{lt_both, lt_not, not_lt}
use Rattle.profile.specs.Range.{holds_of, lengthy, common_of, share_of}
use Rattle.profile.specs.declared.Range.{Range}
use Rattle.lists.specs.Each.{each}
use Rattle.lists.specs.From.{stretch}
use Rattle.scan.specs.First.{some}
use Rattle.scan.specs.Laws.{some_false, from_here}
use Rattle.layout.specs.Form.{form_tests}
use Rattle.layout.specs.Layout.{bands, segments, privileges}
use Rattle.layout.specs.declared.Record.{Record}
use Rattle.table.specs.Parts.{span_of}
use Rattle.table.specs.Table.{Table, table_of}
use Rattle.find.specs.Question.{asks}
use Rattle.find.specs.declared.Question.TheVariants.{NotLengthy}
use Rattle.image.specs.Check.{content_tests, check_of}
use Rattle.sweep.specs.Sweep.{is_member, shared_with, on_shared, gives}
use Rattle.report_rows.specs.declared.ReportRow.{ReportRow}
use Rattle.report.specs.Gaps.{of_part, left_from}
use Rattle.report.specs.Report.{pair_members, overlap_row, pair_rows, pair_rows_at, overlap_rows, gap_row, gaps_in, gaps_at}
use Rattle.report_meaning.specs.Words.{In, Pair, share, Bare, Gap, below, Apart, InGap, HeldBy}
use Rattle.report_meaning.specs.Ranges.{low_number, high_number, held_low, held_high, holds_trans}
use Rattle.report_meaning.specs.Left.{in_left, in_right, in_either, in_every, InRange, left_sound, left_covers, left_longest, left_apart}

-- ---- the table of an accepted image: bands, segments and privileges are of positive length

pub record Ranged (table : Table) : Type 0 where
  pub band : (j : ℕ) → j < table.count bands → lengthy (span_of (table.at bands j)) ≡ true
  pub segment : (j : ℕ) → j < table.count segments → lengthy (span_of (table.at segments j)) ≡ true
  pub privilege : (j : ℕ) → j < table.count privileges → lengthy (span_of (table.at privileges j)) ≡ true

long_of_holds : (table : Table) (t : ℕ) → some (λ i. asks NotLengthy (table.at t i)) (table.count t) ≡ false → (j : ℕ) → j < table.count t
    → lengthy (span_of (table.at t j)) ≡ true
unfolding asks
long_of_holds table t e j h = not-false (lengthy (span_of (table.at t j))) (some_false (λ i. asks NotLengthy (table.at t i)) (table.count t) e j h)

pub accepted_ranged : (l : List ℕ) → check_of l ≡ Ok tt → Ranged (table_of l)
unfolding check_of
accepted_ranged l e =
    let n = none_fails (content_tests (table_of l)) (refusal_both (form_tests l) (content_tests (table_of l)) e).1 in
    record {
      band = long_of_holds (table_of l) bands n.1.1.0;
      segment = long_of_holds (table_of l) segments n.1.1.1.0;
      privilege = long_of_holds (table_of l) privileges n.1.1.1.1.1.0;
    }

-- ---- members of what is gathered index by index

pub record Gathered {A : Type 0} (f : ℕ → List A) (i n : ℕ) (x : A) : Type 0 where
  pub index : ℕ
  pub after : i ≤ index
  pub before : index < n
  pub member : In x (f index)

each_member : {A : Type 0} (f : ℕ → List A) (n : ℕ) (x : A) → In x (each n f) → Gathered f 0 n x
unfolding each
each_member f zero x h = elim h [ ]
each_member f (suc n) x h = go (each_member f n x) (in_either x (each n f) (f n) h)
  where
    go : (In x (each n f) → Gathered f 0 n x) → In x (each n f) ⊎ In x (f n) → Gathered f 0 (suc n) x
    go rec (inl k) =
        let r = rec k in
        record { index = r.index; after = omega arith; before = omega (arith, r.before); member = r.member }
    go rec (inr k) = record { index = n; after = omega arith; before = omega arith; member = k }

member_each : {A : Type 0} (f : ℕ → List A) (n k : ℕ) (x : A) → k < n → In x (f k) → In x (each n f)
unfolding each
member_each f zero k x h m = absurd (omega arith)
member_each f (suc n) k x h m = go (λ b. member_each f n k x b m) (dec_le (suc k) n)
  where
    go : (k < n → In x (each n f)) → Dec (suc k ≤ n) → In x (each n f ++ f n)
    go rec (yes b) = in_left x (each n f) (f n) (rec b)
    go rec (no b) = let e : k ≡ n = omega arith in in_right x (each n f) (f n) (subst (λ (j : ℕ). In x (f j)) e m)

stretch_member : {A : Type 0} (f : ℕ → List A) (k i : ℕ) (x : A) → In x (stretch k i f) → Gathered f i (i + k) x
unfolding stretch
stretch_member f zero i x h = elim h [ ]
stretch_member f (suc k) i x h = go (stretch_member f k (suc i) x) (in_either x (f i) (stretch k (suc i) f) h)
  where
    go : (In x (stretch k (suc i) f) → Gathered f (suc i) (suc i + k) x) → In x (f i) ⊎ In x (stretch k (suc i) f) → Gathered f i (i + suc k) x
    go rec (inl m) = record { index = i; after = omega arith; before = omega arith; member = m }
    go rec (inr m) =
        let r = rec m in
        record { index = r.index; after = omega (arith, r.after); before = omega (arith, r.before); member = r.member }

member_stretch : {A : Type 0} (f : ℕ → List A) (k i j : ℕ) (x : A) → i ≤ j → j < i + k → In x (f j) → In x (stretch k i f)
unfolding stretch
member_stretch f zero i j x a b m = absurd (omega arith)
member_stretch f (suc k) i j x a b m =
    from_here i j a (λ (n : ℕ). In x (f n) → In x (f i ++ stretch k (suc i) f)) (λ q. in_left x (f i) (stretch k (suc i) f) q)
    (λ h q. in_right x (f i) (stretch k (suc i) f) (member_stretch f k (suc i) j x h (omega arith) q))
    m

-- ---- overlaps: "every pair … that shares a positive stretch"

-- a row is that of a pair that shares a stretch, with that stretch
pub record Overlap (table : Table) (t : ℕ) (x : ReportRow) : Type 0 where
  pub first : ℕ
  pub second : ℕ
  pub pair : Pair table t first second
  pub shares : share table t first second ≡ true
  pub row :
      x
      ≡ overlap_row t (pair_members t (table.at t first)) first second (common_of (span_of (table.at t second)) (span_of (table.at t first)))

-- what one record gives, by what it shares
given_one : {A : Type 0} (m : Option ℕ) (w : Range) (r : Record) (y : Range → A) (x : A) → In x (on_shared (shared_with m w r) (λ s. y s ∷ []) [])
    → (is_member m r ≡ true) × (share_of (span_of r) w ≡ true) × (x ≡ y (common_of (span_of r) w))
unfolding shared_with
given_one m w r y x h = go (is_member m r) (lengthy (common_of (span_of r) w)) h
  where
    go :
        (a b : Bool) → In x (on_shared (cond a (cond b (Some (common_of (span_of r) w)) None) None) (λ s. y s ∷ []) [])
        → (a ≡ true) × (b ≡ true) × (x ≡ y (common_of (span_of r) w))
    go false b i = elim i [ ]
    go true false i = elim i [ ]
    go true true (inl e) = (refl, refl, e)
    go true true (inr i) = elim i [ ]

one_given : {A : Type 0} (m : Option ℕ) (w : Range) (r : Record) (y : Range → A) → is_member m r ≡ true → share_of (span_of r) w ≡ true
    → In (y (common_of (span_of r) w)) (on_shared (shared_with m w r) (λ s. y s ∷ []) [])
unfolding shared_with
one_given m w r y h k = rw h (rw k (inl refl))

-- An overlap row is there exactly for the pairs that share.
pub overlap_only : (table : Table) (t : ℕ) (x : ReportRow) → In x (overlap_rows table t) → Overlap table t x
unfolding overlap_rows pair_rows
overlap_only table t x h =
    let i = each_member (pair_rows_at table t) (table.count t) x h in
    let j = stretch_member (gives (table.at t) (pair_members t (table.at t i.index)) (span_of (table.at t i.index))
    (overlap_row t (pair_members t (table.at t i.index)) i.index)) (table.count t - (i.index + 1)) (i.index + 1) x i.member in
    let g = given_one (pair_members t (table.at t i.index)) (span_of (table.at t i.index)) (table.at t j.index)
    (overlap_row t (pair_members t (table.at t i.index)) i.index j.index) x j.member in
    record {
      first = i.index;
      second = j.index;
      pair = record { ordered = omega (arith, j.after); there = omega (arith, j.after, j.before); together = g.0 };
      shares = g.1;
      row = g.2;
    }

pub overlap_listed :
    (table : Table) (t i j : ℕ) → Pair table t i j → share table t i j ≡ true
    → In (overlap_row t (pair_members t (table.at t i)) i j (common_of (span_of (table.at t j)) (span_of (table.at t i)))) (overlap_rows table t)
unfolding overlap_rows pair_rows
overlap_listed table t i j p s =
    let r = table.at t i in
    member_each (pair_rows_at table t) (table.count t) i _ (omega (arith, p.ordered, p.there))
    (member_stretch (gives (table.at t) (pair_members t r) (span_of r) (overlap_row t (pair_members t r) i)) (table.count t - (i + 1)) (i + 1) j _
    (omega (arith, p.ordered)) (omega (arith, p.ordered, p.there))
    (one_given (pair_members t r) (span_of r) (table.at t j) (overlap_row t (pair_members t r) i j) p.together s))

-- ---- gaps

-- the gaps of segment i for a class, lowest first
abbrev pub gaps_of : Table → ℕ → ℕ → List Range
gaps_of table class i = of_part (left_from (table.at privileges) (Some class) (table.count privileges) 0) (span_of (table.at segments i))

-- the rows are theirs
pub gaps_rows : (table : Table) (class i : ℕ) → gaps_at table class i ≡ map (gap_row class i) (gaps_of table class i)
unfolding gaps_in
gaps_rows table class i = refl

-- of gaps that lie apart, one that lies in another is that one
apart_same : (gs : List Range) (g h : Range) → Apart gs → In g gs → In h gs → lengthy g ≡ true → lengthy h ≡ true → holds_of h g ≡ true → h ≡ g
apart_same [] g h A i _ G H o = elim i [ ]
apart_same (k ∷ gs) g h A (inl e) (inl f) G H o = f ∙ sym e
apart_same (k ∷ gs) g h A (inl e) (inr f) G H o =
    let b : lt g.high_hz h.low_hz ≡ true = subst (λ (r : Range). below r h) (sym e) (in_every (below k) h gs A.0 f) in
    absurd (lt_both g.low_hz g.high_hz G
    (lt_not g.high_hz h.low_hz g.low_hz (low_number g G) b (held_low h g o)))
apart_same (k ∷ gs) g h A (inr e) (inl f) G H o =
    let b : lt h.high_hz g.low_hz ≡ true = subst (λ (r : Range). below r g) (sym f) (in_every (below k) g gs A.0 e) in
    absurd (lt_both g.low_hz g.high_hz G
    (not_lt g.high_hz h.high_hz g.low_hz (high_number g G) (held_high h g o) b))
apart_same (k ∷ gs) g h A (inr e) (inr f) G H o = apart_same gs g h A.1 e f G H o

-- a listed gap that is a stretch
pub record Listed (table : Table) (class i : ℕ) (g : Range) : Type 0 where
  pub gap : Range
  pub listed : In gap (gaps_of table class i)
  pub holds : holds_of gap g ≡ true
  pub held : holds_of g gap ≡ true

module _ (table : Table) (R : Ranged table) (class i : ℕ) (there : i < table.count segments) where
  abbrev s : Range
  s = span_of (table.at segments i)

  abbrev m : Option ℕ
  m = Some class

  abbrev n : ℕ
  n = table.count privileges

  S : lengthy (span_of (table.at segments i)) ≡ true
  S = R.segment i there

  L : (j : ℕ) → 0 ≤ j → j < 0 + n → lengthy (span_of (table.at privileges j)) ≡ true
  L j a b = R.privilege j (omega arith)

  -- the segment is of positive length, so it is all a part
  whole : gaps_of table class i ≡ left_from (table.at privileges) m n 0 s
  whole = rw S

  -- Two gaps of a segment don't touch.
  pub gaps_apart : Apart (gaps_of table class i)
  gaps_apart = rw whole (left_apart (table.at privileges) m n 0 s S L)

  -- No gap overlaps a privilege of the class.
  pub gap_bare : (g : Range) → In g (gaps_of table class i) → Bare table class i g
  gap_bare g h =
      let w = in_every _ g (left_from (table.at privileges) m n 0 s) (left_sound (table.at privileges) m n 0 s S L) (rw whole at h) in
      record { positive = w.long; inside = w.inside; clear = λ j b k. w.clear j (omega arith) (omega arith) k }

  -- a bare stretch lies in a gap
  bare_held : (r : Range) → Bare table class i r → HeldBy r (gaps_of table class i)
  bare_held r b =
      rw whole (left_longest (table.at privileges) m n 0 s S L r b.positive b.inside (λ j a c k. b.clear j (omega arith) k))

  -- A listed gap is a gap …
  pub gap_only : (g : Range) → In g (gaps_of table class i) → Gap table class i g
  gap_only g h =
      record {
        bare = gap_bare g h;
        longest = λ r b o.
            let w = bare_held r b in
            let e = apart_same (gaps_of table class i) g w.gap gaps_apart h w.listed (gap_bare g h).positive (gap_bare w.gap w.listed).positive
            (holds_trans w.gap r g (gap_bare w.gap w.listed).positive b.positive (gap_bare g h).positive w.holds o) in
            subst (λ (x : Range). holds_of x r ≡ true) e w.holds;
      }

  -- … and a gap is listed.
  pub gap_listed : (g : Range) → Gap table class i g → Listed table class i g
  gap_listed g G =
      let w = bare_held g G.bare in
      record { gap = w.gap; listed = w.listed; holds = w.holds; held = G.longest w.gap (gap_bare w.gap w.listed) w.holds }

  -- Gaps and privileges together cover the segment.
  pub gaps_cover :
      (y : Float) → is_nan y ≡ false → lt y (span_of (table.at segments i)).low_hz ≡ false → lt (span_of (table.at segments i)).high_hz y ≡ false
      → InGap y (gaps_of table class i) ⊎ InRange (table.at privileges) (Some class) (table.count privileges) 0 y
  gaps_cover y N a b = rw whole (left_covers (table.at privileges) m n 0 s S L y N a b)
