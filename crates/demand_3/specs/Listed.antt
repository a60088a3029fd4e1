-- When a dial lies in a row outside the channel band: exactly if some data segment and some privilege that may use it hold the guarded
-- signal there, and, where the list is cut to them, some automatic segment does.
use Rattle.std.specs.Prelude.{ℕ, ◌<◌, Bool, cond, ◌&&◌, ◌||◌, List, [], ◌≡◌, Float, Option, Some, None}
use Rattle.std.proofs.Math.Bool.{true, false, or-false}
use Rattle.std.proofs.Common.{true≢false, sym, ◌∙◌, arith}
use Rattle.std.proofs.lemmas.Bool.{false≢true}
use Rattle.std.proofs.Math.Path.{refl}
use Rattle.std.specs.Float.Ieee.{le}
use Rattle.profile.specs.Range.{holds_of, lengthy, common_of, intersect_of}
use Rattle.profile.specs.declared.Range.{Range}
use Rattle.air.specs.Air.{rf_range_of, guarded_of, dial_ends_of}
use Rattle.scan.specs.First.{first, some, is_at}
use Rattle.scan.specs.Laws.{first_at, some_true, and_true}
use Rattle.layout.specs.Layout.{segments, privileges, automatic, tables}
use Rattle.layout.specs.declared.Record.{Record}
use Rattle.table.specs.Table.{Table}
use Rattle.table.specs.Parts.{span_of, segment_of, privilege_of}
use Rattle.table.specs.declared.Segment.{Segment}
use Rattle.table.specs.declared.Privilege.{Privilege}
use Rattle.find.specs.Question.{asks, some_in}
use Rattle.find.specs.declared.Question.TheVariants.{Holds}
use Rattle.eighths.specs.Grid.{Figure}
use Rattle.lists.specs.Each.{each}
use Rattle.rows.specs.Order.{any_row, Index, any_each_in, any_each_of}
use Rattle.rows.specs.declared.SafeDial.{SafeDial}
use Rattle.dial_rows.specs.Dials.{dial_rows, piece_rows, on_shared, automatic_rows_at, automatic_rows, cut, cut_rows, may_use, privilege_rows}
use Rattle.dial_rows.specs.Dials.{privilege_rows_at, privileges_rows, too_wide, excluded_band, segment_rows, segment_rows_at, data_rows}
use Rattle.dial_rows.specs.declared.Request.{Request}
use Rattle.distance.specs.Distance.{is_outside, counts}
use Rattle.exact.specs.Air.{MarginFigures}
use Rattle.demand_3.specs.Order.{Grid, grid, le_trans, Ends, Figures, ends, held, held_low, held_high}
use Rattle.demand_3.specs.Order.{common_holds, holds_common, share, common_figures, figure_grid}
use Rattle.demand_3.specs.Dial.{RowEnd, guarded_ends, dial_low_holds, dial_high_holds, end_low, end_high}

-- ---- a scan that found one

pub record Passing (test : ℕ → Bool) (n : ℕ) : Type 0 where
  pub index : ℕ
  pub below : index < n
  pub passes : test index ≡ true

pub some_index : (test : ℕ → Bool) (n : ℕ) → some test n ≡ true → Passing test n
some_index test n e = go (first test n) refl e
  where
    go : (f : Option ℕ) → first test n ≡ f → is_at f ≡ true → Passing test n
    go (Some i) p q = let h = first_at test n i p in record { index = i; below = h.below; passes = h.passes }
    go None p q = absurd (false≢true q)

pub asks_holds : (a : Range) (r : Record) → asks (Holds a) r ≡ holds_of (span_of r) a
unfolding asks
asks_holds a r = refl

-- ---- a dial in a row

-- a dial lies in a row that counts
abbrev pub lies : ℕ → ℕ → Float → SafeDial → Bool
lies flags channel dial x =
    counts flags channel x.band x.dial_low_hz x.dial_high_hz && (le x.dial_low_hz dial && le dial x.dial_high_hz)

-- every record's range is of figures in eighths
pub record Spans (table : Table) : Type 0 where
  pub span : (t i : ℕ) → t < tables → i < table.count t → Figures (span_of (table.at t i))

-- the guarded signal at a dial
abbrev pub guarded_at : Request → Float → Range
guarded_at q dial = guarded_of q.margin (rf_range_of dial q.sideband q.audio)

-- the tests of one row, all passed
all_yes : {o b m n : Bool} → o ≡ true → b ≡ true → m ≡ true → n ≡ true → (((o && b) && (m && n)) || false) ≡ true
all_yes p q r s = rw p (rw q (rw r (rw s)))

all_of : (o b m n : Bool) → (((o && b) && (m && n)) || false) ≡ true → (o ≡ true) × (m ≡ true) × (n ≡ true)
all_of o b m n e =
    let both = and_true (o && b) (m && n) (sym (or-false ((o && b) && (m && n))) ∙ e) in
    let last = and_true m n both.1 in
    ((and_true o b both.0).0, last.0, last.1)

row_end_grid : {x : Float} → RowEnd x → Grid x
row_end_grid R = grid R.eighths

module _ (flags channel : ℕ) (q : Request) (dial : Float) (D : Figure dial) (M : MarginFigures q.margin) (A : Figures q.audio) where
  module _ (band rule : ℕ) (piece : Range) (P : Figures piece) where
    abbrev dials : Range
    dials = dial_ends_of piece q.sideband q.audio q.margin

    abbrev low : Bool
    low = le dials.low_hz dial

    abbrev high : Bool
    high = le dial dials.high_hz

    low_as : low ≡ le piece.low_hz (guarded_at q dial).low_hz
    low_as = dial_low_holds dial q.margin q.audio D M A piece P q.sideband

    high_as : high ≡ le (guarded_at q dial).high_hz piece.high_hz
    high_as = dial_high_holds dial q.margin q.audio D M A piece P q.sideband

    between : low ≡ true → high ≡ true → le dials.low_hz dials.high_hz ≡ true
    between h k =
        le_trans (row_end_grid (end_low piece q.audio q.margin P A M q.sideband)) (figure_grid D)
        (row_end_grid (end_high piece q.audio q.margin P A M q.sideband)) h k

    -- A piece that holds the guarded signal has a row, and the dial lies in it.
    pub piece_in :
        is_outside flags channel band ≡ true → holds_of piece (guarded_at q dial) ≡ true
        → any_row (lies flags channel dial) (piece_rows q band rule piece) ≡ true
    unfolding piece_rows
    piece_in o h =
        let a : low ≡ true = low_as ∙ held_low piece (guarded_at q dial) h in
        let b : high ≡ true = high_as ∙ held_high piece (guarded_at q dial) h in
        rw (between a b) (all_yes o (between a b) a b)

    -- And only such a piece.
    pub piece_of :
        any_row (lies flags channel dial) (piece_rows q band rule piece) ≡ true
        → (is_outside flags channel band ≡ true) × (holds_of piece (guarded_at q dial) ≡ true)
    unfolding piece_rows
    piece_of e = go (le dials.low_hz dials.high_hz) e
      where
        go :
            (b : Bool)
            → any_row (lies flags channel dial) (dial_rows band rule piece (cond b (Some dials) None)) ≡ true
            → (is_outside flags channel band ≡ true) × (holds_of piece (guarded_at q dial) ≡ true)
        go true e =
            let r = all_of (is_outside flags channel band) (le dials.low_hz dials.high_hz) low high e in
            (r.0, held piece (guarded_at q dial) (sym low_as ∙ r.1) (sym high_as ∙ r.2))
        go false e = absurd (false≢true e)

  -- ---- what a piece becomes where the list is cut to the automatic segments

  module _ (table : Table) (S : Spans table) (long : lengthy (guarded_at q dial) ≡ true) where
    abbrev listed : List SafeDial → Bool
    listed = any_row (lies flags channel dial)

    abbrev signal : Range
    signal = guarded_at q dial

    signal_ends : Ends signal
    signal_ends = guarded_ends dial q.margin q.audio D M A q.sideband

    -- a range that two ranges share, both of which hold the signal
    shared_in :
        (a b : Range) → Figures a → Figures b → (f : Range → List SafeDial)
        → ((r : Range) → Figures r → holds_of r signal ≡ true → listed (f r) ≡ true)
        → holds_of a signal ≡ true → holds_of b signal ≡ true → listed (on_shared (intersect_of a b) f) ≡ true
    shared_in a b FA FB f next h k =
        rw (share a b signal (ends FA) (ends FB) signal_ends long h k)
        (next (common_of a b) (common_figures a b FA FB) (common_holds a b signal (ends FA) (ends FB) signal_ends h k))

    shared_of :
        (a b : Range) → Figures a → Figures b → (f : Range → List SafeDial) (X : Type 0)
        → ((r : Range) → Figures r → (holds_of r signal ≡ true → (holds_of a signal ≡ true) × (holds_of b signal ≡ true)) → listed (f r) ≡ true → X)
        → listed (on_shared (intersect_of a b) f) ≡ true → X
    shared_of a b FA FB f X next e = go (lengthy (common_of a b)) e
      where
        go : (t : Bool) → listed (on_shared (cond t (Some (common_of a b)) None) f) ≡ true → X
        go true e = next (common_of a b) (common_figures a b FA FB) (holds_common a b signal (ends FA) (ends FB) signal_ends) e
        go false e = absurd (false≢true e)

    cut_in :
        (s : Segment) (piece : Range) → Figures piece → is_outside flags channel s.band ≡ true → holds_of piece signal ≡ true
        → (cut q ≡ true → some_in table automatic (Holds signal) ≡ true) → listed (cut_rows table q s piece) ≡ true
    unfolding cut_rows automatic_rows
    cut_in s piece P o h auto = go (cut q) auto
      where
        inside :
            Passing (λ i. asks (Holds signal) (table.at automatic i)) (table.count automatic)
            → listed (each (table.count automatic) (automatic_rows_at table q s.band piece)) ≡ true
        inside a =
            any_each_in (lies flags channel dial) (table.count automatic) (automatic_rows_at table q s.band piece) a.index a.below
            (shared_in piece (span_of (table.at automatic a.index)) P (S.span automatic a.index (omega arith) a.below)
            (piece_rows q s.band q.segments_rule) (λ r R k. piece_in s.band q.segments_rule r R o k) h
            (sym (asks_holds signal (table.at automatic a.index)) ∙ a.passes))

        go :
            (b : Bool) → (b ≡ true → some_in table automatic (Holds signal) ≡ true)
            → listed (cond b (each (table.count automatic) (automatic_rows_at table q s.band piece)) (piece_rows q s.band s.rule piece)) ≡ true
        go true auto = inside (some_index (λ i. asks (Holds signal) (table.at automatic i)) (table.count automatic) (auto refl))
        go false auto = piece_in s.band s.rule piece P o h

    -- what a row of a cut piece says
    pub record CutOf (s : Segment) (piece : Range) : Type 0 where
      pub outside : is_outside flags channel s.band ≡ true
      pub holds : holds_of piece signal ≡ true
      pub automatic_holds : cut q ≡ true → some_in table automatic (Holds signal) ≡ true

    cut_of : (s : Segment) (piece : Range) → Figures piece → listed (cut_rows table q s piece) ≡ true → CutOf s piece
    unfolding cut_rows automatic_rows
    cut_of s piece P e = go (cut q) refl e
      where
        inside : Index (lies flags channel dial) (table.count automatic) (automatic_rows_at table q s.band piece) → CutOf s piece
        inside a =
            shared_of piece (span_of (table.at automatic a.index)) P (S.span automatic a.index (omega arith) a.below)
            (piece_rows q s.band q.segments_rule) (CutOf s piece)
            (λ r R back e.
            let x = piece_of s.band q.segments_rule r R e in
            let both = back x.1 in
            record {
              outside = x.0;
              holds = both.0;
              automatic_holds = λ _.
                  some_true (λ i. asks (Holds signal) (table.at automatic i)) (table.count automatic) a.index a.below
                  (asks_holds signal (table.at automatic a.index) ∙ both.1);
            })
            a.passes

        go :
            (b : Bool) → cut q ≡ b
            → listed (cond b (each (table.count automatic) (automatic_rows_at table q s.band piece)) (piece_rows q s.band s.rule piece)) ≡ true
            → CutOf s piece
        go true c e = inside (any_each_of (lies flags channel dial) (table.count automatic) (automatic_rows_at table q s.band piece) e)
        go false c e =
            let x = piece_of s.band s.rule piece P e in
            record { outside = x.0; holds = x.1; automatic_holds = λ t. absurd (true≢false (sym t ∙ c)) }

    -- ---- a segment and a privilege

    -- what a row of a segment and a privilege says
    pub record PairOf (s : Segment) (p : Privilege) : Type 0 where
      pub may_use_holds : may_use q p ≡ true
      pub outside : is_outside flags channel s.band ≡ true
      pub segment_holds : holds_of s.range signal ≡ true
      pub privilege_holds : holds_of p.range signal ≡ true
      pub automatic_holds : cut q ≡ true → some_in table automatic (Holds signal) ≡ true

    pair_in : (s : Segment) (p : Privilege) → Figures s.range → Figures p.range → PairOf s p → listed (privilege_rows table q s p) ≡ true
    unfolding privilege_rows
    pair_in s p FS FP x =
        rw x.may_use_holds
        (shared_in s.range p.range FS FP (cut_rows table q s) (λ r R k. cut_in s r R x.outside k x.automatic_holds)
        x.segment_holds x.privilege_holds)

    pair_of : (s : Segment) (p : Privilege) → Figures s.range → Figures p.range → listed (privilege_rows table q s p) ≡ true → PairOf s p
    unfolding privilege_rows
    pair_of s p FS FP e = go (may_use q p) refl e
      where
        go : (b : Bool) → may_use q p ≡ b → listed (cond b (on_shared (intersect_of s.range p.range) (cut_rows table q s)) []) ≡ true → PairOf s p
        go true m e =
            shared_of s.range p.range FS FP (cut_rows table q s) (PairOf s p)
            (λ r R back e.
            let x = cut_of s r R e in
            let both = back x.holds in
            record {
              may_use_holds = m;
              outside = x.outside;
              segment_holds = both.0;
              privilege_holds = both.1;
              automatic_holds = x.automatic_holds;
            })
            e
        go false m e = absurd (false≢true e)

    -- ---- the whole list

    abbrev segment_in : ℕ → Segment
    segment_in i = segment_of (table.at segments i)

    abbrev privilege_in : ℕ → Privilege
    privilege_in i = privilege_of (table.at privileges i)

    -- what makes data lawful at the dial, in the list's words
    pub record Lawful : Type 0 where
      pub segment : ℕ
      pub privilege : ℕ
      pub segment_below : segment < table.count segments
      pub privilege_below : privilege < table.count privileges
      pub narrow : too_wide q (segment_in segment) ≡ false
      pub not_excluded : excluded_band table q (segment_in segment) ≡ false
      pub pair : PairOf (segment_in segment) (privilege_in privilege)

    segment_span : (i : ℕ) → i < table.count segments → Figures (segment_in i).range
    segment_span i h = S.span segments i (omega arith) h

    privilege_span : (i : ℕ) → i < table.count privileges → Figures (privilege_in i).range
    privilege_span i h = S.span privileges i (omega arith) h

    pub data_in : Lawful → listed (data_rows table q) ≡ true
    unfolding data_rows segment_rows privileges_rows
    data_in w =
        any_each_in (lies flags channel dial) (table.count segments) (segment_rows_at table q) w.segment w.segment_below
        (rw w.narrow
        (rw w.not_excluded
        (any_each_in (lies flags channel dial) (table.count privileges) (privilege_rows_at table q (segment_in w.segment)) w.privilege w.privilege_below
        (pair_in (segment_in w.segment) (privilege_in w.privilege) (segment_span w.segment w.segment_below)
        (privilege_span w.privilege w.privilege_below) w.pair))))

    pub data_of_holds : listed (data_rows table q) ≡ true → Lawful
    unfolding data_rows segment_rows privileges_rows
    data_of_holds e = outer (any_each_of (lies flags channel dial) (table.count segments) (segment_rows_at table q) e)
      where
        outer : Index (lies flags channel dial) (table.count segments) (segment_rows_at table q) → Lawful
        outer s = go (too_wide q (segment_in s.index)) (excluded_band table q (segment_in s.index)) refl refl s.passes
          where
            inner :
                too_wide q (segment_in s.index) ≡ false → excluded_band table q (segment_in s.index) ≡ false
                → Index (lies flags channel dial) (table.count privileges) (privilege_rows_at table q (segment_in s.index)) → Lawful
            inner n o p =
                record {
                  segment = s.index;
                  privilege = p.index;
                  segment_below = s.below;
                  privilege_below = p.below;
                  narrow = n;
                  not_excluded = o;
                  pair =
                      pair_of (segment_in s.index) (privilege_in p.index) (segment_span s.index s.below)
                      (privilege_span p.index p.below) p.passes;
                }

            go :
                (a b : Bool) → too_wide q (segment_in s.index) ≡ a → excluded_band table q (segment_in s.index) ≡ b
                → listed (cond (a || b) [] (each (table.count privileges) (privilege_rows_at table q (segment_in s.index)))) ≡ true → Lawful
            go true b n o e = absurd (false≢true e)
            go false true n o e = absurd (false≢true e)
            go false false n o e = inner n o
                (any_each_of (lies flags channel dial) (table.count privileges) (privilege_rows_at table q (segment_in s.index)) e)
