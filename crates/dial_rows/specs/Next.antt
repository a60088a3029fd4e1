-- The rows of a segment and of the channels from a place on. A search gives the first of them and the place behind it, so that whoever
-- asks does with the rows what it will: the list writes them.
use Rattle.std.specs.Prelude.{ℕ, suc, ◌+◌, ◌*◌, ◌≤◌, ◌<◌, Bool, true, false, ◌&&◌, ◌||◌, ◌≡◌, refl, eqb, ltb, Option, Some, None}
use Rattle.std.proofs.Math.Bool.{cond}
use Rattle.std.proofs.lemmas.Bool.{false≢true}
use mathlib.Core.List.{List, [], ◌∷◌, ◌++◌}
use Rattle.std.proofs.Math.Path.{sym, ap}
use Rattle.std.proofs.Common.{◌∙◌, arith, lt-ltb, le-ltb}
use Rattle.std.proofs.Math.Decide.{dec_le}
use Rattle.lists.specs.Each.{each}
use Rattle.lists.specs.Laws.{each_bare}
use Rattle.lists.specs.From.{from, from_all, from_each, from_row, from_skip, from_end}
use Rattle.lists.specs.From.{resume, resume_row, resume_bare, resume_from, resume_over}
use Rattle.codes.specs.declared.EmissionKind.TheVariants.{Data}
use Rattle.profile.specs.Limit.{allows_of}
use Rattle.profile.specs.Range.{intersect_of}
use Rattle.profile.specs.declared.Range.{Range}
use Rattle.layout.specs.Form.{Whole}
use Rattle.layout.specs.Layout.{record_size, segments, channels, privileges, automatic, record_at, count_of, start_of}
use Rattle.layout.specs.declared.Record.{Record}
use Rattle.table.specs.Table.{Table, record_in, table_of}
use Rattle.table.specs.Laws.{read_in}
use Rattle.table.specs.Parts.{span_of, segment_of, privilege_of}
use Rattle.table.specs.declared.Segment.{Segment}
use Rattle.table.specs.declared.Privilege.{Privilege}
use Rattle.table.specs.declared.Channels.{Channels}
use Rattle.rows.specs.declared.SafeDial.{SafeDial}
use Rattle.dial_rows.specs.Dials.{piece_rows, on_shared, automatic_rows_at, automatic_rows, cut, cut_rows, may_use, privilege_rows}
use Rattle.dial_rows.specs.Dials.{privilege_rows_at, privileges_rows, too_wide, excluded_band, segment_rows, segment_rows_at}
use Rattle.dial_rows.specs.Dials.{data_rows, channel_rows_at, channel_rows, channels_open, channel_found, open_rows}
use Rattle.dial_rows.specs.Class.{is_of, Ahead, Past}
use Rattle.dial_rows.specs.declared.Request.{Request}
use Rattle.dial_rows.specs.declared.Search.{Search}
use Rattle.dial_rows.specs.declared.Spot.{Spot}

-- ---- what an answer says of the rows

abbrev pub rows_in : Option SafeDial → List SafeDial
rows_in (Some x) = x ∷ []
rows_in None = []

-- the rows from a place on, where `more` says them from the place behind the first
abbrev pub cut_next : (ℕ → List SafeDial) → Option (SafeDial × ℕ) → List SafeDial
cut_next more (Some (x, k)) = x ∷ more k
cut_next more None = []

abbrev pub segment_next : (Spot → List SafeDial) → Option (SafeDial × Spot) → List SafeDial
segment_next more (Some (x, spot)) = x ∷ more spot
segment_next more None = []

-- ---- the rows from a place on

-- how many cuts a piece has: one for each automatic segment, or itself
abbrev pub cuts : Table → Request → ℕ
cuts table q = cond (cut q) (table.count automatic) 1

abbrev pub automatic_in : Request → ℕ → Range → Record → List SafeDial
automatic_in q band piece r = on_shared (intersect_of piece (span_of r)) (piece_rows q band q.segments_rule)

abbrev pub cut_at : Table → Request → Segment → Range → ℕ → List SafeDial
cut_at table q s piece k = cond (cut q) (automatic_rows_at table q s.band piece k) (piece_rows q s.band s.rule piece)

unfoldable pub cuts_from : Table → Request → Segment → Range → ℕ → List SafeDial
cuts_from table q s piece k = from (cuts table q) (cut_at table q s piece) k

unfoldable pub privilege_from : Table → Request → Segment → Privilege → ℕ → List SafeDial
privilege_from table q s p k = cond (may_use q p) (on_shared (intersect_of s.range p.range) (λ piece. cuts_from table q s piece k)) []

-- the same of a segment's record and the privilege that begins at a place of an image
abbrev pub pair_from : List ℕ → Request → Record → ℕ → ℕ → List SafeDial
pair_from l q r at k = privilege_from (table_of l) q (segment_of r) (privilege_of (record_at l at)) k

abbrev pub privilege_from_at : Table → Request → Segment → ℕ → ℕ → List SafeDial
privilege_from_at table q s i k = privilege_from table q s (privilege_of (table.at privileges i)) k

abbrev pub spot_of : ℕ → ℕ → Spot
spot_of i k = record { privilege = i; cut = k }

unfoldable pub privileges_from : Table → Request → Segment → Spot → List SafeDial
privileges_from table q s spot =
    resume (table.count privileges) (privilege_rows_at table q s) (privilege_from_at table q s) spot.privilege spot.cut

-- the place behind a row of privilege i whose next cut is k
abbrev pub behind_of : ℕ → ℕ → ℕ → Spot
behind_of n i k = cond (ltb k n) (spot_of i k) (spot_of (i + 1) 0)

-- a segment that is passed over
abbrev pub closed_of : Table → Request → Segment → Bool
closed_of table q s = too_wide q s || excluded_band table q s

-- how many channels are gone through
abbrev pub channel_count_of : Table → Request → Option Channels → ℕ
channel_count_of table q (Some c) = cond (channels_open q && channel_found table q) (table.count channels) 0
channel_count_of table q None = 0

abbrev pub channels_from : Table → Request → Channels → ℕ → ℕ → List SafeDial
channels_from table q c n k = from n (channel_rows_at table q c) k

-- ---- what a search knows

pub record Known (l : List ℕ) (q : Request) (w : Search) : Type 0 where
  pub whole : Whole l
  pub segments_from : w.segments ≡ start_of l segments
  pub segment_count : w.segment_count ≡ count_of l segments
  pub privileges_from_holds : w.privileges ≡ start_of l privileges
  pub ahead : Ahead l q.class w.first
  pub past : Past l q.class w.end
  pub automatic_from : w.automatic ≡ start_of l automatic
  pub is_cut : w.cut ≡ cut q
  pub cut_count : w.cuts ≡ cuts (table_of l) q
  pub channels_from_holds : w.channels ≡ start_of l channels
  pub channel_most : w.channel_count ≤ count_of l channels

-- and how many channels are gone through
abbrev pub Searched : List ℕ → Request → Option Channels → Search → Type 0
Searched l q b w = Known l q w × (w.channel_count ≡ channel_count_of (table_of l) q b)

-- ---- rows that are the same from every place on

pub cut_same :
    (f g : ℕ → List SafeDial) → ((k : ℕ) → f k ≡ g k) → (k : ℕ) (a : Option (SafeDial × ℕ)) → g k ≡ cut_next g a → f k ≡ cut_next f a
cut_same f g h k (Some (x, n)) e = h k ∙ e ∙ ap (λ (xs : List SafeDial). x ∷ xs) (sym (h n))
cut_same f g h k None e = h k ∙ e

-- ---- from the first place on, all rows

cuts_by : (b : Bool) (n : ℕ) (f : ℕ → List SafeDial) (xs : List SafeDial) → from (cond b n 1) (λ k. cond b (f k) xs) 0 ≡ cond b (each n f) xs
unfolding each
cuts_by true n f xs = from_all n f
cuts_by false n f xs = from_all 1 (λ k. xs)

cuts_all : (table : Table) (q : Request) (s : Segment) (piece : Range) → cuts_from table q s piece 0 ≡ cut_rows table q s piece
unfolding cuts_from cut_rows automatic_rows
cuts_all table q s piece =
    cuts_by (cut q) (table.count automatic) (automatic_rows_at table q s.band piece) (piece_rows q s.band s.rule piece)

shared_same : (x : Option Range) (f g : Range → List SafeDial) → ((r : Range) → f r ≡ g r) → on_shared x f ≡ on_shared x g
shared_same (Some r) f g h = h r
shared_same None f g h = refl

privilege_all : (table : Table) (q : Request) (s : Segment) (p : Privilege) → privilege_from table q s p 0 ≡ privilege_rows table q s p
unfolding privilege_from privilege_rows
privilege_all table q s p =
    ap (λ (xs : List SafeDial). cond (may_use q p) xs [])
    (shared_same (intersect_of s.range p.range) (λ r. cuts_from table q s r 0) (cut_rows table q s) (cuts_all table q s))

-- ---- cut by cut

module _ (l : List ℕ) (q : Request) (w : Search) (h : Known l q w) where
  many : (b : Bool) (n k : ℕ) → b ≡ true → k < cond b n 1 → k < n
  many true n k e m = m
  many false n k e m = absurd (false≢true e)

  pub cut_below : (k : ℕ) → k < w.cuts → w.cut ≡ true → k < count_of l automatic
  cut_below k m e = many (cut q) (count_of l automatic) k (sym h.is_cut ∙ e) (rw h.cut_count at m)

  module _ (s : Segment) (piece : Range) where
    pub cut_whole : (k : ℕ) → w.cut ≡ false → piece_rows q s.band s.rule piece ≡ cut_at (table_of l) q s piece k
    cut_whole k e =
        ap (λ (b : Bool). cond b (automatic_rows_at (table_of l) q s.band piece k) (piece_rows q s.band s.rule piece))
        (sym (sym h.is_cut ∙ e))

    pub cuts_row :
        (k : ℕ) (x : SafeDial) → k < w.cuts → cut_at (table_of l) q s piece k ≡ x ∷ []
        → cuts_from (table_of l) q s piece k ≡ x ∷ cuts_from (table_of l) q s piece (k + 1)
    unfolding cuts_from
    cuts_row k x m e = from_row (cuts (table_of l) q) k (cut_at (table_of l) q s piece) x (rw h.cut_count at m) e

    pub cuts_over :
        (k : ℕ) → k < w.cuts → cut_at (table_of l) q s piece k ≡ [] → cuts_from (table_of l) q s piece k ≡ cuts_from (table_of l) q s piece (k + 1)
    unfolding cuts_from
    cuts_over k m e = from_skip (cuts (table_of l) q) k (cut_at (table_of l) q s piece) (rw h.cut_count at m) e

    pub cuts_end : (k : ℕ) → w.cuts ≤ k → cuts_from (table_of l) q s piece k ≡ []
    unfolding cuts_from
    cuts_end k m = from_end (cuts (table_of l) q) k (cut_at (table_of l) q s piece) (rw h.cut_count at m)

-- ---- privilege by privilege

and_none : (a b : Bool) → a ≡ false → (a && b) ≡ false
and_none a b e = rw e

none_either_way : (b : Bool) (xs : List SafeDial) → xs ≡ [] → cond b xs [] ≡ []
none_either_way true xs e = e
none_either_way false xs e = refl

shared_none : (x : Option Range) (f : Range → List SafeDial) → ((r : Range) → f r ≡ []) → on_shared x f ≡ []
shared_none (Some r) f h = h r
shared_none None f h = refl

module _ (table : Table) (q : Request) (s : Segment) where
  -- past the last cut
  privilege_past : (p : Privilege) (k : ℕ) → cuts table q ≤ k → privilege_from table q s p k ≡ []
  unfolding privilege_from cuts_from
  privilege_past p k h =
      none_either_way (may_use q p) (on_shared (intersect_of s.range p.range) (λ r. cuts_from table q s r k))
      (shared_none (intersect_of s.range p.range) (λ r. cuts_from table q s r k) (λ r. from_end (cuts table q) k (cut_at table q s r) h))

  pub other_class : (r : Record) (k : ℕ) → eqb r.class q.class ≡ false → privilege_from table q s (privilege_of r) k ≡ []
  unfolding privilege_from
  other_class r k e = rw (and_none (eqb r.class q.class) (allows_of (privilege_of r).emissions Data) e)

  pub not_used : (p : Privilege) (k : ℕ) → may_use q p ≡ false → privilege_from table q s p k ≡ []
  unfolding privilege_from
  not_used p k e = ap (λ (b : Bool). cond b (on_shared (intersect_of s.range p.range) (λ r. cuts_from table q s r k)) []) e

  pub nothing_shared : (p : Privilege) (k : ℕ) → intersect_of s.range p.range ≡ None → privilege_from table q s p k ≡ []
  unfolding privilege_from
  nothing_shared p k e =
      none_either_way (may_use q p) (on_shared (intersect_of s.range p.range) (λ r. cuts_from table q s r k))
      (ap (λ (x : Option Range). on_shared x (λ r. cuts_from table q s r k)) e)

  pub used :
      (p : Privilege) (piece : Range) → may_use q p ≡ true → intersect_of s.range p.range ≡ Some piece
      → (k : ℕ) → privilege_from table q s p k ≡ cuts_from table q s piece k
  unfolding privilege_from
  used p piece e f k =
      ap (λ (b : Bool). cond b (on_shared (intersect_of s.range p.range) (λ r. cuts_from table q s r k)) []) e
      ∙ ap (λ (x : Option Range). on_shared x (λ r. cuts_from table q s r k)) f

  begun : (i : ℕ) → i < table.count privileges → privilege_from_at table q s i 0 ≡ privilege_rows_at table q s i
  begun i h = privilege_all table q s (privilege_of (table.at privileges i))

  pub privileges_over :
      (i k : ℕ) → i < table.count privileges → privilege_from_at table q s i k ≡ []
      → privileges_from table q s (spot_of i k) ≡ privileges_from table q s (spot_of (i + 1) 0)
  unfolding privileges_from
  privileges_over i k h e =
      resume_over (table.count privileges) (privilege_rows_at table q s) (privilege_from_at table q s) 0 begun i k h e

  pub privileges_row :
      (i k k' : ℕ) (x : SafeDial) → i < table.count privileges → privilege_from_at table q s i k ≡ x ∷ privilege_from_at table q s i k'
      → privileges_from table q s (spot_of i k) ≡ x ∷ privileges_from table q s (behind_of (cuts table q) i k')
  unfolding privileges_from
  privileges_row i k k' x h e =
      resume_row (table.count privileges) (privilege_rows_at table q s) (privilege_from_at table q s) i k k' x h e
      ∙ ap (λ (xs : List SafeDial). x ∷ xs) (go (dec_le (suc k') (cuts table q)))
    where
      go : Dec (suc k' ≤ cuts table q) → privileges_from table q s (spot_of i k') ≡ privileges_from table q s (behind_of (cuts table q) i k')
      go (yes b) = ap (λ (t : Bool). privileges_from table q s (cond t (spot_of i k') (spot_of (i + 1) 0))) (sym (lt-ltb k' (cuts table q) b))
      go (no b) =
          privileges_over i k' h (privilege_past (privilege_of (table.at privileges i)) k' (omega arith))
          ∙ ap (λ (t : Bool). privileges_from table q s (cond t (spot_of i k') (spot_of (i + 1) 0)))
          (sym (le-ltb k' (cuts table q) (omega arith)))

module _ (l : List ℕ) (q : Request) (s : Segment) where
  class_none : (i : ℕ) → is_of l q.class i ≡ false → privilege_rows_at (table_of l) q s i ≡ []
  class_none i e =
      sym (privilege_all (table_of l) q s (privilege_of (record_in l privileges i))) ∙ other_class (table_of l) q s (record_in l privileges i) 0 e

  pub privileges_end : (end i k : ℕ) → Past l q.class end → end ≤ i → privileges_from (table_of l) q s (spot_of i k) ≡ []
  unfolding privileges_from
  privileges_end end i k p h =
      resume_bare (count_of l privileges) (privilege_rows_at (table_of l) q s) (privilege_from_at (table_of l) q s) i k
      (λ b. other_class (table_of l) q s (record_in l privileges i) k (p.none i h b))
      (λ j a b. class_none j (p.none j (omega arith) b))

  pub privileges_all : (first : ℕ) → Ahead l q.class first → privileges_from (table_of l) q s (spot_of first 0) ≡ privileges_rows (table_of l) q s
  unfolding privileges_from privileges_rows
  privileges_all first a =
      resume_from (count_of l privileges) (privilege_rows_at (table_of l) q s) (privilege_from_at (table_of l) q s) 0 (begun (table_of l) q s) first
      ∙ sym
      (from_each (count_of l privileges) first (privilege_rows_at (table_of l) q s) a.within
      ∙ ap (λ (xs : List SafeDial). xs ++ from (count_of l privileges) (privilege_rows_at (table_of l) q s) first)
      (each_bare first (privilege_rows_at (table_of l) q s) (λ i h. class_none i (a.none i h))))

  -- ---- a segment

  segment_by : (b : Bool) → closed_of (table_of l) q s ≡ b → segment_rows (table_of l) q s ≡ cond b [] (privileges_rows (table_of l) q s)
  unfolding segment_rows
  segment_by b e = ap (λ (b : Bool). cond b [] (privileges_rows (table_of l) q s)) e

  pub segment_closed : closed_of (table_of l) q s ≡ true → segment_rows (table_of l) q s ≡ []
  segment_closed e = segment_by true e

  pub segment_open : closed_of (table_of l) q s ≡ false → segment_rows (table_of l) q s ≡ privileges_rows (table_of l) q s
  segment_open e = segment_by false e

-- what a turn over a privilege leaves: a row and what is behind it, or what the next privilege gives
abbrev pub privilege_turn : ℕ → ℕ → (Spot → List SafeDial) → Option (SafeDial × ℕ) → List SafeDial
privilege_turn n i more (Some (x, k)) = x ∷ more (behind_of n i k)
privilege_turn n i more None = more (spot_of (i + 1) 0)

module _ (l : List ℕ) (q : Request) (w : Search) (h : Known l q w) (i : ℕ) (m : i < w.end) where
  pub privilege_below : i < count_of l privileges
  privilege_below = omega (arith, m, h.past.within)

  pub privilege_turn_holds :
      (r : Record) (k : ℕ) (a : Option (SafeDial × ℕ))
      → pair_from l q r (w.privileges + record_size * i) k ≡ cut_next (pair_from l q r (w.privileges + record_size * i)) a
      → privileges_from (table_of l) q (segment_of r) (spot_of i k) ≡ privilege_turn w.cuts i (privileges_from (table_of l) q (segment_of r)) a
  privilege_turn_holds r k a e =
      go a
      (cut_same (privilege_from_at (table_of l) q (segment_of r) i) (pair_from l q r (w.privileges + record_size * i))
      (λ n. ap (λ (p : Record). privilege_from (table_of l) q (segment_of r) (privilege_of p) n) (sym read)) k a e)
    where
      read : record_at l (w.privileges + record_size * i) ≡ record_in l privileges i
      read =
          read_in l privileges i w.privileges (record_at l (w.privileges + record_size * i)) (omega arith) privilege_below
          h.privileges_from_holds refl

      go :
          (a : Option (SafeDial × ℕ))
          → privilege_from_at (table_of l) q (segment_of r) i k ≡ cut_next (privilege_from_at (table_of l) q (segment_of r) i) a
          → privileges_from (table_of l) q (segment_of r) (spot_of i k)
          ≡ privilege_turn w.cuts i (privileges_from (table_of l) q (segment_of r)) a
      go (Some (x, n)) d =
          privileges_row (table_of l) q (segment_of r) i k n x privilege_below d
          ∙ ap (λ (c : ℕ). x ∷ privileges_from (table_of l) q (segment_of r) (behind_of c i n)) (sym h.cut_count)
      go None d = privileges_over (table_of l) q (segment_of r) i k privilege_below d

module _ (l : List ℕ) (q : Request) (w : Search) (h : Known l q w) (i : ℕ) (m : i < w.segment_count) where
  segment_below : i < count_of l segments
  segment_below = omega (arith, m, h.segment_count)

  -- the segment that begins at its place
  pub segment_read : (r : Record) → r ≡ record_at l (w.segments + record_size * i) → segment_rows (table_of l) q (segment_of r) ≡ segment_rows_at (table_of l) q i
  segment_read r e =
      ap (λ (x : Record). segment_rows (table_of l) q (segment_of x))
      (read_in l segments i w.segments r (omega arith) segment_below h.segments_from e)

pub data_all : (l : List ℕ) (q : Request) (w : Search) → Known l q w → from w.segment_count (segment_rows_at (table_of l) q) 0 ≡ data_rows (table_of l) q
unfolding data_rows
data_all l q w h = ap (λ (n : ℕ). from n (segment_rows_at (table_of l) q) 0) h.segment_count ∙ from_all (count_of l segments) (segment_rows_at (table_of l) q)

-- ---- channel by channel

open_by : (b : Bool) (n : ℕ) (f : ℕ → List SafeDial) → from (cond b n 0) f 0 ≡ cond b (each n f) []
unfolding each
open_by true n f = from_all n f
open_by false n f = from_all 0 f

pub count_most : (table : Table) (q : Request) (b : Option Channels) (n : ℕ) → n ≡ channel_count_of table q b → n ≤ table.count channels
count_most table q (Some c) n e = go (channels_open q && channel_found table q) e
  where
    go : (b : Bool) → n ≡ cond b (table.count channels) 0 → n ≤ table.count channels
    go true d = omega arith
    go false d = omega arith
count_most table q None n e = omega arith

pub band_all :
    (table : Table) (q : Request) (c : Channels) (n : ℕ) → n ≡ channel_count_of table q (Some c)
    → channels_from table q c n 0 ≡ open_rows table q c
unfolding open_rows channel_rows
band_all table q c n e = rw e (open_by (channels_open q && channel_found table q) (table.count channels) (channel_rows_at table q c))
