-- How many rows there can be, that their dials are figures of a double and the lower one a number, and the request and its flags by cases.
use Rattle.std.specs.Prelude.{ℕ, ◌+◌, ◌*◌, ◌≤◌, Bool, true, false, cond, ◌&&◌, ◌||◌, List, [], ◌∷◌, ◌++◌, ◌≡◌, refl, T, length, Float, Option, Some, None}
use Rattle.std.proofs.Common.{arith, length-append}
use Rattle.std.specs.Float.{nan, inf, fin, binary64}
use Rattle.std.specs.Float.Ieee.{fits, is_nan, add, sub, le}
use Rattle.std.specs.Float.Ieee.Fits.{add-fits, sub-fits}
use Rattle.codes.specs.Code.{class_code}
use Rattle.codes.specs.declared.LicenseClass.{LicenseClass}
use Rattle.codes.specs.declared.ControlMode.{ControlMode}
use Rattle.codes.specs.declared.Direction.{Direction}
use Rattle.codes.specs.declared.Sideband.{Sideband}
use Rattle.codes.specs.declared.Sideband.TheVariants.{Usb, Lsb}
use Rattle.profile.specs.Range.{holds_of, intersect_of, channel_range_of}
use Rattle.profile.specs.declared.Range.{Range}
use Rattle.profile.specs.declared.DataLimit.{DataLimit}
use Rattle.scan.specs.Laws.{and_true}
use Rattle.air.specs.Air.{rf_range_of, guarded_of, width_of, dial_range_of, dial_ends_of}
use Rattle.air.specs.declared.Margins.{Margins}
use Rattle.layout.specs.Layout.{segments, channels, privileges, automatic, count_of, general_of}
use Rattle.layout.specs.declared.General.{General}
use Rattle.layout.specs.Form.{Whole}
use Rattle.table.specs.Table.{record_in, table_of}
use Rattle.table.specs.Parts.{span_of, segment_of, centre_of, privilege_of, data_of, elsewhere_of, channels_of}
use Rattle.table.specs.declared.Segment.{Segment}
use Rattle.table.specs.declared.Privilege.{Privilege}
use Rattle.table.specs.declared.Channels.{Channels}
use Rattle.table.specs.declared.Elsewhere.{Elsewhere}
use Rattle.automatic_97_221.specs.Automatic.{applies_of, elsewhere_allows}
use Rattle.lists.specs.Each.{each}
use Rattle.lists.specs.Laws.{Every, each_few, every_append, every_each, every_map}
use Rattle.rows.specs.Back.{LowNumber}
use Rattle.rows.specs.declared.SafeDial.{SafeDial}
use Rattle.dial_rows.specs.Dials.{request_of, dial_rows, piece_rows, on_shared, automatic_rows_at, automatic_rows, cut, cut_rows}
use Rattle.dial_rows.specs.Dials.{may_use, privilege_rows, privilege_rows_at, too_wide, excluded_band, privileges_rows}
use Rattle.dial_rows.specs.Dials.{segment_rows, segment_rows_at, data_rows, channel_dial, channel_holds, channel_safe, channel_row}
use Rattle.dial_rows.specs.Dials.{channel_rows_at, channels_open, channel_found, channel_rows, open_rows, band_rows, rows_of}
use Rattle.order.specs.Greater.{le_number}
use Rattle.dial_rows.specs.declared.Request.{Request}

-- ---- how many rows

cond_few : (b : Bool) (xs ys : List SafeDial) (k : ℕ) → length xs ≤ k → length ys ≤ k → length (cond b xs ys) ≤ k
cond_few true xs ys k p q = p
cond_few false xs ys k p q = q

cond_one : (b : Bool) (x : SafeDial) → length (cond b (x ∷ []) []) ≤ 1
cond_one true x = omega arith
cond_one false x = omega arith

dial_few : (band rule : ℕ) (piece : Range) (d : Option Range) → length (dial_rows band rule piece d) ≤ 1
dial_few band rule piece (Some ends) = omega arith
dial_few band rule piece None = omega arith

piece_few : (q : Request) (band rule : ℕ) (piece : Range) → length (piece_rows q band rule piece) ≤ 1
unfolding piece_rows
piece_few q band rule piece = dial_few band rule piece (dial_range_of piece q.sideband q.audio q.margin)

shared_few : (s : Option Range) (f : Range → List SafeDial) (k : ℕ) → ((r : Range) → length (f r) ≤ k) → length (on_shared s f) ≤ k
shared_few (Some piece) f k h = h piece
shared_few None f k h = omega arith

automatic_at_few : (l : List ℕ) (q : Request) (band : ℕ) (piece : Range) (a : ℕ) → length (automatic_rows_at (table_of l) q band piece a) ≤ 1
automatic_at_few l q band piece a = shared_few (intersect_of piece (span_of (record_in l automatic a)))
    (piece_rows q band q.segments_rule) 1 (piece_few q band q.segments_rule)

automatic_few : (l : List ℕ) → Whole l → (q : Request) (band : ℕ) (piece : Range) → length (automatic_rows (table_of l) q band piece) ≤ 256
unfolding automatic_rows
automatic_few l w q band piece =
    let a : length (each (count_of l automatic) (automatic_rows_at (table_of l) q band piece)) ≤ count_of l automatic * 1 =
    each_few (count_of l automatic) 1 (automatic_rows_at (table_of l) q band piece) (automatic_at_few l q band piece) in
    let b : count_of l automatic ≤ 256 = w.few automatic (omega arith) in
    omega arith

cut_few : (l : List ℕ) → Whole l → (q : Request) (s : Segment) (piece : Range) → length (cut_rows (table_of l) q s piece) ≤ 256
unfolding cut_rows
cut_few l w q s piece =
    let a : length (piece_rows q s.band s.rule piece) ≤ 1 = piece_few q s.band s.rule piece in
    cond_few (cut q) (automatic_rows (table_of l) q s.band piece)
    (piece_rows q s.band s.rule piece) 256 (automatic_few l w q s.band piece) (omega arith)

privilege_few : (l : List ℕ) → Whole l → (q : Request) (s : Segment) (p : Privilege) → length (privilege_rows (table_of l) q s p) ≤ 256
unfolding privilege_rows
privilege_few l w q s p =
    cond_few (may_use q p) (on_shared (intersect_of s.range p.range) (cut_rows (table_of l) q s)) [] 256
    (shared_few (intersect_of s.range p.range) (cut_rows (table_of l) q s) 256 (cut_few l w q s))
    (omega arith)

pub privileges_few : (l : List ℕ) → Whole l → (q : Request) (s : Segment) → length (privileges_rows (table_of l) q s) ≤ 65536
unfolding privileges_rows
privileges_few l w q s =
    let a : length (each (count_of l privileges) (privilege_rows_at (table_of l) q s)) ≤ count_of l privileges * 256 =
    each_few (count_of l privileges) 256 (privilege_rows_at (table_of l) q s) (λ i. privilege_few l w q s (privilege_of (record_in l privileges i))) in
    let b : count_of l privileges ≤ 256 = w.few privileges (omega arith) in
    omega arith

segment_few : (l : List ℕ) → Whole l → (q : Request) (s : Segment) → length (segment_rows (table_of l) q s) ≤ 65536
unfolding segment_rows
segment_few l w q s =
    cond_few (too_wide q s || excluded_band (table_of l) q s) [] (privileges_rows (table_of l) q s) 65536 (omega arith) (privileges_few l w q s)

pub data_few : (l : List ℕ) → Whole l → (q : Request) → length (data_rows (table_of l) q) ≤ 16777216
unfolding data_rows
data_few l w q =
    let a : length (each (count_of l segments) (segment_rows_at (table_of l) q)) ≤ count_of l segments * 65536 =
    each_few (count_of l segments) 65536 (segment_rows_at (table_of l) q) (λ i. segment_few l w q (segment_of (record_in l segments i))) in
    let b : count_of l segments ≤ 256 = w.few segments (omega arith) in
    omega arith

channel_few : (q : Request) (c : Channels) (centre : Float) → length (channel_row q c centre) ≤ 1
unfolding channel_row
channel_few q c centre = cond_one (channel_holds q c centre) (channel_safe c centre)

pub open_few : (l : List ℕ) → Whole l → (q : Request) (c : Channels) → length (open_rows (table_of l) q c) ≤ 256
unfolding open_rows channel_rows
open_few l w q c =
    let a : length (each (count_of l channels) (channel_rows_at (table_of l) q c)) ≤ count_of l channels * 1 =
    each_few (count_of l channels) 1 (channel_rows_at (table_of l) q c) (λ i. channel_few q c (centre_of (record_in l channels i))) in
    let b : count_of l channels ≤ 256 = w.few channels (omega arith) in
    cond_few (channels_open q && channel_found (table_of l) q) (channel_rows (table_of l) q c) [] 256 (omega arith) (omega arith)

pub band_few : (l : List ℕ) → Whole l → (q : Request) (b : Option Channels) → length (band_rows (table_of l) q b) ≤ 256
band_few l w q (Some c) = open_few l w q c
band_few l w q None = omega arith

pub gathered_few :
    (l : List ℕ) → Whole l → (q : Request) (b : Option Channels) → length (data_rows (table_of l) q ++ band_rows (table_of l) q b) ≤ 16777472
gathered_few l w q b =
    let s : length (data_rows (table_of l) q ++ band_rows (table_of l) q b) ≡ length (data_rows (table_of l) q) + length (band_rows (table_of l) q b) =
    length-append (data_rows (table_of l) q) (band_rows (table_of l) q b) in
    omega (arith, data_few l w q, band_few l w q b)

-- ---- both dials of every row are figures that a double holds, and the lower one is a number

abbrev pub DialsFit : SafeDial → Type 0
DialsFit x = T (fits binary64 x.dial_low_hz) × T (fits binary64 x.dial_high_hz) × (is_nan x.dial_low_hz ≡ false)

abbrev pub RangeFits : Range → Type 0
RangeFits r = T (fits binary64 r.low_hz) × T (fits binary64 r.high_hz)

cond_fit : (b : Bool) (xs ys : List SafeDial) → Every DialsFit xs → Every DialsFit ys → Every DialsFit (cond b xs ys)
cond_fit true xs ys p q = p
cond_fit false xs ys p q = q

pub ends_fit : (piece : Range) (s : Sideband) (audio : Range) (margin : Margins) → RangeFits (dial_ends_of piece s audio margin)
ends_fit piece Usb audio margin = (
  add-fits binary64 (sub binary64 piece.low_hz audio.low_hz) margin.lower_hz,
  sub-fits binary64 (sub binary64 piece.high_hz audio.high_hz) margin.upper_hz,
)
ends_fit piece Lsb audio margin = (
  add-fits binary64 (add binary64 piece.low_hz audio.high_hz) margin.lower_hz,
  sub-fits binary64 (add binary64 piece.high_hz audio.low_hz) margin.upper_hz,
)

dial_fit :
    (band rule : ℕ) (piece : Range) (ends : Range) (b : Bool) → RangeFits ends → (b ≡ true → is_nan ends.low_hz ≡ false)
    → Every DialsFit (dial_rows band rule piece (cond b (Some ends) None))
dial_fit band rule piece ends true h n = ((h.0, h.1, n refl), tt)
dial_fit band rule piece ends false h n = tt

piece_fit : (q : Request) (band rule : ℕ) (piece : Range) → Every DialsFit (piece_rows q band rule piece)
unfolding piece_rows
piece_fit q band rule piece =
    dial_fit band rule piece (dial_ends_of piece q.sideband q.audio q.margin)
    (le (dial_ends_of piece q.sideband q.audio q.margin).low_hz (dial_ends_of piece q.sideband q.audio q.margin).high_hz)
    (ends_fit piece q.sideband q.audio q.margin)
    (λ e. (le_number (dial_ends_of piece q.sideband q.audio q.margin).low_hz _ e).0)

shared_fit : (s : Option Range) (f : Range → List SafeDial) → ((r : Range) → Every DialsFit (f r)) → Every DialsFit (on_shared s f)
shared_fit (Some piece) f h = h piece
shared_fit None f h = tt

automatic_fit : (l : List ℕ) (q : Request) (band : ℕ) (piece : Range) → Every DialsFit (automatic_rows (table_of l) q band piece)
unfolding automatic_rows
automatic_fit l q band piece =
    every_each DialsFit (count_of l automatic) (automatic_rows_at (table_of l) q band piece)
    (λ a. shared_fit (intersect_of piece (span_of (record_in l automatic a))) (piece_rows q band q.segments_rule) (piece_fit q band q.segments_rule))

cut_fit : (l : List ℕ) (q : Request) (s : Segment) (piece : Range) → Every DialsFit (cut_rows (table_of l) q s piece)
unfolding cut_rows
cut_fit l q s piece =
    cond_fit (cut q) (automatic_rows (table_of l) q s.band piece) (piece_rows q s.band s.rule piece)
    (automatic_fit l q s.band piece)
    (piece_fit q s.band s.rule piece)

privilege_fit : (l : List ℕ) (q : Request) (s : Segment) (p : Privilege) → Every DialsFit (privilege_rows (table_of l) q s p)
unfolding privilege_rows
privilege_fit l q s p =
    cond_fit (may_use q p) (on_shared (intersect_of s.range p.range) (cut_rows (table_of l) q s)) []
    (shared_fit (intersect_of s.range p.range) (cut_rows (table_of l) q s) (cut_fit l q s))
    tt

segment_fit : (l : List ℕ) (q : Request) (s : Segment) → Every DialsFit (segment_rows (table_of l) q s)
unfolding segment_rows privileges_rows
segment_fit l q s =
    cond_fit (too_wide q s || excluded_band (table_of l) q s) [] (privileges_rows (table_of l) q s) tt
    (every_each DialsFit (count_of l privileges) (privilege_rows_at (table_of l) q s) (λ p. privilege_fit l q s (privilege_of (record_in l privileges p))))

data_fit : (l : List ℕ) (q : Request) → Every DialsFit (data_rows (table_of l) q)
unfolding data_rows
data_fit l q = every_each DialsFit (count_of l segments) (segment_rows_at (table_of l) q) (λ s. segment_fit l q (segment_of (record_in l segments s)))

one_fit : (b : Bool) (x : SafeDial) → (b ≡ true → DialsFit x) → Every DialsFit (cond b (x ∷ []) [])
one_fit true x h = (h refl, tt)
one_fit false x h = tt

-- at a dial that is no number the signal lies in no range
held_number :
    (dial : Float) (s : Sideband) (audio : Range) (margin : Margins) (r : Range)
    → holds_of r (guarded_of margin (rf_range_of dial s audio)) ≡ true → is_nan dial ≡ false
unfolding is_nan add sub
held_number nan Usb audio margin r e = (le_number r.low_hz nan (and_true (le r.low_hz nan) _ e).0).1
held_number nan Lsb audio margin r e = (le_number r.low_hz nan (and_true (le r.low_hz nan) _ e).0).1
held_number (inf t) s audio margin r e = refl
held_number (fin t m d) s audio margin r e = refl

channel_fit : (q : Request) (c : Channels) (centre : Float) → Every DialsFit (channel_row q c centre)
unfolding channel_row
channel_fit q c centre =
    let f : T (fits binary64 (channel_dial c centre)) = sub-fits binary64 centre c.carrier_offset_hz in
    one_fit (channel_holds q c centre) (channel_safe c centre)
    (λ e. (f, f, held_number (channel_dial c centre) q.sideband q.audio q.margin (channel_range_of c.width_hz centre) e))

band_fit : (l : List ℕ) (q : Request) (b : Option Channels) → Every DialsFit (band_rows (table_of l) q b)
unfolding open_rows channel_rows
band_fit l q (Some c) =
    cond_fit (channels_open q && channel_found (table_of l) q) (channel_rows (table_of l) q c) []
    (every_each DialsFit (count_of l channels) (channel_rows_at (table_of l) q c) (λ i. channel_fit q c (centre_of (record_in l channels i))))
    tt
band_fit l q None = tt

pub gathered_fit : (l : List ℕ) (q : Request) (b : Option Channels) → Every DialsFit (data_rows (table_of l) q ++ band_rows (table_of l) q b)
gathered_fit l q b = every_append DialsFit (data_rows (table_of l) q) (band_rows (table_of l) q b) (data_fit l q) (band_fit l q b)

-- each lower dial alone, which the insertion reads back and compares
pub gathered_low : (l : List ℕ) (q : Request) (b : Option Channels) → Every LowNumber (data_rows (table_of l) q ++ band_rows (table_of l) q b)
gathered_low l q b = every_map DialsFit LowNumber (λ x h. (h.0, h.2)) (data_rows (table_of l) q ++ band_rows (table_of l) q b) (gathered_fit l q b)

pub rows_fit : (l : List ℕ) (q : Request) → Every DialsFit (rows_of (table_of l) q)
unfolding rows_of
rows_fit l q = gathered_fit l q (channels_of (general_of l))

-- ---- the request, from its parts

pub request_made :
    (g : General) (license : LicenseClass) (sideband : Sideband) (control : ControlMode) (direction : Direction) (margin : Margins) (audio : Range)
    (class : ℕ) (width : Float) (automatic : Bool) (elsewhere : Option Elsewhere) (ok : Bool) (d : DataLimit)
    → class ≡ class_code license → width ≡ width_of audio → automatic ≡ applies_of control direction → elsewhere ≡ elsewhere_of g
    → ok ≡ elsewhere_allows elsewhere width direction → d ≡ data_of g
    → ◌≡◌ {A = Request}
    (record {
      class = class;
      sideband = sideband;
      audio = audio;
      width_hz = width;
      margin = margin;
      automatic = automatic;
      elsewhere_ok = ok;
      «data» = d;
      segments_rule = g.automatic_rule;
    })
    (request_of g license sideband control direction margin audio)
unfolding request_of
request_made g license sideband control direction margin audio class width automatic elsewhere ok d a b c e f h =
    rw a (rw f (rw b (rw c (rw e (rw h)))))
