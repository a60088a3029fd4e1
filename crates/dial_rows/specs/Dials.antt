-- The rows of a dial list, before they are sorted, from an accepted table: segment by segment, privilege by privilege, under 97.221(b)
-- automatic segment by automatic segment, and then the 60 m channels. The margins enter through the guarded range and the dial range.
use Rattle.std.specs.Prelude.{ℕ, Bool, true, false, not, cond, ◌&&◌, ◌||◌, List, [], ◌∷◌, ◌++◌, eqb, Float, Option, Some, None}
use Rattle.std.specs.Float.{binary64}
use Rattle.std.specs.Float.Ieee.{sub, le}
use Rattle.codes.specs.Code.{class_code}
use Rattle.codes.specs.declared.LicenseClass.{LicenseClass}
use Rattle.codes.specs.declared.Sideband.{Sideband}
use Rattle.codes.specs.declared.Sideband.TheVariants.{Usb, Lsb}
use Rattle.codes.specs.declared.ControlMode.{ControlMode}
use Rattle.codes.specs.declared.Direction.{Direction}
use Rattle.codes.specs.declared.EmissionKind.TheVariants.{Data}
use Rattle.profile.specs.Range.{range, holds_of, intersect_of, channel_range_of}
use Rattle.profile.specs.Limit.{data_limit_of, allows_of}
use Rattle.profile.specs.declared.Range.{Range}
use Rattle.air.specs.Air.{rf_range_of, guarded_of, width_of, wider, dial_range_of}
use Rattle.air.specs.declared.Margins.{Margins}
use Rattle.scan.specs.First.{some}
use Rattle.layout.specs.Layout.{segments, channels, privileges, automatic, excluded}
use Rattle.layout.specs.declared.General.{General}
use Rattle.layout.specs.declared.Record.{Record}
use Rattle.table.specs.Table.{Table}
use Rattle.table.specs.Parts.{span_of, segment_of, centre_of, privilege_of, data_of, elsewhere_of, channels_of}
use Rattle.table.specs.declared.Segment.{Segment}
use Rattle.table.specs.declared.Privilege.{Privilege}
use Rattle.table.specs.declared.Channels.{Channels}
use Rattle.find.specs.Question.{some_in}
use Rattle.find.specs.declared.Question.TheVariants.{OfBand}
use Rattle.automatic_97_221.specs.Automatic.{applies_of, elsewhere_allows}
use Rattle.lists.specs.Each.{each}
use Rattle.rows.specs.declared.SafeDial.{SafeDial}
use Rattle.dial_rows.specs.declared.Request.{Request}

-- what a list is made for: the signal as it is read, and what the general block says of it
unfoldable pub request_of : General → LicenseClass → Sideband → ControlMode → Direction → Margins → Range → Request
request_of g license sideband control direction margin audio =
    record {
      class = class_code license;
      sideband = sideband;
      audio = audio;
      width_hz = width_of audio;
      margin = margin;
      automatic = applies_of control direction;
      elsewhere_ok = elsewhere_allows (elsewhere_of g) (width_of audio) direction;
      «data» = data_of g;
      segments_rule = g.automatic_rule;
    }

-- ---- one row

-- a row: the piece and its band and rule, and the dials that keep the signal in the piece
abbrev pub safe_dial : ℕ → ℕ → Range → Range → SafeDial
safe_dial band rule piece dials =
    record {
      band = band;
      segment = piece;
      rule = rule;
      dial_low_hz = dials.low_hz;
      dial_high_hz = dials.high_hz;
    }

-- "`dial_range` low ≤ high": else there is no row
abbrev pub dial_rows : ℕ → ℕ → Range → Option Range → List SafeDial
dial_rows band rule piece (Some ends) = safe_dial band rule piece ends ∷ []
dial_rows band rule piece None = []

-- the dials that put the guarded signal inside a piece: (low − audio) + lower margin, in that order
unfoldable pub piece_rows : Request → ℕ → ℕ → Range → List SafeDial
piece_rows q band rule piece = dial_rows band rule piece (dial_range_of piece q.sideband q.audio q.margin)

-- what becomes of the stretch that two ranges share: "`intersect` needs low < high"
abbrev pub on_shared : Option Range → (Range → List SafeDial) → List SafeDial
on_shared (Some piece) f = f piece
on_shared None f = []

-- ---- data segments

-- 97.221(b): a piece inside each automatic segment, with the rule for these
abbrev pub automatic_rows_at : Table → Request → ℕ → Range → ℕ → List SafeDial
automatic_rows_at table q band piece a = on_shared (intersect_of piece (span_of (table.at automatic a))) (piece_rows q band q.segments_rule)

unfoldable pub automatic_rows : Table → Request → ℕ → Range → List SafeDial
automatic_rows table q band piece = each (table.count automatic) (automatic_rows_at table q band piece)

-- 97.221: cut to the automatic segments where it applies and 97.221(c) does not help; else whole, with the segment's rule
abbrev pub cut : Request → Bool
cut q = q.automatic && not q.elsewhere_ok

unfoldable pub cut_rows : Table → Request → Segment → Range → List SafeDial
cut_rows table q s piece = cond (cut q) (automatic_rows table q s.band piece) (piece_rows q s.band s.rule piece)

-- 97.301, 97.307(f)(9): a privilege of the class, with data among its emissions
abbrev pub may_use : Request → Privilege → Bool
may_use q p = eqb p.class q.class && allows_of p.emissions Data

-- 97.307(b): the signal stays inside the piece that a segment and a privilege share
unfoldable pub privilege_rows : Table → Request → Segment → Privilege → List SafeDial
privilege_rows table q s p = cond (may_use q p) (on_shared (intersect_of s.range p.range) (cut_rows table q s)) []

abbrev pub privilege_rows_at : Table → Request → Segment → ℕ → List SafeDial
privilege_rows_at table q s p = privilege_rows table q s (privilege_of (table.at privileges p))

-- each privilege of the class, in table order
unfoldable pub privileges_rows : Table → Request → Segment → List SafeDial
privileges_rows table q s = each (table.count privileges) (privilege_rows_at table q s)

-- 97.307(f)(2), (3), (5): the signal is wider than the segment's limit, its own or the general one
abbrev pub too_wide : Request → Segment → Bool
too_wide q s = wider q.width_hz (data_limit_of s.own s.second q.«data»).max_bandwidth_hz

-- 97.221: automatic control is not allowed in the segment's band
abbrev pub excluded_band : Table → Request → Segment → Bool
excluded_band table q s = q.automatic && some_in table excluded (OfBand s.band)

-- a segment that is passed over gives no row
unfoldable pub segment_rows : Table → Request → Segment → List SafeDial
segment_rows table q s = cond (too_wide q s || excluded_band table q s) [] (privileges_rows table q s)

-- 97.305(c): each data segment, in table order
abbrev pub segment_rows_at : Table → Request → ℕ → List SafeDial
segment_rows_at table q s = segment_rows table q (segment_of (table.at segments s))

unfoldable pub data_rows : Table → Request → List SafeDial
data_rows table q = each (table.count segments) (segment_rows_at table q)

-- ---- 60 m channels (97.303(h)(3))

-- a channel's centre lies under a privilege
abbrev pub centre_span : Record → Range
centre_span r = range (centre_of r) (centre_of r)

abbrev pub centre_held : Table → Range → ℕ → Bool
centre_held table r c = holds_of r (centre_span (table.at channels c))

abbrev pub some_centre : Table → Request → Privilege → Bool
some_centre table q p = may_use q p && some (centre_held table p.range) (table.count channels)

abbrev pub some_centre_at : Table → Request → ℕ → Bool
some_centre_at table q p = some_centre table q (privilege_of (table.at privileges p))

-- "as soon as one channel under one privilege that allows data is found"
unfoldable pub channel_found : Table → Request → Bool
channel_found table q = some (some_centre_at table q) (table.count privileges)

abbrev pub is_upper : Sideband → Bool
is_upper Usb = true
is_upper Lsb = false

-- "and the other tests in `safe_dials` pass": 97.221 does not apply, the general width, the upper sideband
abbrev pub channels_open : Request → Bool
channels_open q = not q.automatic && (le q.width_hz q.«data».max_bandwidth_hz && is_upper q.sideband)

-- the one dial of a channel, if the channel holds the guarded signal there
abbrev pub channel_dial : Channels → Float → Float
channel_dial c centre = sub binary64 centre c.carrier_offset_hz

abbrev pub channel_holds : Request → Channels → Float → Bool
channel_holds q c centre =
    holds_of (channel_range_of c.width_hz centre) (guarded_of q.margin (rf_range_of (channel_dial c centre) q.sideband q.audio))

abbrev pub channel_safe : Channels → Float → SafeDial
channel_safe c centre =
    safe_dial c.band c.rule (channel_range_of c.width_hz centre) (range (channel_dial c centre) (channel_dial c centre))

unfoldable pub channel_row : Request → Channels → Float → List SafeDial
channel_row q c centre = cond (channel_holds q c centre) (channel_safe c centre ∷ []) []

abbrev pub channel_rows_at : Table → Request → Channels → ℕ → List SafeDial
channel_rows_at table q c i = channel_row q c (centre_of (table.at channels i))

-- every channel, once one is found
unfoldable pub channel_rows : Table → Request → Channels → List SafeDial
channel_rows table q c = each (table.count channels) (channel_rows_at table q c)

unfoldable pub open_rows : Table → Request → Channels → List SafeDial
open_rows table q c = cond (channels_open q && channel_found table q) (channel_rows table q c) []

abbrev pub band_rows : Table → Request → Option Channels → List SafeDial
band_rows table q (Some c) = open_rows table q c
band_rows table q None = []

-- ---- the whole list

-- every row that is searched for: the data segments, then the channels of a band
abbrev pub searched_rows : Table → Request → Option Channels → List SafeDial
searched_rows table q band = data_rows table q ++ band_rows table q band

-- every row, in the order of the Rust before it sorts: the data segments, then the channels
unfoldable pub rows_of : Table → Request → List SafeDial
rows_of table q = data_rows table q ++ band_rows table q (channels_of table.general)
