-- What can be asked of one record. A scan of a table asks one question of each record in turn.
use Rattle.std.specs.Prelude.{ℕ, ◌+◌, ◌*◌, Bool, false, not, cond, ◌&&◌, List, eqb, Option, Some, None, Float}
use Rattle.std.specs.Float.Ieee.{le}
use Rattle.figures.specs.Figure.{zero_hz, limit40, negative_zero_bits, in_size, figure_of}
use Rattle.profile.specs.Range.{holds_of, overlaps_of, lengthy, share_of, channel_range_of}
use Rattle.layout.specs.Layout.{record_size, bands, segments, record_at}
use Rattle.layout.specs.declared.Record.{Record}
use Rattle.coded.specs.Coded.{coded_of}
use Rattle.table.specs.Parts.{span_of, own_limit_of, centre_of}
use Rattle.table.specs.Table.{Table}
use Rattle.scan.specs.First.{first, some, is_at, on_found}
use Rattle.find.specs.declared.Question.{Question}
use Rattle.find.specs.declared.Question.TheVariants.{Miscoded, Unsound, NotLengthy, NoLimit, Holds, Overlaps, Shares}
use Rattle.find.specs.declared.Question.TheVariants.{OfBand, BandHolds, ClassHolds, ClassShares, ChannelOverlaps}

-- "a figure not finite, above 2^40 in size, or negative zero", by its bits
unfoldable pub sound_bits : ℕ → Bool
sound_bits b = in_size limit40 (figure_of b) && not (eqb b negative_zero_bits)

unfoldable pub sound_record : Record → Bool
sound_record r = sound_bits r.low && (sound_bits r.high && sound_bits r.figure)

-- "own limit ≤ 0"
abbrev pub no_limit : Option Float → Bool
no_limit (Some max) = le max zero_hz
no_limit None = false

unfoldable pub asks : Question → Record → Bool
asks (Miscoded t) r = not (coded_of t r)
asks Unsound r = not (sound_record r)
asks NotLengthy r = not (lengthy (span_of r))
asks NoLimit r = no_limit (own_limit_of r)
asks (Holds a) r = holds_of (span_of r) a
asks (Overlaps a) r = overlaps_of (span_of r) a
asks (Shares a) r = share_of (span_of r) a
asks (OfBand n) r = eqb r.band n
asks (BandHolds n a) r = eqb r.band n && holds_of (span_of r) a
asks (ClassHolds n a) r = eqb r.class n && holds_of (span_of r) a
asks (ClassShares n a) r = eqb r.class n && share_of (span_of r) a
asks (ChannelOverlaps width a) r = overlaps_of (channel_range_of width (centre_of r)) a

-- a question asked of the records that stand from a place on
abbrev pub asks_at : List ℕ → ℕ → Question → ℕ → Bool
asks_at l start q i = asks q (record_at l (start + record_size * i))

-- a question asked of the records of table t: the first that passes, and whether one does
abbrev pub first_in : Table → ℕ → Question → Option ℕ
first_in table t q = first (λ i. asks q (table.at t i)) (table.count t)

abbrev pub some_in : Table → ℕ → Question → Bool
some_in table t q = is_at (first_in table t q)

-- the first record that passes, with its index
unfoldable pub pick_in : Table → ℕ → Question → Option (ℕ × Record)
pick_in table t q = on_found (first_in table t q) (λ i. Some (i, table.at t i)) None

-- which bands a segment asks for: those that hold it, of whatever number or of its own
abbrev pub home_question : Bool → Record → Question
home_question own r = cond own (BandHolds r.band (span_of r)) (Holds (span_of r))

abbrev pub homeless_at : Table → Bool → ℕ → Bool
homeless_at table own i = not (some_in table bands (home_question own (table.at segments i)))

-- "a segment in no band", of whatever number or of its own
abbrev pub homeless_of : Table → Bool → Bool
homeless_of table own = some (homeless_at table own) (table.count segments)
