-- The bytes of an image, number after number: general block, watts of edition 2, records, counts, and the trailer's end.
use Rattle.std.specs.Prelude.{ℕ, ◌+◌, ◌*◌, cond, List, [], ◌∷◌, ◌++◌, map, eqb}
use Rattle.layout.specs.Layout.{general_size, watts_size, record_size, tables}
use Rattle.layout.specs.Form.{letters}
use Rattle.layout.specs.declared.Record.{Record}
use Rattle.layout.specs.declared.General.{General}
use Rattle.lists.specs.Each.{each}
use Rattle.byte_writes.specs.Bytes.{little}
use Rattle.given.specs.Given.{Runs, count_from, before_from, record_from}

-- numbers one after the other, each with the width of bytes before it
unfoldable pub littles : List (ℕ × ℕ) → List ℕ
littles [] = []
littles (x ∷ xs) = little x.0 x.1 ++ littles xs

-- "Record: 0 low, 8 high, 16 figure (f64); bytes 24 band, 25 class, 26 emission bits, 27 flags; u16 at 28 rule, 30 second rule."
unfoldable pub record_bytes : Record → List ℕ
record_bytes r =
    littles
    ((8, r.low) ∷ (8, r.high) ∷ (8, r.figure) ∷ (1, r.band) ∷ (1, r.class) ∷ (1, r.emissions) ∷ (1, r.flags)
    ∷ (2, r.rule) ∷ (2, r.second_rule) ∷ [])

-- "General: 0 data limit, 8 elsewhere limit, 16 channel width, 24 carrier offset, 32 carrier tolerance (f64 each); bytes 40 region,
-- 41 reading …, 42 flags …, 43 channel band, 44 sideband …, 45 emission bits; u16 rules at 46 data, 48 elsewhere,
-- 50 automatic segments, 52 channels, 54 emissions, 56 privileges", and the unused bytes from 58 on
unfoldable pub block_bytes : General → List ℕ
block_bytes g =
    littles
    ((8, g.data_limit) ∷ (8, g.elsewhere_limit) ∷ (8, g.channel_width) ∷ (8, g.carrier_offset) ∷ (8, g.carrier_tolerance)
    ∷ (1, g.region) ∷ (1, g.reading) ∷ (1, g.flags) ∷ (1, g.channel_band) ∷ (1, g.sideband) ∷ (1, g.emissions)
    ∷ (2, g.data_rule) ∷ (2, g.elsewhere_rule) ∷ (2, g.automatic_rule) ∷ (2, g.channels_rule) ∷ (2, g.emissions_rule)
    ∷ (2, g.privileges_rule) ∷ (2, g.unused) ∷ (4, g.unused_rest) ∷ [])

-- "channel watts at 64 and segment watts at 72"
unfoldable pub watts_bytes : ℕ → ℕ → List ℕ
watts_bytes channel segment = littles ((8, channel) ∷ (8, segment) ∷ [])

-- those that an edition has
abbrev pub more_bytes : ℕ → General → List ℕ
more_bytes edition g = cond (eqb edition 2) (watts_bytes g.channel_watts g.segment_watts) []

-- "Trailer: nine u16 counts, …": the first t
abbrev pub count_bytes : List ℕ → ℕ → List ℕ
count_bytes n t = each t (λ i. little 2 (count_from n i))

-- "… a u32 distance from the trailer's start back to the first byte, u16 edition …, and the ASCII letters EDGE."
unfoldable pub end_bytes : ℕ → ℕ → List ℕ
end_bytes distance edition = littles ((4, distance) ∷ (2, edition) ∷ map (λ letter. (1, letter)) letters)

-- the first so many records
abbrev pub records_bytes : Runs → ℕ → List ℕ
records_bytes r count = each count (λ k. record_bytes (record_from r k))

-- where the tables begin, and where the trailer does
abbrev pub tables_at : ℕ → ℕ
tables_at edition = cond (eqb edition 2) (general_size + watts_size) general_size

abbrev pub trailer_at : ℕ → List ℕ → ℕ
trailer_at edition n = tables_at edition + record_size * before_from n tables

-- the image of an edition, a general block, nine counts and the records of the runs
unfoldable pub image_of : ℕ → General → List ℕ → Runs → List ℕ
image_of edition g n r =
    block_bytes g ++ (more_bytes edition g ++ (records_bytes r (before_from n tables)
    ++ (count_bytes n tables ++ end_bytes (trailer_at edition n) edition)))
