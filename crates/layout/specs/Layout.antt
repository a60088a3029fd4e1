-- The table image, from document 01: "A 64-byte general block, nine tables of 32-byte records, and a 28-byte trailer at the end that
-- points back." Document 02 (6) adds an edition with a longer general block. Offsets and sizes stand here alone, and nothing outside this
-- crate knows an edition but who writes an image.
use Rattle.std.specs.Prelude.{ℕ, zero, suc, ◌+◌, ◌*◌, ◌-◌, Bool, cond, List, eqb, length}
use Rattle.layout.specs.Bytes.{byte_at, u16_at, u32_at, u64_at}
use Rattle.layout.specs.declared.Record.{Record}
use Rattle.layout.specs.declared.General.{General}

abbrev pub general_size : ℕ
general_size = 64

-- the two figures more of edition 2
abbrev pub watts_size : ℕ
watts_size = 16

abbrev pub record_size : ℕ
record_size = 32

abbrev pub trailer_size : ℕ
trailer_size = 28

abbrev pub tables : ℕ
tables = 9

-- the tables, in their order
abbrev pub bands : ℕ
bands = 0

abbrev pub segments : ℕ
segments = 1

abbrev pub channels : ℕ
channels = 2

abbrev pub privileges : ℕ
privileges = 3

abbrev pub automatic : ℕ
automatic = 4

abbrev pub excluded : ℕ
excluded = 5

abbrev pub power : ℕ
power = 6

abbrev pub plan_data : ℕ
plan_data = 7

abbrev pub plan_avoid : ℕ
plan_avoid = 8

-- "Record: 0 low, 8 high, 16 figure (f64); bytes 24 band, 25 class, 26 emission bits, 27 flags; u16 at 28 rule, 30 second rule."
unfoldable pub record_at : List ℕ → ℕ → Record
record_at l at =
    record {
      low = u64_at l at;
      high = u64_at l (at + 8);
      figure = u64_at l (at + 16);
      band = byte_at l (at + 24);
      class = byte_at l (at + 25);
      emissions = byte_at l (at + 26);
      flags = byte_at l (at + 27);
      rule = u16_at l (at + 28);
      second_rule = u16_at l (at + 30);
    }

-- its band, class, emission bits and flags as one number, and its two rules as one
abbrev pub lists_of : Record → ℕ
lists_of r = r.band + 256 * r.class + 65536 * r.emissions + 16777216 * r.flags

abbrev pub rules_of : Record → ℕ
rules_of r = r.rule + 65536 * r.second_rule

-- where the trailer begins
abbrev pub trailer_of : List ℕ → ℕ
trailer_of l = length l - trailer_size

-- "u16 edition 1", or 2
abbrev pub edition_of : List ℕ → ℕ
edition_of l = u16_at l (trailer_of l + 22)

abbrev pub is_second : List ℕ → Bool
is_second l = eqb (edition_of l) 2

-- the 60 m power limits that were "fixed figures in the gate", by their bits: 100 W and 9.15 W
abbrev pub fixed_channel_watts : ℕ
fixed_channel_watts = 0x4059_0000_0000_0000

abbrev pub fixed_segment_watts : ℕ
fixed_segment_watts = 0x4022_4ccc_cccc_cccd

-- "Edition 2 has two more f64 in the general block": the figure at a place, or the fixed one of edition 1
unfoldable pub watts_at : List ℕ → ℕ → ℕ → ℕ
watts_at l at fixed = cond (is_second l) (u64_at l at) fixed

-- "General: 0 data limit, 8 elsewhere limit, 16 channel width, 24 carrier offset, 32 carrier tolerance (f64 each); bytes 40 region,
-- 41 reading …, 42 flags …, 43 channel band, 44 sideband …, 45 emission bits; u16 rules at 46 data, 48 elsewhere,
-- 50 automatic segments, 52 channels, 54 emissions, 56 privileges." The six bytes from 58 are unused. "channel watts at 64 and segment
-- watts at 72"
unfoldable pub general_of : List ℕ → General
general_of l =
    record {
      data_limit = u64_at l 0;
      elsewhere_limit = u64_at l 8;
      channel_width = u64_at l 16;
      carrier_offset = u64_at l 24;
      carrier_tolerance = u64_at l 32;
      region = byte_at l 40;
      reading = byte_at l 41;
      flags = byte_at l 42;
      channel_band = byte_at l 43;
      sideband = byte_at l 44;
      emissions = byte_at l 45;
      data_rule = u16_at l 46;
      elsewhere_rule = u16_at l 48;
      automatic_rule = u16_at l 50;
      channels_rule = u16_at l 52;
      emissions_rule = u16_at l 54;
      privileges_rule = u16_at l 56;
      unused = u16_at l 58;
      unused_rest = u32_at l 60;
      channel_watts = watts_at l 64 fixed_channel_watts;
      segment_watts = watts_at l 72 fixed_segment_watts;
    }

-- "nine u16 counts"
abbrev pub count_of : List ℕ → ℕ → ℕ
count_of l t = u16_at l (trailer_of l + 2 * t)

-- "a u32 distance from the trailer's start back to the first byte"
abbrev pub distance_back : List ℕ → ℕ
distance_back l = u32_at l (trailer_of l + 18)

-- "and the ASCII letters EDGE"
abbrev pub letters_of : List ℕ → ℕ
letters_of l = trailer_of l + 24

-- the records of the first t tables
unfoldable pub records_before : List ℕ → ℕ → ℕ
records_before l zero = 0
records_before l (suc t) = records_before l t + count_of l t

-- where the tables begin: after the general block, of 64 bytes or of 80
unfoldable pub tables_from : List ℕ → ℕ
tables_from l = cond (is_second l) (general_size + watts_size) general_size

-- where table t begins, and record i of it
abbrev pub start_of : List ℕ → ℕ → ℕ
start_of l t = tables_from l + record_size * records_before l t

abbrev pub place_of : List ℕ → ℕ → ℕ → ℕ
place_of l t i = start_of l t + record_size * i

-- record i of table t
abbrev pub record_of : List ℕ → ℕ → ℕ → Record
record_of l t i = record_at l (place_of l t i)
