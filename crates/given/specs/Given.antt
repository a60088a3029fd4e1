-- What an image is written from: the fields of the general block, nine counts, and the records in runs of numbers, table after table. Figures
-- are given as figures and codes as numbers; no offset is named here.
use Rattle.std.specs.Prelude.{ℕ, zero, suc, ◌+◌, ◌*◌, cond, List, eqb, ltb, get_or, Float}
use Rattle.std.specs.Float.{nan, binary64}
use Rattle.std.specs.Float.Ieee.{to_bits}
use Rattle.layout.specs.Layout.{tables, fixed_channel_watts, fixed_segment_watts}
use Rattle.layout.specs.declared.Record.{Record}
use Rattle.layout.specs.declared.General.{General}
use Rattle.table.specs.Table.{Table, no_record}
use Rattle.given.specs.declared.Fields.{Fields}

-- three figures, four codes and two rules a record, the records of the nine tables one after the other
pub record Runs : Type 0 where
  pub figures : List Float
  pub codes : List ℕ
  pub rules : List ℕ

abbrev pub runs : List Float → List ℕ → List ℕ → Runs
runs figures codes rules = record { figures = figures; codes = codes; rules = rules }

-- how many records table t has, of the counts n
abbrev pub count_from : List ℕ → ℕ → ℕ
count_from n t = get_or n t 0

-- the records of the first t tables
unfoldable pub before_from : List ℕ → ℕ → ℕ
before_from n zero = 0
before_from n (suc t) = before_from n t + count_from n t

-- "f64 means its 64 bits."
abbrev pub figure_bits : Runs → ℕ → ℕ
figure_bits r i = to_bits binary64 (get_or r.figures i nan)

-- record k of all: low, high and figure; band, class, emission bits and flags; rule and second rule
unfoldable pub record_from : Runs → ℕ → Record
record_from r k =
    record {
      low = figure_bits r (3 * k);
      high = figure_bits r (3 * k + 1);
      figure = figure_bits r (3 * k + 2);
      band = get_or r.codes (4 * k) 0;
      class = get_or r.codes (4 * k + 1) 0;
      emissions = get_or r.codes (4 * k + 2) 0;
      flags = get_or r.codes (4 * k + 3) 0;
      rule = get_or r.rules (2 * k) 0;
      second_rule = get_or r.rules (2 * k + 1) 0;
    }

-- a watt figure: given for edition 2, and for edition 1 fixed, whatever was given
abbrev pub watts_from : ℕ → Float → ℕ → ℕ
watts_from edition watts fixed = cond (eqb edition 2) (to_bits binary64 watts) fixed

-- the general block of these fields; unused bytes are zero
unfoldable pub general_from : Fields → General
general_from f =
    record {
      data_limit = to_bits binary64 f.data_limit;
      elsewhere_limit = to_bits binary64 f.elsewhere_limit;
      channel_width = to_bits binary64 f.channel_width;
      carrier_offset = to_bits binary64 f.carrier_offset;
      carrier_tolerance = to_bits binary64 f.carrier_tolerance;
      region = f.region;
      reading = f.reading;
      flags = f.flags;
      channel_band = f.channel_band;
      sideband = f.sideband;
      emissions = f.emissions;
      data_rule = f.data_rule;
      elsewhere_rule = f.elsewhere_rule;
      automatic_rule = f.automatic_rule;
      channels_rule = f.channels_rule;
      emissions_rule = f.emissions_rule;
      privileges_rule = f.privileges_rule;
      unused = 0;
      unused_rest = 0;
      channel_watts = watts_from f.edition f.channel_watts fixed_channel_watts;
      segment_watts = watts_from f.edition f.segment_watts fixed_segment_watts;
    }

-- ---- the table of what is given

abbrev pub count_given : List ℕ → ℕ → ℕ
count_given n t = cond (ltb t tables) (count_from n t) 0

unfoldable pub record_given : List ℕ → Runs → ℕ → ℕ → Record
record_given n r t i = cond (ltb i (count_given n t)) (record_from r (before_from n t + i)) no_record

abbrev pub table_with : General → List ℕ → Runs → Table
table_with g n r = record { general = g; count = count_given n; at = record_given n r }

abbrev pub table_from : Fields → List ℕ → Runs → Table
table_from f n r = table_with (general_from f) n r
