-- What an accepted image says: each record and each field of the general block as what it stands for. No offset is named here.
use Rattle.std.specs.Prelude.{ℕ, Bool, cond, eqb, Float, Option, Some, None}
use Rattle.table.specs.declared.Elsewhere.{Elsewhere}
use Rattle.table.specs.declared.Channels.{Channels}
use Rattle.figures.specs.Figure.{figure_of}
use Rattle.codes.specs.Code.{bit_of}
use Rattle.codes.specs.declared.Sideband.{Sideband}
use Rattle.codes.specs.declared.Sideband.TheVariants.{Usb, Lsb}
use Rattle.profile.specs.Range.{range}
use Rattle.profile.specs.declared.Range.{Range}
use Rattle.profile.specs.declared.DataLimit.{DataLimit}
use Rattle.occupancy.specs.declared.Reading.{Reading}
use Rattle.occupancy.specs.declared.Reading.TheVariants.{Power, Spectral, Wider}
use Rattle.layout.specs.declared.Record.{Record}
use Rattle.layout.specs.declared.General.{General as GeneralBlock}
use Rattle.table.specs.declared.Band.{Band}
use Rattle.table.specs.declared.Segment.{Segment}
use Rattle.table.specs.declared.Privilege.{Privilege}
use Rattle.table.specs.declared.Excluded.{Excluded}
use Rattle.table.specs.declared.PowerLimit.{PowerLimit}
use Rattle.table.specs.declared.PlanArea.{PlanArea}

-- ---- records

-- a record's range
abbrev pub span_of : Record → Range
span_of r = range (figure_of r.low) (figure_of r.high)

-- a list under bit 0 of a record's flags, and a rule under bit 1
abbrev pub listed_of : ℕ → ℕ → Option ℕ
listed_of flags bits = cond (bit_of flags 0) (Some bits) None

abbrev pub named_of : ℕ → ℕ → Option ℕ
named_of flags rule = cond (bit_of flags 1) (Some rule) None

-- "bands (low, high, band)"
abbrev pub band_of : Record → Band
band_of r = record { range = span_of r; band = r.band }

-- "data segments (plus figure under flag bit 0, rule, second rule under bit 1)"
abbrev pub own_limit_of : Record → Option Float
own_limit_of r = cond (bit_of r.flags 0) (Some (figure_of r.figure)) None

abbrev pub segment_of : Record → Segment
segment_of r =
    record {
      range = span_of r;
      band = r.band;
      rule = r.rule;
      own = own_limit_of r;
      second = named_of r.flags r.second_rule;
    }

-- "channels (low is the centre)"
abbrev pub centre_of : Record → Float
centre_of r = figure_of r.low

-- "privileges (range, class number, emission bits under flag bit 0, rule under bit 1)"
abbrev pub privilege_of : Record → Privilege
privilege_of r =
    record {
      range = span_of r;
      class = r.class;
      emissions = listed_of r.flags r.emissions;
      rule = named_of r.flags r.rule;
    }

-- "excluded (band, rule)"
abbrev pub excluded_of : Record → Excluded
excluded_of r = record { band = r.band; rule = r.rule }

-- "power (range, figure in watts, class bits under flag bit 0, rule)"
abbrev pub power_of : Record → PowerLimit
power_of r =
    record {
      range = span_of r;
      max_w = figure_of r.figure;
      classes = listed_of r.flags r.class;
      rule = r.rule;
    }

-- "plan data and plan avoid (range, label number in rule)"
abbrev pub plan_of : Record → PlanArea
plan_of r = record { range = span_of r; label = r.rule }

-- ---- the general block

abbrev pub data_of : GeneralBlock → DataLimit
data_of g = record { max_bandwidth_hz = figure_of g.data_limit; rule = g.data_rule }

-- "reading (0 power, 1 spectral, 2 wider)"
abbrev pub reading_of : GeneralBlock → Reading
reading_of g = cond (eqb g.reading 0) Power (cond (eqb g.reading 1) Spectral Wider)

-- "flags (bit 0 elsewhere, 1 response required, a field of elsewhere …)": automatic control outside its segments (97.221(c))
abbrev pub elsewhere_of : GeneralBlock → Option Elsewhere
elsewhere_of g =
    cond (bit_of g.flags 0)
    (Some
    (record {
      max_bandwidth_hz = figure_of g.elsewhere_limit;
      requires_response = bit_of g.flags 1;
      rule = g.elsewhere_rule;
    }))
    None

abbrev pub channel_sideband_of : GeneralBlock → Sideband
channel_sideband_of g = cond (eqb g.sideband 0) Usb Lsb

-- "flags (… 2 channels …)": the 60 m channels (97.303(h)(3))
abbrev pub channels_of : GeneralBlock → Option Channels
channels_of g =
    cond (bit_of g.flags 2)
    (Some
    (record {
      band = g.channel_band;
      rule = g.channels_rule;
      width_hz = figure_of g.channel_width;
      carrier_offset_hz = figure_of g.carrier_offset;
      carrier_tolerance_hz = figure_of g.carrier_tolerance;
      sideband = channel_sideband_of g;
    }))
    None

-- "flags (… 3 60 m emissions …)": the emissions allowed on 60 m (97.307(f)(14))
abbrev pub sixty_of : GeneralBlock → Option (ℕ × ℕ)
sixty_of g = cond (bit_of g.flags 3) (Some (g.emissions, g.emissions_rule)) None

-- "flags (… 4 plan)"
abbrev pub has_plan : GeneralBlock → Bool
has_plan g = bit_of g.flags 4
