-- Refusal 5, record by record: "a coded byte outside its values, an unused one not zero, or a table of an absent part not empty".
-- A figure is looked at by its bits here: an unused one is zero in all eight bytes.
use Rattle.std.specs.Prelude.{ℕ, Bool, not, cond, ◌&&◌, ◌||◌, leb, eqb}
use Rattle.codes.specs.Code.{bit_of}
use Rattle.layout.specs.Layout.{bands, segments, channels, privileges, automatic, excluded, power}
use Rattle.layout.specs.declared.Record.{Record}
use Rattle.layout.specs.declared.General.{General}

-- an unused field
abbrev pub blank : ℕ → Bool
blank n = eqb n 0

-- a field that is there only where its flag is set
abbrev pub under : Bool → ℕ → Bool
under flag n = flag || blank n

-- bits up to a largest value, there only where their flag is set
abbrev pub bits_under : Bool → ℕ → ℕ → Bool
bits_under flag largest n = cond flag (leb n largest) (blank n)

-- no class, no emission bits, no flags; no rules
abbrev pub no_lists : Record → Bool
no_lists r = blank r.class && (blank r.emissions && blank r.flags)

abbrev pub no_rules : Record → Bool
no_rules r = blank r.rule && blank r.second_rule

-- "bands (low, high, band)"
abbrev pub coded_band : Record → Bool
coded_band r = blank r.figure && (no_lists r && no_rules r)

-- "data segments (plus figure under flag bit 0, rule, second rule under bit 1)"
abbrev pub coded_segment : Record → Bool
coded_segment r =
    leb r.flags 3 && (under (bit_of r.flags 0) r.figure && (under (bit_of r.flags 1) r.second_rule
    && (blank r.class && blank r.emissions)))

-- "channels (low is the centre)"
abbrev pub coded_channel : Record → Bool
coded_channel r = blank r.high && (blank r.figure && (blank r.band && (no_lists r && no_rules r)))

-- "privileges (range, class number, emission bits under flag bit 0, rule under bit 1)"
abbrev pub coded_privilege : Record → Bool
coded_privilege r =
    leb r.class 4 && (leb r.flags 3 && (bits_under (bit_of r.flags 0) 15 r.emissions
    && (under (bit_of r.flags 1) r.rule && (blank r.figure && (blank r.band && blank r.second_rule)))))

-- "automatic segments (range)"
abbrev pub coded_automatic : Record → Bool
coded_automatic r = blank r.figure && (blank r.band && (no_lists r && no_rules r))

-- "excluded (band, rule)"
abbrev pub coded_excluded : Record → Bool
coded_excluded r = blank r.low && (blank r.high && (blank r.figure && (no_lists r && blank r.second_rule)))

-- "power (range, figure in watts, class bits under flag bit 0, rule)"
abbrev pub coded_power : Record → Bool
coded_power r =
    leb r.flags 1 && (bits_under (bit_of r.flags 0) 31 r.class && (blank r.band
    && (blank r.emissions && blank r.second_rule)))

-- "plan data and plan avoid (range, label number in rule)"
abbrev pub coded_plan : Record → Bool
coded_plan r = blank r.figure && (blank r.band && (no_lists r && blank r.second_rule))

-- a record of table t
unfoldable pub coded_of : ℕ → Record → Bool
coded_of t r =
    cond (eqb t bands) (coded_band r)
    (cond (eqb t segments) (coded_segment r)
    (cond (eqb t channels) (coded_channel r)
    (cond (eqb t privileges) (coded_privilege r)
    (cond (eqb t automatic) (coded_automatic r)
    (cond (eqb t excluded) (coded_excluded r) (cond (eqb t power) (coded_power r) (coded_plan r)))))))

-- ---- the general block, and the tables of its absent parts, given by their counts

-- "flags (bit 0 elsewhere, 1 response required, a field of elsewhere …)"
abbrev pub coded_elsewhere : General → Bool
coded_elsewhere g =
    bit_of g.flags 0 || (blank g.elsewhere_limit && (blank g.elsewhere_rule && not (bit_of g.flags 1)))

-- the channels' fields of an absent part, and their table
abbrev pub blank_channels : General → ℕ → Bool
blank_channels g count =
    blank g.channel_width && (blank g.carrier_offset && (blank g.carrier_tolerance && (blank g.channel_band
    && (blank g.sideband && (blank g.channels_rule && blank count)))))

-- "flags (… 2 channels …)", "44 sideband (0 upper, 1 lower)"
abbrev pub coded_channels : General → ℕ → Bool
coded_channels g count = cond (bit_of g.flags 2) (leb g.sideband 1) (blank_channels g count)

-- "flags (… 3 60 m emissions …)"
abbrev pub coded_sixty : General → Bool
coded_sixty g = cond (bit_of g.flags 3) (leb g.emissions 15) (blank g.emissions && blank g.emissions_rule)

-- "flags (… 4 plan)"
abbrev pub coded_plans : General → ℕ → ℕ → Bool
coded_plans g areas avoid = bit_of g.flags 4 || (blank areas && blank avoid)

-- the general block, with the counts of the channels' and the two plan tables
unfoldable pub coded_general : General → ℕ → ℕ → ℕ → Bool
coded_general g count areas avoid =
    leb g.reading 2 && (leb g.flags 31 && (blank g.unused && (blank g.unused_rest && (coded_elsewhere g
    && (coded_channels g count && (coded_sixty g && coded_plans g areas avoid))))))
