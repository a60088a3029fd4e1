-- Document 01's practice table as an image's bytes (tools/reference/practice.py makes it), and its readings.
use Rattle.std.specs.Prelude.{ℕ, List, [], ◌∷◌, pos, Float}
use Rattle.std.specs.Float.{binary64}
use Rattle.std.specs.Float.Ieee.{div, of_bits, of_int}
use Rattle.profile.specs.Range.{range}
use Rattle.air.specs.Air.{margins}
use Rattle.occupancy.specs.declared.Edges.{Edges}
use Rattle.station.specs.declared.StationRecord.{StationRecord}

-- a figure by its thousandths: 14,023,799.875 is `hz 14_023_799_875`
abbrev pub hz : ℕ → Float
hz thousandths = div binary64 (of_int binary64 (pos thousandths)) (of_int binary64 (pos 1000))

abbrev pub practice : List ℕ
practice =
    -- limits 2,800 and elsewhere 500; channels: width 2,800, offset 1,500,
    0 ∷ 0 ∷ 0 ∷ 0 ∷ 0 ∷ 224 ∷ 165 ∷ 64 ∷ 0 ∷ 0 ∷ 0 ∷ 0 ∷ 0 ∷ 64 ∷ 127 ∷ 64 ∷ 0 ∷ 0 ∷ 0 ∷ 0 ∷ 0 ∷ 224 ∷ 165 ∷ 64 ∷ 0 ∷ 0 ∷ 0 ∷ 0 ∷ 0 ∷ 112 ∷ 151 ∷ 64 ∷
    -- tolerance 50; region 2, Wider, flags 15, channel band 60, upper, data and cw; rules 7 to 12
    0 ∷ 0 ∷ 0 ∷ 0 ∷ 0 ∷ 0 ∷ 73 ∷ 64 ∷ 2 ∷ 2 ∷ 15 ∷ 60 ∷ 0 ∷ 3 ∷ 7 ∷ 0 ∷ 8 ∷ 0 ∷ 9 ∷ 0 ∷ 10 ∷ 0 ∷ 11 ∷ 0 ∷ 12 ∷ 0 ∷ 0 ∷ 0 ∷ 0 ∷ 0 ∷ 0 ∷ 0 ∷
    -- band 20: 14,000,000–14,350,000
    0 ∷ 0 ∷ 0 ∷ 0 ∷ 240 ∷ 179 ∷ 106 ∷ 65 ∷ 0 ∷ 0 ∷ 0 ∷ 0 ∷ 214 ∷ 94 ∷ 107 ∷ 65 ∷ 0 ∷ 0 ∷ 0 ∷ 0 ∷ 0 ∷ 0 ∷ 0 ∷ 0 ∷ 20 ∷ 0 ∷ 0 ∷ 0 ∷ 0 ∷ 0 ∷ 0 ∷ 0 ∷
    -- band 60: 5,330,000–5,407,000
    0 ∷ 0 ∷ 0 ∷ 0 ∷ 20 ∷ 85 ∷ 84 ∷ 65 ∷ 0 ∷ 0 ∷ 0 ∷ 0 ∷ 70 ∷ 160 ∷ 84 ∷ 65 ∷ 0 ∷ 0 ∷ 0 ∷ 0 ∷ 0 ∷ 0 ∷ 0 ∷ 0 ∷ 60 ∷ 0 ∷ 0 ∷ 0 ∷ 0 ∷ 0 ∷ 0 ∷ 0 ∷
    -- segment, band 20, rule 13: 14,000,000–14,150,000
    0 ∷ 0 ∷ 0 ∷ 0 ∷ 240 ∷ 179 ∷ 106 ∷ 65 ∷ 0 ∷ 0 ∷ 0 ∷ 0 ∷ 46 ∷ 253 ∷ 106 ∷ 65 ∷ 0 ∷ 0 ∷ 0 ∷ 0 ∷ 0 ∷ 0 ∷ 0 ∷ 0 ∷ 20 ∷ 0 ∷ 0 ∷ 0 ∷ 13 ∷ 0 ∷ 0 ∷ 0 ∷
    -- segment, band 60, rule 14: 5,351,500–5,366,500
    0 ∷ 0 ∷ 0 ∷ 0 ∷ 19 ∷ 106 ∷ 84 ∷ 65 ∷ 0 ∷ 0 ∷ 0 ∷ 0 ∷ 185 ∷ 120 ∷ 84 ∷ 65 ∷ 0 ∷ 0 ∷ 0 ∷ 0 ∷ 0 ∷ 0 ∷ 0 ∷ 0 ∷ 60 ∷ 0 ∷ 0 ∷ 0 ∷ 14 ∷ 0 ∷ 0 ∷ 0 ∷
    -- channel centre 5,332,000
    0 ∷ 0 ∷ 0 ∷ 0 ∷ 8 ∷ 87 ∷ 84 ∷ 65 ∷ 0 ∷ 0 ∷ 0 ∷ 0 ∷ 0 ∷ 0 ∷ 0 ∷ 0 ∷ 0 ∷ 0 ∷ 0 ∷ 0 ∷ 0 ∷ 0 ∷ 0 ∷ 0 ∷ 0 ∷ 0 ∷ 0 ∷ 0 ∷ 0 ∷ 0 ∷ 0 ∷ 0 ∷
    -- General: 14,025,000–14,150,000
    0 ∷ 0 ∷ 0 ∷ 0 ∷ 37 ∷ 192 ∷ 106 ∷ 65 ∷ 0 ∷ 0 ∷ 0 ∷ 0 ∷ 46 ∷ 253 ∷ 106 ∷ 65 ∷ 0 ∷ 0 ∷ 0 ∷ 0 ∷ 0 ∷ 0 ∷ 0 ∷ 0 ∷ 0 ∷ 2 ∷ 0 ∷ 0 ∷ 0 ∷ 0 ∷ 0 ∷ 0 ∷
    -- General: 5,330,000–5,407,000
    0 ∷ 0 ∷ 0 ∷ 0 ∷ 20 ∷ 85 ∷ 84 ∷ 65 ∷ 0 ∷ 0 ∷ 0 ∷ 0 ∷ 70 ∷ 160 ∷ 84 ∷ 65 ∷ 0 ∷ 0 ∷ 0 ∷ 0 ∷ 0 ∷ 0 ∷ 0 ∷ 0 ∷ 0 ∷ 2 ∷ 0 ∷ 0 ∷ 0 ∷ 0 ∷ 0 ∷ 0 ∷
    -- automatic: 14,095,000–14,099,500
    0 ∷ 0 ∷ 0 ∷ 0 ∷ 83 ∷ 226 ∷ 106 ∷ 65 ∷ 0 ∷ 0 ∷ 0 ∷ 128 ∷ 133 ∷ 228 ∷ 106 ∷ 65 ∷ 0 ∷ 0 ∷ 0 ∷ 0 ∷ 0 ∷ 0 ∷ 0 ∷ 0 ∷ 0 ∷ 0 ∷ 0 ∷ 0 ∷ 0 ∷ 0 ∷ 0 ∷ 0 ∷
    -- automatic: 14,100,500–14,112,000
    0 ∷ 0 ∷ 0 ∷ 128 ∷ 2 ∷ 229 ∷ 106 ∷ 65 ∷ 0 ∷ 0 ∷ 0 ∷ 0 ∷ 160 ∷ 234 ∷ 106 ∷ 65 ∷ 0 ∷ 0 ∷ 0 ∷ 0 ∷ 0 ∷ 0 ∷ 0 ∷ 0 ∷ 0 ∷ 0 ∷ 0 ∷ 0 ∷ 0 ∷ 0 ∷ 0 ∷ 0 ∷
    -- two bands, two segments, one channel, two privileges, two automatic segments; 352 bytes back; edition 1, EDGE
    2 ∷ 0 ∷ 2 ∷ 0 ∷ 1 ∷ 0 ∷ 2 ∷ 0 ∷ 2 ∷ 0 ∷ 0 ∷ 0 ∷ 0 ∷ 0 ∷ 0 ∷ 0 ∷ 0 ∷ 0 ∷ 96 ∷ 1 ∷ 0 ∷ 0 ∷ 1 ∷ 0 ∷ 69 ∷ 68 ∷ 71 ∷ 69 ∷ []

-- "Upper sideband, General, …, margin 50, power absent and plan off unless said", region 2; by control and dial
abbrev pub station : ℕ → Float → StationRecord
station control dial =
    record {
      policy = 2;
      control = control;
      license = 2;
      sideband = 0;
      itu_region = 2;
      band_plan = 0;
      dial_known = 1;
      power_known = 0;
      margin = margins (hz 50_000) (hz 50_000);
      dial_hz = dial;
      power_w = of_bits binary64 0;
    }

-- edges alike in both pairs
abbrev pub edges : Float → Float → Edges
edges low high = record { power = range low high; spectral = range low high }

-- "edges 1,250–1,750 in both pairs"
abbrev pub usual : Edges
usual = edges (hz 1_250_000) (hz 1_750_000)
