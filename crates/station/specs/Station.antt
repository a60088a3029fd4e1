-- The station record as it arrives, in coded numbers and any figures, and as it is read. Refusals 20 to 22.
use Rattle.std.specs.Prelude.{ℕ, Bool, not, cond, ◌&&◌, ◌||◌, List, [], ◌∷◌, leb, eqb, length, Float, Option, Some, None}
use Rattle.std.specs.Float.{binary64}
use Rattle.std.specs.Float.Ieee.{of_bits}
use Rattle.figures.specs.Figure.{zero_hz, limit40, in_size, read_hz}
use Rattle.air.specs.Air.{margins}
use Rattle.air.specs.declared.Margins.{Margins}
use Rattle.codes.specs.declared.Refusal.TheVariants as refusal
use Rattle.codes.specs.Code.{policy_code}
use Rattle.codes.specs.Read.{policy_valid, control_valid, license_valid, sideband_valid, policy_of, control_of, license_of, sideband_of}
use Rattle.codes.specs.Refusal.{Test, test}
use Rattle.codes.specs.declared.Policy.TheVariants.{Rules}
use Rattle.station.specs.declared.StationRecord.{StationRecord}
use Rattle.station.specs.declared.Situation.{Situation}

-- "The plan mark is 0 or 1. Dial and power have a presence byte 0 or 1"
abbrev pub mark_valid : ℕ → Bool
mark_valid n = leb n 1

unfoldable pub codes_valid : StationRecord → Bool
codes_valid r =
    policy_valid r.policy && (control_valid r.control && (license_valid r.license && (sideband_valid r.sideband
    && (mark_valid r.band_plan && (mark_valid r.dial_known && mark_valid r.power_known)))))

-- "at 0 the figure isn't looked at"
abbrev pub figure_valid : ℕ → Float → Bool
figure_valid known x = eqb known 0 || in_size limit40 x

-- "21 covers each"
abbrev pub margins_valid : Margins → Bool
margins_valid m = in_size limit40 m.lower_hz && in_size limit40 m.upper_hz

unfoldable pub figures_valid : StationRecord → Bool
figures_valid r =
    margins_valid r.margin && (figure_valid r.dial_known r.dial_hz && figure_valid r.power_known r.power_w)

-- a figure as it is read: "Negative zero in edges or station reads as zero."
abbrev pub figure_read : ℕ → Float → Option Float
figure_read known x = cond (eqb known 0) None (Some (read_hz x))

abbrev pub margins_read : Margins → Margins
margins_read m = margins (read_hz m.lower_hz) (read_hz m.upper_hz)

unfoldable pub situation_of : StationRecord → Situation
situation_of r =
    record {
      policy = policy_of r.policy;
      control = control_of r.control;
      license = license_of r.license;
      sideband = sideband_of r.sideband;
      itu_region = r.itu_region;
      margin = margins_read r.margin;
      band_plan = not (eqb r.band_plan 0);
      dial = figure_read r.dial_known r.dial_hz;
      power = figure_read r.power_known r.power_w;
    }

-- "A table is in force if the policy is Rules …"
abbrev pub under_rules : StationRecord → Bool
under_rules r = eqb r.policy (policy_code Rules)

-- "20 a station code outside its values; 21 a station figure not finite or above 2^40 in size; 22 Rules in force and an image of
-- length 0". The codes beside the record, direction and kind, count with 20: beside says whether they are among their values.
abbrev pub station_tests : StationRecord → Bool → List ℕ → List Test
station_tests r beside l =
    test refusal.StationCode (not (codes_valid r) || not beside) ∷ test refusal.StationFigure (not (figures_valid r)) ∷ test refusal.NoImage (under_rules r && eqb (length l) 0) ∷ []

-- 50
abbrev pub fresh_margin : Float
fresh_margin = of_bits binary64 0x4049_0000_0000_0000

-- "A fresh station record now has region 2 and margin 50." "A fresh record has 50 in each." Else it follows `Situation`'s `Default`: "plan
-- off, the rest absent". The policy is unset.
abbrev pub fresh_of : StationRecord
fresh_of =
    record {
      policy = 0;
      control = 255;
      license = 255;
      sideband = 255;
      itu_region = 2;
      band_plan = 0;
      dial_known = 0;
      power_known = 0;
      margin = margins fresh_margin fresh_margin;
      dial_hz = zero_hz;
      power_w = zero_hz;
    }
