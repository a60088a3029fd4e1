-- An input that meets every premise: the practice table of document 01, an automatic station at 14,098,000, data of the usual edges. Its
-- answer with Respond, value 1, is legal 21 (starred).
use Rattle.std.specs.Prelude.{refl}
use Rattle.codes.specs.declared.ControlMode.TheVariants.{Automatic}
use Rattle.codes.specs.declared.LicenseClass.TheVariants.{General}
use Rattle.codes.specs.declared.Sideband.TheVariants.{Usb}
use Rattle.verdict.specs.Verdict.{evaluate_of}
use Rattle.starred.specs.Practice.{hz, practice, station, usual}
use Rattle.starred.specs.Starred.{opened}
use Rattle.demand_3.specs.Words.{channel_band_holds, on_channel_band}
use Rattle.answering_97_221.specs.Words.{band_passes, segment_passes, passes_before, outside_automatic, Answering, Answered}
use Rattle.answering_97_221.specs.Theorem.{answering_blocked}

robot : Answering (station 2 (hz 14_098_000_000)) usual practice (hz 14_098_000_000)
unfolding opened evaluate_of channel_band_holds on_channel_band band_passes segment_passes passes_before outside_automatic
robot =
    record {
      not_refused = refl;
      in_force_holds = refl;
      met =
          record {
            region = refl;
            control = Automatic;
            class = General;
            sideband = Usb;
            has_control_holds = refl;
            has_license_holds = refl;
            has_sideband_holds = refl;
          };
      own_dial = refl;
      control = refl;
      off_channels = refl;
      passes = refl;
      outside = refl;
      elsewhere = refl;
    }

pub robot_blocked : Answered (evaluate_of (station 2 (hz 14_098_000_000)) 0 3 usual practice)
robot_blocked = answering_blocked (station 2 (hz 14_098_000_000)) usual practice (hz 14_098_000_000) robot
