-- From a number to its case. A number outside its term's values has its case too, the last: refusal 20 comes before it is read.
use Rattle.std.specs.Prelude.{ℕ, Bool, ◌||◌, cond, leb, eqb, Option, Some, None}
use Rattle.codes.specs.declared.ControlMode.{ControlMode}
use Rattle.codes.specs.declared.LicenseClass.{LicenseClass}
use Rattle.codes.specs.declared.Sideband.{Sideband}
use Rattle.codes.specs.declared.Policy.{Policy}
use Rattle.codes.specs.declared.Policy.TheVariants.{Unset, NoProfile, Rules, Broken}
use Rattle.codes.specs.declared.ControlMode.TheVariants.{Local, Remote, Automatic}
use Rattle.codes.specs.declared.LicenseClass.TheVariants.{Novice, Technician, General, Advanced, Extra}
use Rattle.codes.specs.declared.Sideband.TheVariants.{Usb, Lsb}
use Rattle.codes.specs.declared.EmissionKind.{EmissionKind}
use Rattle.codes.specs.declared.EmissionKind.TheVariants.{Data, Cw, Test, Nothing}
use Rattle.codes.specs.declared.Direction.{Direction}
use Rattle.codes.specs.declared.Direction.TheVariants.{Originate, Respond, Operator, RespondToAutomatic}

-- which numbers are among a term's values; "255 for an absent control, licence or sideband"
abbrev pub policy_valid : ℕ → Bool
policy_valid n = leb n 3

abbrev pub control_valid : ℕ → Bool
control_valid n = leb n 2 || eqb n 255

abbrev pub license_valid : ℕ → Bool
license_valid n = leb n 4 || eqb n 255

abbrev pub sideband_valid : ℕ → Bool
sideband_valid n = leb n 1 || eqb n 255

abbrev pub kind_valid : ℕ → Bool
kind_valid n = leb n 3

abbrev pub direction_valid : ℕ → Bool
direction_valid n = leb n 3

abbrev pub policy_of : ℕ → Policy
policy_of n = cond (eqb n 0) Unset (cond (eqb n 1) NoProfile (cond (eqb n 2) Rules Broken))

abbrev pub control_of : ℕ → Option ControlMode
control_of n =
    cond (eqb n 0) (Some Local)
    (cond (eqb n 1) (Some Remote)
    (cond (eqb n 2) (Some Automatic) None))

abbrev pub license_of : ℕ → Option LicenseClass
license_of n =
    cond (eqb n 0) (Some Novice)
    (cond (eqb n 1) (Some Technician)
    (cond (eqb n 2) (Some General)
    (cond (eqb n 3) (Some Advanced)
    (cond (eqb n 4) (Some Extra) None))))

abbrev pub sideband_of : ℕ → Option Sideband
sideband_of n = cond (eqb n 0) (Some Usb) (cond (eqb n 1) (Some Lsb) None)

abbrev pub kind_of : ℕ → EmissionKind
kind_of n = cond (eqb n 0) Data (cond (eqb n 1) Cw (cond (eqb n 2) Test Nothing))

abbrev pub direction_of : ℕ → Direction
direction_of n = cond (eqb n 0) Originate (cond (eqb n 1) Respond (cond (eqb n 2) Operator RespondToAutomatic))
