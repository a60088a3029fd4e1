-- Reading back: the number of a case reads as that case.
use Rattle.std.specs.Prelude.{◌≡◌, refl, Some, None}
use Rattle.codes.specs.declared.Policy.{Policy}
use Rattle.codes.specs.declared.Policy.TheVariants.{Unset, NoProfile, Rules, Broken}
use Rattle.codes.specs.declared.ControlMode.{ControlMode}
use Rattle.codes.specs.declared.ControlMode.TheVariants.{Local, Remote, Automatic}
use Rattle.codes.specs.declared.LicenseClass.{LicenseClass}
use Rattle.codes.specs.declared.LicenseClass.TheVariants.{Novice, Technician, General, Advanced, Extra}
use Rattle.codes.specs.declared.Sideband.{Sideband}
use Rattle.codes.specs.declared.Sideband.TheVariants.{Usb, Lsb}
use Rattle.codes.specs.declared.EmissionKind.{EmissionKind}
use Rattle.codes.specs.declared.EmissionKind.TheVariants.{Data, Cw, Test, Nothing}
use Rattle.codes.specs.declared.Direction.{Direction}
use Rattle.codes.specs.declared.Direction.TheVariants.{Originate, Respond, Operator, RespondToAutomatic}
use Rattle.codes.specs.Code.{policy_code, control_code, class_code, sideband_code, kind_code, direction_code}
use Rattle.codes.specs.Read.{policy_of, control_of, license_of, sideband_of, kind_of, direction_of}

-- Reading a case's number gives that case.
pub policy_read : (p : Policy) → policy_of (policy_code p) ≡ p
policy_read Unset = refl
policy_read NoProfile = refl
policy_read Rules = refl
policy_read Broken = refl

pub control_read : (m : ControlMode) → control_of (control_code m) ≡ Some m
control_read Local = refl
control_read Remote = refl
control_read Automatic = refl

pub license_read : (l : LicenseClass) → license_of (class_code l) ≡ Some l
license_read Novice = refl
license_read Technician = refl
license_read General = refl
license_read Advanced = refl
license_read Extra = refl

pub sideband_read : (s : Sideband) → sideband_of (sideband_code s) ≡ Some s
sideband_read Usb = refl
sideband_read Lsb = refl

pub kind_read : (k : EmissionKind) → kind_of (kind_code k) ≡ k
kind_read Data = refl
kind_read Cw = refl
kind_read Test = refl
kind_read Nothing = refl

pub direction_read : (d : Direction) → direction_of (direction_code d) ≡ d
direction_read Originate = refl
direction_read Respond = refl
direction_read Operator = refl
direction_read RespondToAutomatic = refl

-- and 255 is absent
pub absent_read : (control_of 255 ≡ None) × (license_of 255 ≡ None) × (sideband_of 255 ≡ None)
absent_read = (refl, refl, refl)
