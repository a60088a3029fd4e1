-- Document 01's number for each case of each coded term ("Station codes", "Classes", "Emission bits").
-- 255 stands for an absent control, licence or sideband.
use Rattle.std.specs.Prelude.{ℕ, ◌^◌, ◌/◌, ◌%◌, Bool, eqb}
use Rattle.codes.specs.declared.Policy.{Policy}
use Rattle.codes.specs.declared.Policy.TheVariants.{Unset, NoProfile, Rules, Broken}
use Rattle.codes.specs.declared.ControlMode.{ControlMode}
use Rattle.codes.specs.declared.ControlMode.TheVariants.{Local, Remote, Automatic}
use Rattle.codes.specs.declared.LicenseClass.{LicenseClass}
use Rattle.codes.specs.declared.LicenseClass.TheVariants.{Novice, Technician, General, Advanced, Extra}
use Rattle.codes.specs.declared.Sideband.{Sideband}
use Rattle.codes.specs.declared.Sideband.TheVariants.{Usb, Lsb}
use Rattle.codes.specs.declared.EmissionKind.{EmissionKind}
use Rattle.codes.specs.declared.EmissionKind.TheVariants.{Data, Cw, Test, Nothing}
use Rattle.codes.specs.declared.Direction.{Direction}
use Rattle.codes.specs.declared.Direction.TheVariants.{Originate, Respond, Operator, RespondToAutomatic}

-- "policy 0 unset, 1 none, 2 rules, 3 broken"
abbrev pub policy_code : Policy → ℕ
policy_code Unset = 0
policy_code NoProfile = 1
policy_code Rules = 2
policy_code Broken = 3

-- "control 0 local, 1 remote, 2 automatic"
abbrev pub control_code : ControlMode → ℕ
control_code Local = 0
control_code Remote = 1
control_code Automatic = 2

-- "Classes: 0 Novice, 1 Technician, 2 General, 3 Advanced, 4 Extra."
abbrev pub class_code : LicenseClass → ℕ
class_code Novice = 0
class_code Technician = 1
class_code General = 2
class_code Advanced = 3
class_code Extra = 4

-- "sideband 0 upper, 1 lower"
abbrev pub sideband_code : Sideband → ℕ
sideband_code Usb = 0
sideband_code Lsb = 1

-- "Emission bits: 0 data, 1 cw, 2 test, 3 nothing", "kinds as emission bits"
abbrev pub kind_code : EmissionKind → ℕ
kind_code Data = 0
kind_code Cw = 1
kind_code Test = 2
kind_code Nothing = 3

-- "direction 0 originate, 1 respond, 2 operator", and document 02: "the value 3, 'respond to automatic'"
abbrev pub direction_code : Direction → ℕ
direction_code Originate = 0
direction_code Respond = 1
direction_code Operator = 2
direction_code RespondToAutomatic = 3

-- 1 at an emission's or a class's bit
abbrev pub bit_of : ℕ → ℕ → Bool
bit_of bits n = eqb (bits / 2 ^ n % 2) 1
