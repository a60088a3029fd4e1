-- 97.221, automatically controlled digital stations, as far as verdict, ceiling and dial list share it.
use Rattle.std.specs.Prelude.{Bool, true, false, not, ◌&&◌, ◌||◌, Float, Option, Some, None}
use Rattle.table.specs.declared.Elsewhere.{Elsewhere}
use Rattle.std.specs.Float.Ieee.{le}
use Rattle.codes.specs.declared.ControlMode.{ControlMode}
use Rattle.codes.specs.declared.ControlMode.TheVariants.{Local, Remote, Automatic}
use Rattle.codes.specs.declared.Direction.{Direction}
use Rattle.codes.specs.declared.Direction.TheVariants.{Originate, Respond, Operator, RespondToAutomatic}

-- 97.3(a)(6), 97.109(d): the station is automatically controlled
abbrev pub is_automatic : ControlMode → Bool
is_automatic Local = false
is_automatic Remote = false
is_automatic Automatic = true

-- somebody at the control point is testing the station
abbrev pub at_control_point : Direction → Bool
at_control_point Originate = false
at_control_point Respond = false
at_control_point Operator = true
at_control_point RespondToAutomatic = false

-- 97.221(c)(1): the transmission answers interrogation by a station under local or remote control; "the elsewhere rule counts only a plain
-- Respond" (document 02, 3)
abbrev pub responds : Direction → Bool
responds Originate = false
responds Respond = true
responds Operator = false
responds RespondToAutomatic = false

-- 97.221 applies: "Automatic is off when the direction is Operator."
abbrev pub applies_of : ControlMode → Direction → Bool
applies_of control direction = is_automatic control && not (at_control_point direction)

-- 97.221(c): outside the segments of 97.221(b), no wider than the limit there and, where the table requires it, only answering
abbrev pub elsewhere_allows : Option Elsewhere → Float → Direction → Bool
elsewhere_allows (Some e) width direction =
    le width e.max_bandwidth_hz && (responds direction || not e.requires_response)
elsewhere_allows None width direction = false
