-- The codes as an answer has them: each of the 25 is there, where `None` is none.
use Rattle.std.specs.Prelude.{Option, Some}
use Rattle.decision.specs.declared.Code.{Code}
use Rattle.decision.specs.declared.Code.TheVariants as code

abbrev pub NoProfile : Option Code
NoProfile = Some code.NoProfile

abbrev pub ProfileBroken : Option Code
ProfileBroken = Some code.ProfileBroken

abbrev pub NoRules : Option Code
NoRules = Some code.NoRules

abbrev pub Unmeasured : Option Code
Unmeasured = Some code.Unmeasured

abbrev pub Region : Option Code
Region = Some code.Region

abbrev pub NoControl : Option Code
NoControl = Some code.NoControl

abbrev pub NoLicense : Option Code
NoLicense = Some code.NoLicense

abbrev pub NoSideband : Option Code
NoSideband = Some code.NoSideband

abbrev pub NoDial : Option Code
NoDial = Some code.NoDial

abbrev pub OutOfBand : Option Code
OutOfBand = Some code.OutOfBand

abbrev pub AutomaticExcluded : Option Code
AutomaticExcluded = Some code.AutomaticExcluded

abbrev pub TooWide : Option Code
TooWide = Some code.TooWide

abbrev pub OutsideDataSegment : Option Code
OutsideDataSegment = Some code.OutsideDataSegment

abbrev pub NoDataHere : Option Code
NoDataHere = Some code.NoDataHere

abbrev pub Privilege : Option Code
Privilege = Some code.Privilege

abbrev pub Permitted : Option Code
Permitted = Some code.Permitted

abbrev pub AutomaticSegment : Option Code
AutomaticSegment = Some code.AutomaticSegment

abbrev pub AutomaticOutside : Option Code
AutomaticOutside = Some code.AutomaticOutside

abbrev pub AutomaticBandwidth : Option Code
AutomaticBandwidth = Some code.AutomaticBandwidth

abbrev pub AutomaticOriginate : Option Code
AutomaticOriginate = Some code.AutomaticOriginate

abbrev pub AutomaticResponse : Option Code
AutomaticResponse = Some code.AutomaticResponse

abbrev pub SixtyEmission : Option Code
SixtyEmission = Some code.SixtyEmission

abbrev pub SixtyOffChannel : Option Code
SixtyOffChannel = Some code.SixtyOffChannel

abbrev pub SixtyChannel : Option Code
SixtyChannel = Some code.SixtyChannel

abbrev pub SixtySegment : Option Code
SixtySegment = Some code.SixtySegment
