-- The numbers of an answer's cases. "Codes 1 to 25: no_profile, profile_broken, …" are document 01's; those of the verdicts, the edges, the
-- overshoot and the guidance are ours (docs/DECISIONS.md).
use Rattle.std.specs.Prelude.{ℕ, Option, Some, None}
use Rattle.decision.specs.declared.Verdict.{Verdict}
use Rattle.decision.specs.declared.Verdict.TheVariants.{Legal, Warning, Blocked}
use Rattle.decision.specs.declared.Code.{Code}
use Rattle.decision.specs.declared.Code.TheVariants.{NoProfile, ProfileBroken, NoRules, Unmeasured, Region, NoControl, NoLicense}
use Rattle.decision.specs.declared.Code.TheVariants.{NoSideband, NoDial, OutOfBand, AutomaticExcluded, TooWide}
use Rattle.decision.specs.declared.Code.TheVariants.{OutsideDataSegment, NoDataHere, Privilege, Permitted, AutomaticSegment}
use Rattle.decision.specs.declared.Code.TheVariants.{AutomaticOutside, AutomaticBandwidth, AutomaticOriginate, AutomaticResponse}
use Rattle.decision.specs.declared.Code.TheVariants.{SixtyEmission, SixtyOffChannel, SixtyChannel, SixtySegment}
use Rattle.decision.specs.declared.Edge.{Edge}
use Rattle.decision.specs.declared.Edge.TheVariants.{Lower, Upper}
use Rattle.decision.specs.declared.Overshoot.{Overshoot}
use Rattle.decision.specs.declared.Overshoot.TheVariants.{Beyond, TooClose}
use Rattle.decision.specs.declared.Guidance.{Guidance}
use Rattle.decision.specs.declared.Guidance.TheVariants.{Avoid, Inside, Outside}

abbrev pub verdict_number : Verdict → ℕ
verdict_number Legal = 0
verdict_number Warning = 1
verdict_number Blocked = 2

abbrev pub number_of_code : Code → ℕ
number_of_code NoProfile = 1
number_of_code ProfileBroken = 2
number_of_code NoRules = 3
number_of_code Unmeasured = 4
number_of_code Region = 5
number_of_code NoControl = 6
number_of_code NoLicense = 7
number_of_code NoSideband = 8
number_of_code NoDial = 9
number_of_code OutOfBand = 10
number_of_code AutomaticExcluded = 11
number_of_code TooWide = 12
number_of_code OutsideDataSegment = 13
number_of_code NoDataHere = 14
number_of_code Privilege = 15
number_of_code Permitted = 16
number_of_code AutomaticSegment = 17
number_of_code AutomaticOutside = 18
number_of_code AutomaticBandwidth = 19
number_of_code AutomaticOriginate = 20
number_of_code AutomaticResponse = 21
number_of_code SixtyEmission = 22
number_of_code SixtyOffChannel = 23
number_of_code SixtyChannel = 24
number_of_code SixtySegment = 25

-- 0 where there is none: a refusal
abbrev pub code_number : Option Code → ℕ
code_number (Some c) = number_of_code c
code_number None = 0

abbrev pub edge_number : Edge → ℕ
edge_number Lower = 0
edge_number Upper = 1

-- 0 none, 1 beyond an edge by a distance, 2 too close to an edge
abbrev pub overshoot_number : Option Overshoot → ℕ
overshoot_number (Some (Beyond by edge)) = 1
overshoot_number (Some (TooClose edge)) = 2
overshoot_number None = 0

-- "guidance (none, avoid, inside, outside, with index)"
abbrev pub guidance_number : Option Guidance → ℕ
guidance_number None = 0
guidance_number (Some (Avoid i)) = 1
guidance_number (Some (Inside i)) = 2
guidance_number (Some Outside) = 3

-- The rules that document 01 numbers: "Rules 0 to 6 mean empty, §97.301, §97.109, §97.305(a), §97.305(b), §97.305(c), §97.307(f)(9)".
abbrev pub no_rule : ℕ
no_rule = 0

abbrev pub §97-301 : ℕ
§97-301 = 1

abbrev pub §97-109 : ℕ
§97-109 = 2

abbrev pub §97-305a : ℕ
§97-305a = 3

abbrev pub §97-305b : ℕ
§97-305b = 4

abbrev pub §97-305c : ℕ
§97-305c = 5

abbrev pub §97-307f9 : ℕ
§97-307f9 = 6
