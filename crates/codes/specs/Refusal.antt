-- The refusals, and their one order: each call has a list of tests, and the first that fails gives the answer.
use Rattle.std.specs.Prelude.{ℕ, Bool, true, false, cond, List, [], ◌∷◌, Result, Ok, Err}
use Rattle.codes.specs.declared.Refusal.{Refusal}
use Rattle.codes.specs.declared.Refusal.TheVariants as refusal

-- "the number of the first refusal"
abbrev pub number_of : Refusal → ℕ
number_of refusal.ImageLength = 1
number_of refusal.Letters = 2
number_of refusal.Edition = 3
number_of refusal.Counts = 4
number_of refusal.CodedByte = 5
number_of refusal.ImageFigure = 6
number_of refusal.BandRange = 7
number_of refusal.SegmentRange = 8
number_of refusal.AutomaticRange = 9
number_of refusal.PrivilegeRange = 10
number_of refusal.EmptyTable = 11
number_of refusal.SegmentOutside = 12
number_of refusal.OwnLimit = 13
number_of refusal.GeneralLimit = 14
number_of refusal.SignalEdge = 15
number_of refusal.Rungs = 16
number_of refusal.StationCode = 20
number_of refusal.StationFigure = 21
number_of refusal.NoImage = 22
number_of refusal.Rows = 23
number_of refusal.Text = 24
number_of refusal.Report = 25
number_of refusal.Watts = 26
number_of refusal.Amendments = 27
number_of refusal.AmendedRoom = 28
number_of refusal.SecondSwap = 29
number_of refusal.Walk = 30
number_of refusal.Starts = 31
number_of refusal.Runs = 32
number_of refusal.Stretch = 33
number_of refusal.FarDial = 34
number_of (refusal.Other n) = n

-- one of the papers': what a call answers
abbrev pub is_named : Refusal → Bool
is_named (refusal.Other n) = false
is_named _ = true

-- what a check says of its input
abbrev pub Checked : Type 0
Checked = Result Unit Refusal

-- a refusal, and whether its test fails
pub record Test : Type 0 where
  pub refusal : Refusal
  pub fails : Bool

abbrev pub test : Refusal → Bool → Test
test r b = record { refusal = r; fails = b }

-- the first test that fails
abbrev pub refusal_of : List Test → Checked
refusal_of [] = Ok tt
refusal_of (t ∷ ts) = cond t.fails (Err t.refusal) (refusal_of ts)
