-- Refusals 1 to 14 of an image, in their order: each is tested over the whole image before the next.
use Rattle.std.specs.Prelude.{ℕ, Bool, false, not, ◌&&◌, ◌||◌, List, [], ◌∷◌, ◌++◌, Result, Ok, Err}
use Rattle.codes.specs.declared.Refusal.TheVariants as refusal
use Rattle.codes.specs.declared.Refusal.{Refusal}
use Rattle.codes.specs.Refusal.{Checked, Test, test, refusal_of}
use Rattle.std.specs.Float.Ieee.{le}
use Rattle.figures.specs.Figure.{zero_hz, figure_of}
use Rattle.scan.specs.First.{some}
use Rattle.layout.specs.Layout.{tables, bands, segments, channels, privileges, automatic, plan_data, plan_avoid}
use Rattle.layout.specs.Form.{form_tests}
use Rattle.layout.specs.declared.General.{General}
use Rattle.coded.specs.Coded.{blank, coded_general}
use Rattle.table.specs.Table.{Table, table_of}
use Rattle.find.specs.Question.{sound_bits, some_in, homeless_of}
use Rattle.find.specs.declared.Question.TheVariants.{Miscoded, Unsound, NotLengthy, NoLimit}

-- 5 "a coded byte outside its values, an unused one not zero, or a table of an absent part not empty"
unfoldable pub coded_block : Table → Bool
coded_block table = coded_general table.general (table.count channels) (table.count plan_data) (table.count plan_avoid)

abbrev pub miscoded_in : Table → ℕ → Bool
miscoded_in table t = some_in table t (Miscoded t)

unfoldable pub miscoded : Table → Bool
miscoded table = not (coded_block table) || some (miscoded_in table) tables

-- 6 "a figure not finite, above 2^40 in size, or negative zero": those of the general block, its watts with them, then those of each
-- table's records
unfoldable pub sound_block : General → Bool
sound_block g =
    sound_bits g.data_limit && (sound_bits g.elsewhere_limit && (sound_bits g.channel_width
    && (sound_bits g.carrier_offset && (sound_bits g.carrier_tolerance
    && (sound_bits g.channel_watts && sound_bits g.segment_watts)))))

abbrev pub unsound_in : Table → ℕ → Bool
unsound_in table t = some_in table t Unsound

unfoldable pub unsound : Table → Bool
unsound table = not (sound_block table.general) || some (unsound_in table) tables

-- 11 "no bands or no segments"
unfoldable pub bare : Table → Bool
bare table = blank (table.count bands) || blank (table.count segments)

-- 14 "general limit ≤ 0"
unfoldable pub unlimited : General → Bool
unlimited g = le (figure_of g.data_limit) zero_hz

-- 5 to 14: "7 band, 8 segment, 9 automatic, 10 privilege range with low ≥ high; 11 no bands or no segments; 12 a segment in no band;
-- 13 own limit ≤ 0; 14 general limit ≤ 0"
abbrev pub content_tests : Table → List Test
content_tests table =
    test refusal.CodedByte (miscoded table) ∷ test refusal.ImageFigure (unsound table) ∷ test refusal.BandRange (some_in table bands NotLengthy) ∷ test refusal.SegmentRange (some_in table segments NotLengthy)
    ∷ test refusal.AutomaticRange (some_in table automatic NotLengthy) ∷ test refusal.PrivilegeRange (some_in table privileges NotLengthy) ∷ test refusal.EmptyTable (bare table)
    ∷ test refusal.SegmentOutside (homeless_of table false) ∷ test refusal.OwnLimit (some_in table segments NoLimit) ∷ test refusal.GeneralLimit (unlimited table.general) ∷ []

abbrev pub check_tests : List ℕ → List Test
check_tests l = form_tests l ++ content_tests (table_of l)

-- the check's answer
unfoldable pub check_of : List ℕ → Checked
check_of l = refusal_of (check_tests l)

-- the image of accepted bytes: the bytes themselves
abbrev pub image_or : List ℕ → Checked → Result (List ℕ) Refusal
image_or l (Ok tt) = Ok l
image_or l (Err n) = Err n

abbrev pub accepted_of : List ℕ → Result (List ℕ) Refusal
accepted_of l = image_or l (check_of l)
