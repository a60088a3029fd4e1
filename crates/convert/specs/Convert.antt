-- The converters between the editions: what each answers and leaves in the bytes lent to it (document 02, 6).
use Rattle.std.specs.Prelude.{ℕ, ◌+◌, ◌-◌, Bool, not, ◌&&◌, List, [], ◌∷◌, ◌++◌, eqb, take, drop, Result}
use Rattle.codes.specs.declared.Refusal.TheVariants as refusal
use Rattle.codes.specs.declared.Refusal.{Refusal}
use Rattle.codes.specs.Refusal.{Test, test, refusal_of}
use Rattle.layout.specs.Layout.{general_size, watts_size, trailer_of, edition_of, fixed_channel_watts, fixed_segment_watts, general_of}
use Rattle.layout.specs.Form.{size_wrong, letters_wrong, counts_wrong}
use Rattle.layout.specs.declared.General.{General}
use Rattle.table.specs.Table.{table_of}
use Rattle.image.specs.Check.{content_tests}
use Rattle.writer.specs.Image.{watts_bytes, end_bytes}
use Rattle.writer.specs.Write.{room_test, Left}

-- "a converter meets 3 on an image that already has the edition it converts to": the image's tests, with 3 for every edition but one
abbrev pub from_tests : ℕ → List ℕ → List Test
from_tests edition l =
    test refusal.ImageLength (size_wrong l) ∷ test refusal.Letters (letters_wrong l) ∷ test refusal.Edition (not (eqb (edition_of l) edition)) ∷ test refusal.Counts (counts_wrong l)
    ∷ content_tests (table_of l)

-- "It refuses (26, after the image checks) to lower an image whose watts differ from those two"
abbrev pub other_watts : General → Bool
other_watts g = not (eqb g.channel_watts fixed_channel_watts && eqb g.segment_watts fixed_segment_watts)

abbrev pub raise_tests : List ℕ → List Test
raise_tests l = from_tests 1 l

abbrev pub lower_tests : List ℕ → List Test
lower_tests l = from_tests 2 l ++ (test refusal.Watts (other_watts (general_of l)) ∷ [])

-- the records and the counts, from where the tables begin
abbrev pub moved_of : ℕ → List ℕ → List ℕ
moved_of from l = take (trailer_of l + 18 - from) (drop from l)

-- edition 2 of an image of edition 1: "going up always fills in 100 and 9.15", "the distance back is 16 longer"
unfoldable pub raised_of : List ℕ → List ℕ
raised_of l =
    take general_size l ++ (watts_bytes fixed_channel_watts fixed_segment_watts ++ (moved_of general_size l ++ end_bytes (trailer_of l + watts_size) 2))

-- edition 1 of an image of edition 2
unfoldable pub lowered_of : List ℕ → List ℕ
lowered_of l = take general_size l ++ (moved_of (general_size + watts_size) l ++ end_bytes (trailer_of l - watts_size) 1)

-- what the converters promise; "23, last, also meets an output shorter than the image to be written"
abbrev pub Raised : List ℕ → List ℕ → List ℕ → Result ℕ Refusal → Type 0
Raised l lent left answer = Left (refusal_of (raise_tests l ++ room_test (raised_of l) lent)) (raised_of l) lent left answer

abbrev pub Lowered : List ℕ → List ℕ → List ℕ → Result ℕ Refusal → Type 0
Lowered l lent left answer = Left (refusal_of (lower_tests l ++ room_test (lowered_of l) lent)) (lowered_of l) lent left answer
