-- Refusals 1 to 4: the size, the letters, the edition, and whether length, counts and distance agree. An image with none of them is whole:
-- every record has its place between the general block and the trailer.
use Rattle.std.specs.Prelude.{ℕ, ◌+◌, ◌*◌, ◌≤◌, ◌<◌, ◌≡◌, Bool, not, ◌&&◌, ◌||◌, List, [], ◌∷◌, length, ltb, eqb}
use Rattle.scan.specs.First.{some}
use Rattle.codes.specs.declared.Refusal.TheVariants as refusal
use Rattle.codes.specs.Refusal.{Test, test}
use Rattle.layout.specs.Bytes.{byte_at}
use Rattle.layout.specs.Layout.{general_size, tables_from, record_size, trailer_size, tables, trailer_of, count_of}
use Rattle.layout.specs.Layout.{distance_back, edition_of, letters_of, records_before}

-- 1 "image under 92 or over …": "over 65,552" since document 02 (6)
abbrev pub size_wrong : List ℕ → Bool
size_wrong l = ltb (length l) (general_size + trailer_size) || ltb 65552 (length l)

-- "the ASCII letters EDGE", the trailer's last bytes
abbrev pub letters : List ℕ
letters = 69 ∷ 68 ∷ 71 ∷ 69 ∷ []

-- 2 "letters"
abbrev pub letter_right : List ℕ → ℕ → Bool
letter_right l i = eqb (byte_at l (letters_of l + i)) (byte_at letters i)

abbrev pub letters_wrong : List ℕ → Bool
letters_wrong l = not (letter_right l 0 && (letter_right l 1 && (letter_right l 2 && letter_right l 3)))

-- 3 "edition": "3 now passes both editions"
abbrev pub edition_wrong : List ℕ → Bool
edition_wrong l = not (eqb (edition_of l) 1) && not (eqb (edition_of l) 2)

-- a count over 256
abbrev pub overfull_at : List ℕ → ℕ → Bool
overfull_at l t = ltb 256 (count_of l t)

abbrev pub overfull : List ℕ → Bool
overfull l = some (overfull_at l) tables

-- 4 "a count over 256, or a length or distance that disagrees"; "a length wrong for the edition meets 4"
abbrev pub length_wrong : List ℕ → Bool
length_wrong l = not (eqb (trailer_of l) (tables_from l + record_size * records_before l tables))

abbrev pub distance_wrong : List ℕ → Bool
distance_wrong l = not (eqb (distance_back l) (trailer_of l))

abbrev pub counts_wrong : List ℕ → Bool
counts_wrong l = overfull l || (length_wrong l || distance_wrong l)

abbrev pub form_tests : List ℕ → List Test
form_tests l = test refusal.ImageLength (size_wrong l) ∷ test refusal.Letters (letters_wrong l) ∷ test refusal.Edition (edition_wrong l) ∷ test refusal.Counts (counts_wrong l) ∷ []

-- Whole: refused by none of 1 to 4. Every record of every table lies between the general block and the trailer.
pub record Whole (l : List ℕ) : Type 0 where
  pub sized : general_size + trailer_size ≤ length l
  pub small : length l ≤ 65552
  pub few : (t : ℕ) → t < tables → count_of l t ≤ 256
  pub filled : length l ≡ tables_from l + record_size * records_before l tables + trailer_size
