-- What the writer answers and leaves in the bytes lent to it.
use Rattle.std.specs.Prelude.{ℕ, List, [], ◌∷◌, ◌++◌, ◌≡◌, ltb, length, drop, Result, Ok, Err}
use Rattle.codes.specs.declared.Refusal.TheVariants as refusal
use Rattle.codes.specs.Refusal.{Checked, Test, test, refusal_of}
use Rattle.codes.specs.declared.Refusal.{Refusal}
use Rattle.given.specs.declared.Fields.{Fields}
use Rattle.given.specs.Given.{Runs, general_from}
use Rattle.given.specs.Tests.{given_tests}
use Rattle.writer.specs.Image.{image_of}

-- "23, last, also meets an output shorter than the image to be written"
abbrev pub room_test : List ℕ → List ℕ → List Test
room_test image lent = test refusal.Rows (ltb (length lent) (length image)) ∷ []

abbrev pub image_answer : Checked → List ℕ → Result ℕ Refusal
image_answer (Ok tt) image = Ok (length image)
image_answer (Err n) image = Err n

-- the image from the first byte on, and behind it what was lent; with a refusal, what was lent
abbrev pub image_bytes : Checked → List ℕ → List ℕ → List ℕ
image_bytes (Ok tt) image lent = image ++ drop (length image) lent
image_bytes (Err n) image lent = lent

-- an answer and the bytes that were left, of a call that writes an image
pub record Left (c : Checked) (image lent left : List ℕ) (answer : Result ℕ Refusal) : Type 0 where
  pub answered : answer ≡ image_answer c image
  pub bytes : left ≡ image_bytes c image lent

-- the image of these fields and records
abbrev pub image_from : Fields → List ℕ → Runs → List ℕ
image_from f n r = image_of f.edition (general_from f) n r

-- "The writer refuses with the number that its image would get"; then 23
abbrev pub write_tests : Fields → List ℕ → Runs → List ℕ → List Test
write_tests f n r lent = given_tests f.edition (general_from f) n r ++ room_test (image_from f n r) lent

-- what the writer promises
abbrev pub Written : Fields → List ℕ → Runs → List ℕ → List ℕ → Result ℕ Refusal → Type 0
Written f n r lent left answer = Left (refusal_of (write_tests f n r lent)) (image_from f n r) lent left answer
