-- What the amending call answers and leaves in the bytes lent to it (document 02, 8).
use Rattle.std.specs.Prelude.{ℕ, List, ◌∷◌, ◌++◌, ltb, length, Result}
use Rattle.codes.specs.declared.Refusal.TheVariants as refusal
use Rattle.codes.specs.declared.Refusal.{Refusal}
use Rattle.codes.specs.Refusal.{Test, test, refusal_of}
use Rattle.image.specs.Check.{check_tests}
use Rattle.writer.specs.Write.{Left}
use Rattle.amended.specs.Amended.{list_wrong, effective_of}

-- "It refuses (27, after the base image's checks) …, and (28, next, before the effective image's checks) an output buffer shorter than the
-- image"; the effective image "must pass every image check too, and where it fails, that check's number is given"
abbrev pub amend_tests : List ℕ → List ℕ → ℕ → List ℕ → List Test
amend_tests l a day lent =
    check_tests l ++ (test refusal.Amendments (list_wrong l a) ∷ test refusal.AmendedRoom (ltb (length lent) (length l)) ∷ check_tests (effective_of l a day))

-- what the call promises: "every refusal comes before any byte is written"
abbrev pub Amended : List ℕ → List ℕ → ℕ → List ℕ → List ℕ → Result ℕ Refusal → Type 0
Amended l a day lent left answer = Left (refusal_of (amend_tests l a day lent)) (effective_of l a day) lent left answer
