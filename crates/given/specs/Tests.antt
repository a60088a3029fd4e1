-- The refusals of what is given: "The writer refuses with the number that its image would get" (document 02, 6). 2 is never met: a writer
-- writes the letters itself.
use Rattle.std.specs.Prelude.{ℕ, ◌*◌, ◌≤◌, Bool, not, ◌&&◌, ◌||◌, List, ◌∷◌, eqb, ltb, length}
use Rattle.scan.specs.First.{some}
use Rattle.codes.specs.declared.Refusal.TheVariants as refusal
use Rattle.codes.specs.Refusal.{Test, test}
use Rattle.layout.specs.Layout.{tables}
use Rattle.image.specs.Check.{content_tests}
use Rattle.layout.specs.declared.General.{General}
use Rattle.given.specs.Given.{Runs, count_from, before_from, table_with}

-- 1: an image of over 2,045 records is over 65,552 bytes long, in either edition
abbrev pub too_many : List ℕ → Bool
too_many n = ltb 2045 (before_from n tables)

-- 3
abbrev pub neither_edition : ℕ → Bool
neither_edition edition = not (eqb edition 1) && not (eqb edition 2)

-- 4 "a count over 256", or a run that disagrees with the counts
abbrev pub overfull_from : List ℕ → Bool
overfull_from n = some (λ t. ltb 256 (count_from n t)) tables

unfoldable pub runs_wrong : Runs → ℕ → Bool
runs_wrong r count =
    not (eqb (length r.figures) (3 * count)) || (not (eqb (length r.codes) (4 * count)) || not (eqb (length r.rules) (2 * count)))

abbrev pub given_wrong : List ℕ → Runs → Bool
given_wrong n r = overfull_from n || runs_wrong r (before_from n tables)

-- 1, 3 and 4 of what is given, then 5 to 14 of its table
abbrev pub given_tests : ℕ → General → List ℕ → Runs → List Test
given_tests edition g n r = test refusal.ImageLength (too_many n) ∷ test refusal.Edition (neither_edition edition) ∷ test refusal.Counts (given_wrong n r) ∷ content_tests (table_with g n r)

-- the runs have so many records
pub record Held (r : Runs) (count : ℕ) : Type 0 where
  pub figures : 3 * count ≤ length r.figures
  pub codes : 4 * count ≤ length r.codes
  pub rules : 2 * count ≤ length r.rules
