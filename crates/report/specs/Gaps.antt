-- What the ranges of a table leave of a window: each record that counts takes away the stretch that it shares with what is left.
use Rattle.std.specs.Prelude.{ℕ, zero, suc, cond, List, [], ◌∷◌, ◌++◌, Option}
use Rattle.profile.specs.Range.{range, lengthy}
use Rattle.profile.specs.declared.Range.{Range}
use Rattle.layout.specs.declared.Record.{Record}
use Rattle.sweep.specs.Sweep.{shared_with, on_shared}

-- the part of a piece below a stretch, and the part above it
abbrev pub below : Range → Range → Range
below piece x = range piece.low_hz x.low_hz

abbrev pub above : Range → Range → Range
above piece x = range x.high_hz piece.high_hz

-- what is made of a part, if it is "of positive length"
abbrev pub of_part : (Range → List Range) → Range → List Range
of_part f piece = cond (lengthy piece) (f piece) []

-- what the n records from i on leave of a piece, lowest first: of a record that shares a stretch with it, what the others leave of the
-- parts below and above that stretch; `at` gives the record at an index
unfoldable pub left_from : (ℕ → Record) → Option ℕ → ℕ → ℕ → Range → List Range
left_from at m zero i piece = piece ∷ []
left_from at m (suc n) i piece =
    on_shared (shared_with m piece (at i))
    (λ x. of_part (left_from at m n (suc i)) (below piece x) ++ of_part (left_from at m n (suc i)) (above piece x))
    (left_from at m n (suc i) piece)
