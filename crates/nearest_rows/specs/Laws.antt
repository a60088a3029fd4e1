-- The search over rows by its laws.
use Rattle.std.specs.Prelude.{ℕ, false, ◌≡◌, Float, Option}
use mathlib.Core.List.{List, [], ◌∷◌, ◌++◌}
use Rattle.std.proofs.Math.Path.{refl}
use Rattle.lists.specs.Laws.{Every}
use Rattle.rows.specs.declared.SafeDial.{SafeDial}
use Rattle.distance.specs.Distance.{is_outside}
use Rattle.nearest_rows.specs.Over.{considered_of, nearest_over}

module _ (dial : Float) (flags channel : ℕ) where
  abbrev pub over : Option Float → List SafeDial → Option Float
  over = nearest_over dial flags channel

  pub over_none : (best : Option Float) → over best [] ≡ best
  unfolding nearest_over
  over_none best = refl

  pub over_row : (best : Option Float) (x : SafeDial) (xs : List SafeDial) → over best (x ∷ xs) ≡ over (considered_of dial flags channel best x) xs
  unfolding nearest_over
  over_row best x xs = refl

  pub over_append : (xs ys : List SafeDial) (best : Option Float) → over best (xs ++ ys) ≡ over (over best xs) ys
  unfolding nearest_over
  over_append [] ys best = refl
  over_append (x ∷ xs) ys best = over_append xs ys (considered_of dial flags channel best x)

  -- rows of the channel band change nothing
  pub over_channels : (xs : List SafeDial) → Every (λ x. is_outside flags channel x.band ≡ false) xs → (best : Option Float) → over best xs ≡ best
  unfolding nearest_over
  over_channels [] h best = refl
  over_channels (x ∷ xs) h best = rw h.0 (over_channels xs h.1 best)
