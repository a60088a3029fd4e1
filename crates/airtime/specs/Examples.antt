-- The totals of single runs, computed: 599 seconds count and 600 do not, the record itself and the earlier of equal starts do, other
-- bands do not.
use Rattle.std.specs.Prelude.{[], ◌∷◌, ◌≡◌, refl}
use Rattle.lists.specs.Each.{each}
use Rattle.airtime.specs.Airtime.{sum, total_of, totals_of}

pub none : totals_of [] [] [] ≡ []
unfolding totals_of total_of sum each
none = refl

pub near : totals_of (0 ∷ 599 ∷ 600 ∷ []) (1 ∷ 1 ∷ 1 ∷ []) (10 ∷ 20 ∷ 40 ∷ []) ≡ 10 ∷ 30 ∷ 60 ∷ []
unfolding totals_of total_of sum each
near = refl

pub equal : totals_of (7 ∷ 7 ∷ 7 ∷ []) (1 ∷ 2 ∷ 1 ∷ []) (10 ∷ 20 ∷ 40 ∷ []) ≡ 10 ∷ 20 ∷ 50 ∷ []
unfolding totals_of total_of sum each
equal = refl

-- the last second of u64
pub last : totals_of (18446744073709551016 ∷ 18446744073709551615 ∷ []) (0 ∷ 0 ∷ []) (65535 ∷ 65535 ∷ []) ≡ 65535 ∷ 131070 ∷ []
unfolding totals_of total_of sum each
last = refl
