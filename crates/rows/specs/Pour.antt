-- Rows offered one after the other, to bytes with room or without. With room for all, the bytes are those of the rows in their order.
use Rattle.std.specs.Prelude.{ℕ, ◌+◌, List, [], ◌∷◌, ◌++◌, ◌≡◌}
use Rattle.lists.specs.Pour as offered
use Rattle.rows.specs.Held.{offer_at}
use Rattle.rows.specs.declared.SafeDial.{SafeDial}

abbrev pub pour : List ℕ → ℕ → List SafeDial → List ℕ
pour l n xs = offered.pour offer_at l n xs

abbrev pub Poured : List ℕ → ℕ → List ℕ → ℕ → List SafeDial → Type 0
Poured l n l' n' xs = offered.Poured offer_at l n l' n' xs

abbrev pub Pouring : List ℕ → ℕ → List SafeDial → List ℕ → ℕ → List SafeDial → Type 0
Pouring l₀ n₀ xs l n rest = offered.Pouring offer_at l₀ n₀ xs l n rest

pub poured_none : (l : List ℕ) (n : ℕ) → Poured l n l n []
poured_none = offered.poured_none offer_at

pub poured_more :
    (l : List ℕ) (n : ℕ) (l' : List ℕ) (n' : ℕ) (l'' : List ℕ) (n'' : ℕ) (xs ys : List SafeDial)
    → Poured l n l' n' xs → Poured l' n' l'' n'' ys → Poured l n l'' n'' (xs ++ ys)
poured_more = offered.poured_more offer_at

module _ (l₀ : List ℕ) (n₀ : ℕ) (xs : List SafeDial) where
  pub pouring_none : (rest : List SafeDial) → rest ≡ xs → Pouring l₀ n₀ xs l₀ n₀ rest
  pouring_none = offered.pouring_none offer_at l₀ n₀ xs

  pub pouring_more :
      (l : List ℕ) (n : ℕ) (l' : List ℕ) (n' : ℕ) (rest ys more : List SafeDial) → Pouring l₀ n₀ xs l n rest → rest ≡ ys ++ more
      → Poured l n l' n' ys → Pouring l₀ n₀ xs l' n' more
  pouring_more = offered.pouring_more offer_at l₀ n₀ xs

  pub pouring_step :
      (l l' : List ℕ) (n : ℕ) (x : SafeDial) (rest more : List SafeDial) → Pouring l₀ n₀ xs l n rest → rest ≡ x ∷ more → l' ≡ offer_at x n l
      → Pouring l₀ n₀ xs l' (n + 1) more
  pouring_step = offered.pouring_step offer_at l₀ n₀ xs

  pub pouring_done : (l : List ℕ) (n : ℕ) (rest : List SafeDial) → Pouring l₀ n₀ xs l n rest → rest ≡ [] → Poured l₀ n₀ l n xs
  pouring_done = offered.pouring_done offer_at l₀ n₀ xs
