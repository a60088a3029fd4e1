-- The first index below n that passes a test, and whether there is one. Rust's `find`, `position` and `any`.
use Rattle.std.specs.Prelude.{ℕ, zero, suc, Bool, true, false, cond, Option, Some, None}

-- the first index that passes, of the n indices from i on
unfoldable pub first_from : (ℕ → Bool) → ℕ → ℕ → Option ℕ
first_from test zero i = None
first_from test (suc n) i = cond (test i) (Some i) (first_from test n (suc i))

-- the first index below n that passes
abbrev pub first : (ℕ → Bool) → ℕ → Option ℕ
first test n = first_from test n 0

abbrev pub is_at : Option ℕ → Bool
is_at (Some i) = true
is_at None = false

-- whether one of the indices below n passes
abbrev pub some : (ℕ → Bool) → ℕ → Bool
some test n = is_at (first test n)

-- by what a scan found: one thing at an index, another where there is nothing
abbrev pub on_found : {A : Type 0} → Option ℕ → (ℕ → A) → A → A
on_found (Some i) f a = f i
on_found None f a = a
