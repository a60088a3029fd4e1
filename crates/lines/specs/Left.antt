-- What a read from the front of an input leaves of it.
use Rattle.std.specs.Prelude.{ℕ, ◌+◌, ◌<◌, List, ◌≡◌, length, drop, Option, MatchOption}

-- n bytes are read: where so many are left there is an answer, and so many fewer are left; else there is none
abbrev pub Reads : {A : Type 0} → ℕ → List ℕ → List ℕ → Option A → Type 0
Reads n before after r = MatchOption r (length before < n) (λ _. length after + n ≡ length before)

-- the same, and what is left is all that stood behind them, or, without an answer, what was left before
abbrev pub Takes : {A : Type 0} → ℕ → List ℕ → List ℕ → Option A → Type 0
Takes n before after r =
    MatchOption r ((length before < n) × (after ≡ before)) (λ _. (length after + n ≡ length before) × (after ≡ drop n before))
