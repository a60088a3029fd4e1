-- What becomes of lent bytes that rows are to fill.
use Rattle.std.specs.Prelude.{ℕ, ◌*◌, ◌/◌, ◌≤◌, Bool, cond, List, ◌++◌, ◌≡◌, ltb, length, drop, Result, Ok, Err}
use Rattle.codes.specs.declared.Refusal.{Refusal}

-- n rows gathered into bytes: they are counted, and where there is room for all, their bytes stand first
pub record Gathered (n size : ℕ) (encoded before : List ℕ) (count : ℕ) (after : List ℕ) : Type 0 where
  pub counted : count ≡ n
  pub written : n * size ≤ length before → after ≡ encoded ++ drop (n * size) before

-- fewer whole rows are lent than there are
abbrev pub too_few : ℕ → ℕ → List ℕ → Bool
too_few n size lent = ltb (length lent / size) n

-- refused, and left as they were lent; or their count, and filled
pub record Filled (refusal : Refusal) (n size : ℕ) (encoded lent left : List ℕ) (answer : Result ℕ Refusal) : Type 0 where
  pub answered : answer ≡ cond (too_few n size lent) (Err refusal) (Ok n)
  pub bytes : left ≡ cond (too_few n size lent) lent (encoded ++ drop (n * size) lent)
