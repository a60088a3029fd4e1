-- Before dial k the loop holds the counts of the first k.
use Rattle.std.proofs.Common.{◌≡◌, ℕ, ℤ}
use Rattle.transmission.specs.declared.Transmission.{Transmission}
use Rattle.census.specs.Census.{dial_at, code_on, counts_of}
use Rattle.census.proofs.count_all.Given as goal

-- the code of each dial
abbrev pub codes : Transmission → ℤ → ℕ → ℕ
codes x first k = code_on x (dial_at first k)

abbrev pub invariant-loop-k : goal.invariant-loop-k
invariant-loop-k l = l.counts ≡ counts_of (codes l.x l.first) l.k
