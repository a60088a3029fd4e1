-- The least over one row more, as it stands in the bytes and as it is read.
use Rattle.std.specs.Prelude.{ℕ, suc, ◌+◌, ◌*◌, List, ◌≡◌, Float}
use Rattle.std.proofs.Common.{arith}
use Rattle.rows.specs.Rows.{row_size, row_at}
use Rattle.distance.specs.Distance.{considered_of, considered_at, least_up_to}

pub least_more :
    (dial : Float) (flags channel : ℕ) (rows : List ℕ) (n : ℕ)
    → least_up_to dial flags channel rows (n + 1) ≡ considered_at dial flags channel rows (least_up_to dial flags channel rows n) (n * row_size)
unfolding least_up_to
least_more dial flags channel rows n = let e : n + 1 ≡ suc n = omega arith in rw e

pub least_step :
    (dial : Float) (flags channel : ℕ) (rows : List ℕ) (n : ℕ)
    → considered_of dial flags channel (least_up_to dial flags channel rows n) (row_at rows (n * row_size))
    ≡ least_up_to dial flags channel rows (n + 1)
unfolding considered_at least_up_to row_at
least_step dial flags channel rows n = let e : n + 1 ≡ suc n = omega arith in rw e
