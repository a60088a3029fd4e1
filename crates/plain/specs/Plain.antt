-- A record that is plainly right: figures whose bits are at most those of 2^40, a range of positive length where the table asks
-- for one, a positive own limit, and coded bytes among their values.
use Rattle.std.specs.Prelude.{ℕ, ◌+◌, ◌*◌, Bool, true, not, cond, ◌&&◌, List, eqb, leb, ltb}
use Rattle.codes.specs.Code.{bit_of}
use Rattle.bit_order.specs.Order.{limit_bits}
use Rattle.layout.specs.Layout.{bands, segments, privileges, automatic, tables, record_size, record_at, start_of, count_of}
use Rattle.layout.specs.declared.Record.{Record}
use Rattle.coded.specs.Coded.{coded_of}
use Rattle.scan.specs.First.{some}

unfoldable pub sized_of : Record → Bool
sized_of r = leb r.low limit_bits && (leb r.high limit_bits && leb r.figure limit_bits)

abbrev pub longer : Record → Bool
longer r = ltb r.low r.high

unfoldable pub long_of : ℕ → Record → Bool
long_of t r =
    cond (eqb t bands) (longer r) (cond (eqb t segments) (longer r) (cond (eqb t privileges) (longer r) (cond (eqb t automatic) (longer r) true)))

unfoldable pub limited_of : ℕ → Record → Bool
limited_of t r = cond (eqb t segments) (cond (bit_of r.flags 0) (ltb 0 r.figure) true) true

unfoldable pub plain_of : ℕ → Record → Bool
plain_of t r = sized_of r && (long_of t r && (limited_of t r && coded_of t r))

-- a record of table t is not plain, of those that begin at a place; some of the first n; some of some table
abbrev pub rough_at : List ℕ → ℕ → ℕ → ℕ → Bool
rough_at l t start i = not (plain_of t (record_at l (start + record_size * i)))

unfoldable pub rough_from : List ℕ → ℕ → ℕ → ℕ → Bool
rough_from l t start n = some (rough_at l t start) n

abbrev pub rough_in : List ℕ → ℕ → Bool
rough_in l t = rough_from l t (start_of l t) (count_of l t)

unfoldable pub is_rough : List ℕ → Bool
is_rough l = some (rough_in l) tables
