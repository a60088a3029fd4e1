-- Whether a band of a plain table holds a segment, by the bits of their ends.
use Rattle.std.specs.Prelude.{ℕ, ◌<◌, ◌≡◌, Bool, false, ◌&&◌, List, leb}
use Rattle.std.proofs.Common.{sym, ap, ◌∙◌, arith}
use Rattle.bit_order.specs.Order.{bits_le}
use Rattle.layout.specs.Layout.{bands, segments, count_of, start_of, record_of}
use Rattle.layout.specs.declared.Record.{Record}
use Rattle.table.specs.Parts.{span_of}
use Rattle.table.specs.Table.{record_in, table_of}
use Rattle.table.specs.Laws.{at_in}
use Rattle.scan.specs.First.{some, is_at}
use Rattle.scan.specs.Laws.{some_same}
use Rattle.find.specs.Question.{asks, asks_at, some_in}
use Rattle.find.specs.Laws.{first_in_holds}
use Rattle.find.specs.declared.Question.TheVariants.{Holds}
use Rattle.plain.specs.Plain.{is_rough}
use Rattle.plain.specs.Laws.{parts, plain_at}

-- band j holds the range between two ends
unfoldable pub held_bits : List ℕ → ℕ → ℕ → ℕ → Bool
held_bits l low high j = leb (record_of l bands j).low low && leb high (record_of l bands j).high

module _ (l : List ℕ) (smooth : is_rough l ≡ false) (i : ℕ) (below : i < count_of l segments) where
  held : (j : ℕ) → j < count_of l bands → held_bits l (record_of l segments i).low (record_of l segments i).high j
      ≡ asks (Holds (span_of (record_of l segments i))) (record_of l bands j)
  unfolding held_bits asks
  held j h =
      let a = parts segments (record_of l segments i) (plain_at l smooth segments i (omega arith) below) in
      let b = parts bands (record_of l bands j) (plain_at l smooth bands j (omega arith) h) in
      rw (bits_le (record_of l bands j).low (record_of l segments i).low b.low_le a.low_le)
      (rw (bits_le (record_of l segments i).high (record_of l bands j).high a.high_le b.high_le))

  pub held_some : some (held_bits l (record_of l segments i).low (record_of l segments i).high) (count_of l bands)
      ≡ some_in (table_of l) bands (Holds (span_of (record_in l segments i)))
  held_some =
      some_same (held_bits l (record_of l segments i).low (record_of l segments i).high) (asks_at l (start_of l bands) (Holds (span_of (record_of l segments i))))
      (count_of l bands) held
      ∙ ap is_at (sym (first_in_holds l bands (Holds (span_of (record_of l segments i))) (omega arith)))
      ∙ ap (λ (r : Record). some_in (table_of l) bands (Holds (span_of r))) (sym (at_in l segments i (omega arith) below))
