-- Below a table's count, its records are those that the bytes hold.
use Rattle.std.specs.Prelude.{ℕ, ◌+◌, ◌*◌, ◌<◌, List, ◌≡◌}
use Rattle.std.proofs.Common.{sym, ap, ◌∙◌, lt-ltb}
use Rattle.layout.specs.Layout.{record_size, tables, count_of, start_of, record_at, record_of}
use Rattle.layout.specs.declared.Record.{Record}
use Rattle.table.specs.Table.{count_in, record_in}

pub count_in_holds : (l : List ℕ) (t : ℕ) → t < tables → count_in l t ≡ count_of l t
count_in_holds l t h = rw (lt-ltb t tables h)

pub at_in : (l : List ℕ) (t i : ℕ) → t < tables → i < count_of l t → record_in l t i ≡ record_of l t i
unfolding record_in
at_in l t i h k = rw (count_in_holds l t h) (rw (lt-ltb i (count_of l t) k))

-- a record that was read from where its table begins
pub read_in :
    (l : List ℕ) (t i start : ℕ) (r : Record) → t < tables → i < count_of l t → start ≡ start_of l t → r ≡ record_at l (start + record_size * i)
    → r ≡ record_in l t i
read_in l t i start r h k s e = e ∙ ap (λ (a : ℕ). record_at l (a + record_size * i)) s ∙ sym (at_in l t i h k)
