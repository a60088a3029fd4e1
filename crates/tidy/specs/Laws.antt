-- A law of the tidy question, over an image's bytes.
use Rattle.std.specs.Prelude.{ℕ, ◌+◌, ◌*◌, ◌<◌, Bool, List, ◌≡◌, refl}
use Rattle.std.proofs.Common.{ap, ◌∙◌, arith}
use Rattle.scan.specs.First.{some}
use Rattle.scan.specs.Laws.{some_same}
use Rattle.layout.specs.Layout.{record_size, tables, count_of, start_of, record_at}
use Rattle.layout.specs.declared.Record.{Record}
use Rattle.table.specs.Table.{record_in, table_of}
use Rattle.table.specs.Laws.{read_in}
use Rattle.find.specs.Question.{asks}
use Rattle.tidy.specs.Tidy.{pair_question, shares_earlier}

-- An earlier record that shares a stretch, asked of an image's bytes: of the records from where the table begins up to record j.
pub earlier_in :
    (l : List ℕ) (t : ℕ) (classes : Bool) (j start : ℕ) → t < tables → j < count_of l t → start ≡ start_of l t
    → some (λ i. asks (pair_question classes (record_at l (start + record_size * j))) (record_at l (start + record_size * i))) j
    ≡ shares_earlier (table_of l) t classes j
earlier_in l t classes j start h k s =
    let here : record_at l (start + record_size * j) ≡ record_in l t j = read_in l t j start (record_at l (start + record_size * j)) h k s refl in
    some_same (λ i. asks (pair_question classes (record_at l (start + record_size * j))) (record_at l (start + record_size * i)))
    (λ i. asks (pair_question classes (record_in l t j)) (record_in l t i)) j
    (λ i b.
    ap (λ (r : Record). asks (pair_question classes r) (record_at l (start + record_size * i))) here
    ∙ ap (asks (pair_question classes (record_in l t j))) (read_in l t i start (record_at l (start + record_size * i)) h (omega arith) s refl))
