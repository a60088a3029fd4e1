-- Amendments with a day (document 02, 8): the lent list, which amendment counts for a record on a day, and the effective image.
use Rattle.std.specs.Prelude.{ℕ, zero, suc, ◌+◌, ◌*◌, ◌/◌, ◌%◌, Bool, true, not, cond, ◌&&◌, ◌||◌, List, eqb, leb, length, take, drop, Option, Some, None}
use Rattle.std.proofs.lemmas.List.Edits.{sets}
use Rattle.scan.specs.First.{some, on_found}
use Rattle.layout.specs.Bytes.{u16_at, u32_at}
use Rattle.layout.specs.Layout.{record_size, tables, count_of, records_before, tables_from}

-- "In the lent list it is 40 bytes: u16 table (0 to 8 in the image's order), u16 index, u32 day, the 32-byte record."
abbrev pub amendment_size : ℕ
amendment_size = 40

-- how many amendments a list has, and amendment j's fields
abbrev pub amendments_in : List ℕ → ℕ
amendments_in a = length a / amendment_size

abbrev pub table_at : List ℕ → ℕ → ℕ
table_at a j = u16_at a (amendment_size * j)

abbrev pub index_at : List ℕ → ℕ → ℕ
index_at a j = u16_at a (amendment_size * j + 2)

abbrev pub day_at : List ℕ → ℕ → ℕ
day_at a j = u32_at a (amendment_size * j + 4)

-- where its record begins, and the record's bytes
abbrev pub replacement_at : ℕ → ℕ
replacement_at j = amendment_size * j + 8

abbrev pub replacement_of : List ℕ → ℕ → List ℕ
replacement_of a j = take record_size (drop (replacement_at j) a)

-- 27 "a list not in forties, or a table number above 8 or an index beyond its table, anywhere in the list"
abbrev pub stray_at : List ℕ → List ℕ → ℕ → Bool
stray_at l a j = leb tables (table_at a j) || leb (count_of l (table_at a j)) (index_at a j)

unfoldable pub list_wrong : List ℕ → List ℕ → Bool
list_wrong l a = not (eqb (length a % amendment_size) 0) || some (stray_at l a) (amendments_in a)

-- ---- which amendment counts

-- "An amendment names a table, a record index": which of all the image's records, table after table, that is
abbrev pub slot_of : List ℕ → ℕ → ℕ → ℕ
slot_of l t i = records_before l t + i

abbrev pub named_at : List ℕ → List ℕ → ℕ → ℕ
named_at l a j = slot_of l (table_at a j) (index_at a j)

-- "not after that day"
abbrev pub in_force : List ℕ → ℕ → ℕ → Bool
in_force a day j = leb (day_at a j) day

-- amendment j goes before what was found up to it: "the latest-day amendment"; "on equal days the later in the list counts"
abbrev pub as_late : List ℕ → Option ℕ → ℕ → Bool
as_late a f j = on_found f (λ i. leb (day_at a i) (day_at a j)) true

-- "For a given day, a record is superseded by the latest-day amendment not after that day": the one that counts for record k of all, of the
-- first n amendments
unfoldable pub latest : List ℕ → List ℕ → ℕ → ℕ → ℕ → Option ℕ
latest l a day k zero = None
latest l a day k (suc n) =
    cond (eqb (named_at l a n) k && (in_force a day n && as_late a (latest l a day k n) n)) (Some n) (latest l a day k n)

abbrev pub counting : List ℕ → List ℕ → ℕ → ℕ → Option ℕ
counting l a day k = latest l a day k (amendments_in a)

-- ---- the effective image

-- where record k of all stands
abbrev pub slot_at : List ℕ → ℕ → ℕ
slot_at l k = tables_from l + record_size * k

-- the base image, with the amendments that count for its first k records in place
unfoldable pub amended_to : List ℕ → List ℕ → ℕ → ℕ → List ℕ
amended_to l a day zero = l
amended_to l a day (suc k) =
    on_found (counting l a day k) (λ j. sets (amended_to l a day k) (slot_at l k) (replacement_of a j)) (amended_to l a day k)

unfoldable pub effective_of : List ℕ → List ℕ → ℕ → List ℕ
effective_of l a day = amended_to l a day (records_before l tables)
