-- Laws of scans over a table: what they find in an image's bytes, and what a pick says.
use Rattle.std.specs.Prelude.{ℕ, ◌<◌, List, ◌≡◌, refl, Option, Some, None}
use Rattle.layout.specs.Layout.{tables, count_of, start_of}
use Rattle.layout.specs.declared.Record.{Record}
use Rattle.table.specs.Table.{Table, record_in, table_of}
use Rattle.table.specs.Laws.{count_in_holds, at_in}
use Rattle.scan.specs.First.{first, on_found}
use Rattle.scan.specs.Laws.{first_same, first_at}
use Rattle.std.proofs.Common.{sym, ap, ◌∙◌, arith, option_map}
use Rattle.find.specs.declared.Question.{Question}
use Rattle.find.specs.Question.{asks, asks_at, first_in, pick_in}

-- The first record that passes, asked of an image's bytes from where a table begins.
pub first_in_holds : (l : List ℕ) (t : ℕ) (q : Question) → t < tables → first_in (table_of l) t q ≡ first (asks_at l (start_of l t) q) (count_of l t)
first_in_holds l t q h =
    rw (count_in_holds l t h)
    (first_same (λ i. asks q (record_in l t i)) (asks_at l (start_of l t) q) (count_of l t) (λ i k. ap (asks q) (at_in l t i h k)))

-- what a scan of a table's bytes found
pub found_in :
    (l : List ℕ) (t : ℕ) (q : Question) (start count : ℕ) (f : Option ℕ) → t < tables → start ≡ start_of l t → count ≡ count_of l t
    → f ≡ first (asks_at l start q) count → f ≡ first_in (table_of l) t q
found_in l t q start count f h s n e =
    e ∙ ap (λ (a : ℕ). first (asks_at l a q) count) s ∙ ap (λ (k : ℕ). first (asks_at l (start_of l t) q) k) n ∙ sym (first_in_holds l t q h)

-- it lies below the table's count
pub found_below : (l : List ℕ) (t : ℕ) (q : Question) (i : ℕ) → t < tables → first_in (table_of l) t q ≡ Some i → i < count_of l t
found_below l t q i h e = (first_at (asks_at l (start_of l t) q) (count_of l t) i (sym (first_in_holds l t q h) ∙ e)).below

-- the index of a pick
pub picked_index : (f : ℕ → Record) (found : Option ℕ) → option_map (λ (p : ℕ × Record). p.0) (on_found {A = Option (ℕ × Record)} found (λ i. Some (i, f i)) None) ≡ found
picked_index f (Some i) = refl
picked_index f None = refl

-- What a pick says of the scan.
module _ (table : Table) (t : ℕ) (q : Question) where
  pub record PickedAt (i : ℕ) (r : Record) : Type 0 where
    pub found : first_in table t q ≡ Some i
    pub here : r ≡ table.at t i

  picked_found : (f : Option ℕ) (i : ℕ) (r : Record) → on_found {A = Option (ℕ × Record)} f (λ k. Some (k, table.at t k)) None ≡ Some (i, r) → (f ≡ Some i) × (r ≡ table.at t i)
  picked_found (Some k) i r e =
      let both : ◌≡◌ {A = ℕ × Record} (k, table.at t k) (i, r) = cc in
      let k≡i : k ≡ i = ap (λ (p : ℕ × Record). p.0) both in
      let same : table.at t k ≡ r = ap (λ (p : ℕ × Record). p.1) both in
      (ap Some k≡i, sym same ∙ ap (table.at t) k≡i)
  picked_found None i r e = absurd (let z : ◌≡◌ {A = ℕ} 0 1 = cc in omega arith)

  pub picked : (i : ℕ) (r : Record) → pick_in table t q ≡ Some (i, r) → PickedAt i r
  unfolding pick_in
  picked i r e = let p = picked_found (first_in table t q) i r e in record { found = p.0; here = p.1 }

  missing_found : (f : Option ℕ) → on_found {A = Option (ℕ × Record)} f (λ k. Some (k, table.at t k)) None ≡ None → f ≡ None
  missing_found (Some k) e = absurd (let z : ◌≡◌ {A = ℕ} 0 1 = cc in omega arith)
  missing_found None e = refl

  pub missed : pick_in table t q ≡ None → first_in table t q ≡ None
  unfolding pick_in
  missed e = missing_found (first_in table t q) e
