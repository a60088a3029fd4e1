-- The answer case by case, as the code comes to it.
use Rattle.std.specs.Prelude.{ℕ, ◌/◌, Bool, true, false, not, List, [], ◌∷◌, ◌≡◌, length, Some, None, Result, Ok, Err}
use Rattle.codes.specs.declared.Refusal.TheVariants as refusal
use Rattle.codes.specs.Refusal.{Checked, Test, test, refusal_of}
use Rattle.codes.specs.declared.Refusal.{Refusal}
use Rattle.std.proofs.Math.Bool.{cond}
use Rattle.std.proofs.Common.{sym, ◌∙◌, arith, le-ltb}
use Rattle.std.proofs.Math.Path.{refl, ap}
use Rattle.codes.specs.Read.{direction_valid, direction_of}
use Rattle.codes.specs.Laws.{refusal_next, refusal_stays}
use Rattle.codes.specs.declared.LicenseClass.{LicenseClass}
use Rattle.codes.specs.declared.Sideband.{Sideband}
use Rattle.codes.specs.declared.ControlMode.{ControlMode}
use Rattle.codes.specs.declared.Direction.{Direction}
use Rattle.occupancy.specs.declared.Edges.{Edges}
use Rattle.station.specs.Station.{under_rules, situation_of}
use Rattle.station.specs.declared.StationRecord.{StationRecord}
use Rattle.station.specs.declared.Situation.{Situation}
use Rattle.table.specs.Table.{Table, table_of}
use Rattle.entry.specs.Entry.{entry_tests, entry_of, edges_valid, edges_read}
use Rattle.lists.specs.Laws.{Every}
use Rattle.rows.specs.Rows.{row_size, insert_all, sorted, encode_all}
use Rattle.rows.specs.Pour.{Poured}
use Rattle.rows.specs.Back.{LowNumber, pour_all}
use Rattle.fill.specs.Fill.{Gathered}
use Rattle.fill.specs.Fill as filling
use Rattle.rows.specs.declared.SafeDial.{SafeDial}
use Rattle.dials.specs.List.{rows_with_sideband, rows_with_license, rows_with_control, known_rows, situation_rows}
use Rattle.dials.specs.List.{list_rows, lent_tests, list_tests, Listed, Filled, SafeDials}

listed_as :
    (c d : Checked) (xs ys : List SafeDial) (lent left : List ℕ) (a : Result ℕ Refusal) → c ≡ d → xs ≡ ys → Listed d ys lent left a
    → Listed c xs lent left a
listed_as c d xs ys lent left a e f h = rw e (rw f h)

-- ---- rows counted, and then refused or written

pub filled_none : (lent : List ℕ) → Filled [] lent lent (Ok 0)
unfolding encode_all insert_all
filled_none lent =
    listed_as (refusal_of (lent_tests [] lent)) (Ok tt) [] [] lent lent (Ok 0)
    (rw (le-ltb (length lent / row_size) 0 (omega arith)))
    refl
    (record { answered = refl; bytes = refl })

-- rows offered one after the other, with room or without
pub gathered :
    (xs : List SafeDial) (l l' : List ℕ) (k : ℕ) → Every LowNumber xs → Poured l 0 l' k xs
    → Gathered (length xs) row_size (encode_all (sorted xs)) l k l'
gathered xs l l' k f p = record { counted = omega (arith, p.counted); written = λ h. p.written ∙ pour_all l xs f h }

pub filled :
    (xs : List SafeDial) (lent left : List ℕ) (a : Result ℕ Refusal)
    → filling.Filled refusal.Rows (length xs) row_size (encode_all (sorted xs)) lent left a → Filled xs lent left a
filled xs lent left a f = go (filling.too_few (length xs) row_size lent) refl
  where
    go : (b : Bool) → filling.too_few (length xs) row_size lent ≡ b → Filled xs lent left a
    go true e = record { answered = rw e (rw e at f.answered); bytes = rw e (rw e at f.bytes) }
    go false e = record { answered = rw e (rw e at f.answered); bytes = rw e (rw e at f.bytes) }

-- ---- a station as it is read

module _ (table : Table) (s : Situation) (d : Direction) (e : Edges) where
  pub no_sideband : s.sideband ≡ None → situation_rows table s d e ≡ []
  unfolding situation_rows
  no_sideband p =
      ap
      (λ x. rows_with_sideband x
      (λ sideband. rows_with_license s.license
      (λ license. rows_with_control s.control
      (λ control. known_rows table s d e sideband license control)))) p

  with_sideband_holds :
      (x : Sideband) → s.sideband ≡ Some x
      → situation_rows table s d e ≡ rows_with_license s.license (λ license. rows_with_control s.control (λ control. known_rows table s d e x license control))
  unfolding situation_rows
  with_sideband_holds x p =
      ap
      (λ y. rows_with_sideband y
      (λ sideband. rows_with_license s.license
      (λ license. rows_with_control s.control
      (λ control. known_rows table s d e sideband license control)))) p

  pub no_license : (x : Sideband) → s.sideband ≡ Some x → s.license ≡ None → situation_rows table s d e ≡ []
  no_license x p q = with_sideband_holds x p
      ∙ ap (λ y. rows_with_license y (λ license. rows_with_control s.control (λ control. known_rows table s d e x license control))) q

  with_license_holds :
      (x : Sideband) (c : LicenseClass) → s.sideband ≡ Some x → s.license ≡ Some c
      → situation_rows table s d e ≡ rows_with_control s.control (λ control. known_rows table s d e x c control)
  with_license_holds x c p q = with_sideband_holds x p
      ∙ ap (λ y. rows_with_license y (λ license. rows_with_control s.control (λ control. known_rows table s d e x license control))) q

  pub no_control :
      (x : Sideband) (c : LicenseClass) → s.sideband ≡ Some x → s.license ≡ Some c → s.control ≡ None
      → situation_rows table s d e ≡ []
  no_control x c p q r = with_license_holds x c p q ∙ ap (λ y. rows_with_control y (λ control. known_rows table s d e x c control)) r

  pub all_known :
      (x : Sideband) (c : LicenseClass) (m : ControlMode) → s.sideband ≡ Some x → s.license ≡ Some c → s.control ≡ Some m
      → situation_rows table s d e ≡ known_rows table s d e x c m
  all_known x c m p q r = with_license_holds x c p q ∙ ap (λ y. rows_with_control y (λ control. known_rows table s d e x c control)) r

pub filled_empty : (xs : List SafeDial) (lent : List ℕ) → xs ≡ [] → Filled xs lent lent (Ok 0)
filled_empty xs lent e = rw e (filled_none lent)

-- ---- the whole call

module _ (r : StationRecord) (direction : ℕ) (e : Edges) (l lent : List ℕ) where
  rest : List Test
  rest = test refusal.SignalEdge (not (edges_valid e)) ∷ lent_tests (list_rows r direction e l) lent

  pub safe_refused : (n : Refusal) → Err n ≡ entry_of r (direction_valid direction) l → SafeDials r direction e l lent lent (Err n)
  unfolding entry_of
  safe_refused n h =
      listed_as (refusal_of (list_tests r direction e l lent)) (Err n) (list_rows r direction e l) (list_rows r direction e l) lent lent (Err n)
      (refusal_stays (entry_tests r (direction_valid direction) l) (test refusal.SignalEdge (not (edges_valid e)) ∷ lent_tests (list_rows r direction e l) lent) n (sym h))
      refl
      (record { answered = refl; bytes = refl })

  -- past the refusals of the entry
  past : Ok tt ≡ entry_of r (direction_valid direction) l → (b : Bool) → edges_valid e ≡ b
      → refusal_of (list_tests r direction e l lent) ≡ refusal_of (test refusal.SignalEdge (not b) ∷ lent_tests (list_rows r direction e l) lent)
  unfolding entry_of
  past h b v =
      refusal_next (entry_tests r (direction_valid direction) l) (test refusal.SignalEdge (not (edges_valid e)) ∷ lent_tests (list_rows r direction e l) lent) (sym h)
      ∙ ap (λ (b : Bool). refusal_of (test refusal.SignalEdge (not b) ∷ lent_tests (list_rows r direction e l) lent)) v

  pub safe_edges : Ok tt ≡ entry_of r (direction_valid direction) l → edges_valid e ≡ false → SafeDials r direction e l lent lent (Err refusal.SignalEdge)
  safe_edges h v =
      listed_as (refusal_of (list_tests r direction e l lent)) (Err refusal.SignalEdge) (list_rows r direction e l) (list_rows r direction e l) lent lent (Err refusal.SignalEdge)
      (past h false v)
      refl
      (record { answered = refl; bytes = refl })

  pub safe_filled :
      (xs : List SafeDial) (left : List ℕ) (a : Result ℕ Refusal) → Ok tt ≡ entry_of r (direction_valid direction) l → edges_valid e ≡ true
      → list_rows r direction e l ≡ xs → Filled xs lent left a → SafeDials r direction e l lent left a
  safe_filled xs left a h v x f =
      listed_as (refusal_of (list_tests r direction e l lent)) (refusal_of (lent_tests xs lent)) (list_rows r direction e l) xs lent left a
      (past h true v ∙ ap (λ (m : List SafeDial). refusal_of (lent_tests m lent)) x)
      x
      f

  pub rows_free : under_rules r ≡ false → list_rows r direction e l ≡ []
  unfolding list_rows
  rows_free u = ap (λ (b : Bool). cond b (situation_rows (table_of l) (situation_of r) (direction_of direction) (edges_read e)) []) u

  pub rows_rules : under_rules r ≡ true → list_rows r direction e l ≡ situation_rows (table_of l) (situation_of r) (direction_of direction) (edges_read e)
  unfolding list_rows
  rows_rules u = ap (λ (b : Bool). cond b (situation_rows (table_of l) (situation_of r) (direction_of direction) (edges_read e)) []) u
