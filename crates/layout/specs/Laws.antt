-- Laws of the layout: two fields read at once, and what a whole image holds.
use Rattle.std.specs.Prelude.{ℕ, ◌+◌, zero, suc, ◌*◌, ◌-◌, ◌≤◌, ◌<◌, List, ◌≡◌, refl, Bool, true, false, cond, ◌||◌, length, ltb, Ok}
use Rattle.std.proofs.Common.{subst, add-one, arith, true≢false, ltb-false, eqb-true, zero-add, suc-add, le_refl}
use Rattle.layout.specs.Bytes.{u16_at, u32_at}
use Rattle.layout.specs.Layout.{record_at, lists_of, rules_of, count_of, records_before, start_of}
use Rattle.scan.specs.Laws.{some_false}
use Rattle.codes.specs.Refusal.{refusal_of}
use Rattle.codes.specs.Laws.{none_fails}
use Rattle.std.proofs.lemmas.Bool.{not-false}
use Rattle.layout.specs.Layout.{general_size, watts_size, is_second, tables_from, record_size, trailer_size, tables, bands, trailer_of}
use Rattle.layout.specs.Form.{Whole, overfull_at, overfull, length_wrong, distance_wrong, form_tests}

pub lists_read : (l : List ℕ) (at : ℕ) → u32_at l (at + 24) ≡ lists_of (record_at l at)
unfolding record_at u32_at u16_at
lists_read l at =
    let a : at + 24 + 1 ≡ at + 25 = omega arith in
    let b : at + 24 + 2 ≡ at + 26 = omega arith in
    let d : at + 26 + 1 ≡ at + 27 = omega arith in
    rw a (rw b (rw d (omega arith)))

pub rules_read : (l : List ℕ) (at : ℕ) → u32_at l (at + 28) ≡ rules_of (record_at l at)
unfolding record_at u32_at
rules_read l at = let a : at + 28 + 2 ≡ at + 30 = omega arith in rw a (omega arith)

-- where the tables begin is one of two places
pub tables_near : (l : List ℕ) → tables_from l ≤ general_size + watts_size
unfolding tables_from
tables_near l = go (is_second l)
  where
    go : (b : Bool) → cond b (general_size + watts_size) general_size ≤ general_size + watts_size
    go true = omega arith
    go false = omega arith

pub records_more : (l : List ℕ) (t : ℕ) → records_before l (t + 1) ≡ records_before l t + count_of l t
unfolding records_before
records_more l t = rw add-one

-- the first table begins where the tables do
pub first_table : (l : List ℕ) → tables_from l ≡ start_of l bands
unfolding records_before
first_table l = omega arith

pub or_false_both : (a b : Bool) → (a || b) ≡ false → (a ≡ false) × (b ≡ false)
or_false_both true b e = absurd (true≢false e)
or_false_both false b e = (refl, e)

pub whole_of : (l : List ℕ) → refusal_of (form_tests l) ≡ Ok tt → Whole l
whole_of l e =
    let none = none_fails (form_tests l) e in
    let size = or_false_both (ltb (length l) (general_size + trailer_size)) (ltb 65552 (length l)) none.0 in
    let many = or_false_both (overfull l) (length_wrong l || distance_wrong l) none.1.1.1.0 in
    let agree = or_false_both (length_wrong l) (distance_wrong l) many.1 in
    let sized : general_size + trailer_size ≤ length l = ltb-false _ _ size.0 in
    let ends : trailer_of l ≡ tables_from l + record_size * records_before l tables = eqb-true _ _ (not-false _ agree.0) in
    record {
      sized = sized;
      small = ltb-false _ _ size.1;
      few = λ t h. ltb-false _ _ (some_false (overfull_at l) tables many.0 t h);
      filled = omega arith;
    }

records_ahead : (l : List ℕ) (t k : ℕ) → records_before l t ≤ records_before l (k + t)
unfolding records_before
records_ahead l t zero = rw zero-add (le_refl _)
records_ahead l t (suc k) =
    let h : records_before l t ≤ records_before l (k + t) = records_ahead l t k in
    rw suc-add (omega arith)

-- the whole of a table lies before the trailer
pub table_within : (l : List ℕ) → Whole l → (t : ℕ) → t < tables → start_of l t + record_size * count_of l t + trailer_size ≤ length l
table_within l w t h =
    let e : tables - (t + 1) + (t + 1) ≡ tables = omega arith in
    let a : records_before l (t + 1) ≤ records_before l tables =
    subst (λ (n : ℕ). records_before l (t + 1) ≤ records_before l n) e (records_ahead l (t + 1) (tables - (t + 1))) in
    omega (arith, records_more l t, w.filled)
