-- What the call knows on each way to an answer.
use Rattle.std.specs.Prelude.{ℕ, ◌≤◌, ◌<◌, Bool, true, false, List, [], ◌∷◌, ◌++◌, ◌≡◌, ltb, length, Result, Ok, Err}
use Rattle.codes.specs.declared.Refusal.TheVariants as refusal
use Rattle.codes.specs.Refusal.{Checked, test, refusal_of}
use Rattle.codes.specs.declared.Refusal.{Refusal}
use Rattle.std.proofs.Math.Path.{refl}
use Rattle.std.proofs.Common.{sym, ◌∙◌, arith, lt-ltb, le-ltb}
use Rattle.codes.specs.Laws.{refusal_stays, refusal_next, refusal_both}
use Rattle.lists.specs.Pour.{Poured}
use Rattle.layout.specs.Form.{Whole}
use Rattle.table.specs.Table.{table_of}
use Rattle.image.specs.Check.{check_tests, check_of}
use Rattle.image.specs.Laws.{accepted_whole}
use Rattle.report_rows.specs.Rows.{row_size, encode_all, offer_at}
use Rattle.report_rows.specs.Laws.{pour_all}
use Rattle.fill.specs.Fill.{Gathered}
use Rattle.fill.specs.Fill as filling
use Rattle.report_rows.specs.declared.ReportRow.{ReportRow}
use Rattle.report.specs.Report.{report_rows, lent_tests, report_tests, answer_of, Answered, Filled, Reported}
use Rattle.report.specs.Few.{report_few}

answered_as : (c d : Checked) (xs : List ReportRow) (lent left : List ℕ) (a : Result ℕ Refusal) → c ≡ d → Answered d xs lent left a → Answered c xs lent left a
answered_as c d xs lent left a e h = rw e h

-- ---- rows counted, and then refused or written

-- rows offered one after the other, with room or without
pub gathered :
    (xs : List ReportRow) (l l' : List ℕ) (k : ℕ) → Poured offer_at l 0 l' k xs → Gathered (length xs) row_size (encode_all xs) l k l'
gathered xs l l' k p = record { counted = omega (arith, p.counted); written = λ h. p.written ∙ pour_all l xs h }

pub filled :
    (xs : List ReportRow) (lent left : List ℕ) (a : Result ℕ Refusal)
    → filling.Filled refusal.Report (length xs) row_size (encode_all xs) lent left a → Filled xs lent left a
filled xs lent left a f = go (filling.too_few (length xs) row_size lent) refl
  where
    go : (b : Bool) → filling.too_few (length xs) row_size lent ≡ b → Filled xs lent left a
    go true e = record { answered = rw e (rw e at f.answered); bytes = rw e (rw e at f.bytes) }
    go false e = record { answered = rw e (rw e at f.answered); bytes = rw e (rw e at f.bytes) }

-- ---- the whole call

module _ (l : List ℕ) (class : ℕ) (lent : List ℕ) where
  rows : List ReportRow
  rows = report_rows (table_of l) class

  pub reported_class : 4 < class → Reported l class lent lent (Err refusal.StationCode)
  reported_class h =
      answered_as (refusal_of (report_tests l class lent)) (Err refusal.StationCode) (report_rows (table_of l) class) lent lent (Err refusal.StationCode)
      (rw (lt-ltb 4 class h))
      (record { answered = refl; bytes = refl })

  pub reported_image : (n : Refusal) (a : Result ℕ Refusal) → class ≤ 4 → check_of l ≡ Err n → a ≡ Err n → Reported l class lent lent a
  unfolding check_of
  reported_image n a h e s =
      answered_as (refusal_of (report_tests l class lent)) (Err n) (report_rows (table_of l) class) lent lent a
      (rw (le-ltb 4 class h) (refusal_stays (check_tests l) (lent_tests (report_rows (table_of l) class) lent) n e))
      (record { answered = s; bytes = refl })

  pub reported_rows : (left : List ℕ) (a : Result ℕ Refusal) → class ≤ 4 → Ok tt ≡ check_of l → Filled (report_rows
      (table_of l) class) lent left a → Reported l class lent left a
  unfolding check_of
  reported_rows left a h e f =
      answered_as (refusal_of (report_tests l class lent)) (refusal_of (lent_tests (report_rows (table_of l) class) lent)) (report_rows (table_of l) class) lent left a
      (rw (le-ltb 4 class h) (refusal_next (check_tests l) (lent_tests (report_rows (table_of l) class) lent) (sym e)))
      f

-- ---- how many rows an answer counts

-- an answer with rows was not refused, so its image is whole
report_whole : (l : List ℕ) (class : ℕ) (lent : List ℕ) → refusal_of (report_tests l class lent) ≡ Ok tt → Whole l
unfolding check_of
report_whole l class lent h =
    let past = (refusal_both (test refusal.StationCode (ltb 4 class) ∷ []) (check_tests l ++ lent_tests (report_rows (table_of l) class) lent) h).1 in
    accepted_whole l (refusal_both (check_tests l) (lent_tests (report_rows (table_of l) class) lent) past).0

pub answer_few :
    (l : List ℕ) (class : ℕ) (lent : List ℕ) (n : ℕ) → answer_of (refusal_of (report_tests l class lent)) (report_rows (table_of l) class) ≡ Ok n → n ≤ 262400
answer_few l class lent n e = go (refusal_of (report_tests l class lent)) refl e
  where
    go : (c : Checked) → refusal_of (report_tests l class lent) ≡ c → answer_of c (report_rows (table_of l) class) ≡ Ok n → n ≤ 262400
    go (Ok tt) h q =
        let m = length (report_rows (table_of l) class) in
        let s : m ≤ 262400 = report_few l (report_whole l class lent h) class in
        let k : m ≡ n = cc in
        omega arith
    go (Err m) h q = let z : ◌≡◌ {A = ℕ} 0 1 = cc in omega arith
