-- What an image's bytes are beside their table, no answer can tell: images in form (1 to 4 refuse neither) that hold the same table get the
-- same answer from every call.
use Rattle.std.specs.Prelude.{ℕ, suc, ◌/◌, ◌<◌, ◌≤◌, Bool, false, not, ◌&&◌, ◌||◌, ◌≡◌, refl, eqb, ltb, length, Float, Result, Ok, Err}
use Rattle.codes.specs.declared.Refusal.TheVariants as refusal
use Rattle.codes.specs.Refusal.{Checked, Test, test, refusal_of}
use Rattle.codes.specs.declared.Refusal.{Refusal}
use Rattle.std.proofs.Math.Bool.{true, cond}
use mathlib.Core.List.{List, [], ◌∷◌, ◌++◌, append_assoc, append-nil}
use Rattle.std.proofs.Math.Path.{sym, ap, ap₂, fun_ext}
use Rattle.std.proofs.Common.{◌∙◌, arith, ne_eqb, le-ltb}
use Rattle.std.proofs.Math.Decide.{dec_le}
use Rattle.codes.specs.Read.{direction_valid, kind_of, direction_of}
use Rattle.codes.specs.Laws.{refusal_next}
use Rattle.occupancy.specs.declared.Edges.{Edges}
use Rattle.station.specs.Station.{under_rules, codes_valid, figures_valid, station_tests, situation_of}
use Rattle.station.specs.declared.StationRecord.{StationRecord}
use Rattle.layout.specs.Layout.{tables, general_of, count_of, record_of}
use Rattle.layout.specs.Form.{form_tests}
use Rattle.layout.specs.Laws.{whole_of}
use Rattle.layout.specs.declared.General.{General}
use Rattle.layout.specs.declared.Record.{Record}
use Rattle.table.specs.Table.{Table, count_in, record_in, table_of}
use Rattle.table.specs.Laws.{count_in_holds, at_in}
use Rattle.image.specs.Check.{content_tests, check_tests, check_of}
use Rattle.tidy.specs.Tidy.{tidy_table, tidiness_of, tidy_of}
use Rattle.entry.specs.Entry.{image_tests, entry_tests, edges_valid, edges_read}
use Rattle.figures.specs.Figure.{zero_hz}
use Rattle.profile.specs.Range.{range}
use Rattle.decision.specs.Number.{no_rule}
use Rattle.decision.specs.Decision.{simple_of}
use Rattle.decision.specs.declared.Verdict.TheVariants.{Blocked}
use Rattle.decision.specs.Reason.{Unmeasured}
use Rattle.verdict.specs.Verdict.{signal_of, beside_valid, edge_tests, decide_of, unless_refused, evaluate_of, unmeasured_of}
use Rattle.ceiling.specs.Ceiling.{judge_by, climbed, ceiling_unless_refused, ceiling_of}
use Rattle.rungs.specs.Rungs.{burst_of, rung_tests}
use Rattle.rows.specs.declared.SafeDial.{SafeDial}
use Rattle.dials.specs.List.{situation_rows, list_rows, lent_tests, list_tests, answer_of, bytes_of, SafeDials}
use Rattle.report_rows.specs.declared.ReportRow.{ReportRow}
use Rattle.report.specs.Report.{report_rows, report_tests, lent_tests as report_lent, answer_of as report_answer, bytes_of as report_bytes, Reported}
use Rattle.fault.specs.Fault.{fault_by, fault_of}

-- in form: none of 1 to 4 refuses it
abbrev pub InForm : List ℕ → Type 0
InForm l = refusal_of (form_tests l) ≡ Ok tt

-- ---- the same table: the same general block, counts and records

pub same_table :
    (l m : List ℕ) → general_of l ≡ general_of m → ((t : ℕ) → t < tables → count_of l t ≡ count_of m t)
    → ((t i : ℕ) → t < tables → i < count_of l t → record_of l t i ≡ record_of m t i) → table_of l ≡ table_of m
unfolding record_in
same_table l m g n r =
    ap (λ (x : General). record { general = x; count = count_in l; at = record_in l }) g
    ∙ ap (λ (c : ℕ → ℕ). record { general = general_of m; count = c; at = record_in l }) (fun_ext counts)
    ∙ ap (λ (a : ℕ → ℕ → Record). record { general = general_of m; count = count_in m; at = a }) (fun_ext (λ t. fun_ext (λ i. records t i)))
  where
    -- a count, of a table that an image has or of another
    counts_by : (t : ℕ) → Dec (suc t ≤ tables) → count_in l t ≡ count_in m t
    counts_by t (yes h) = count_in_holds l t h ∙ n t h ∙ sym (count_in_holds m t h)
    counts_by t (no h) = let e : ltb t tables ≡ false = le-ltb t tables (omega arith) in rw e

    counts : (t : ℕ) → count_in l t ≡ count_in m t
    counts t = counts_by t (dec_le (suc t) tables)

    -- a record below the count, or past it
    records_by : (t i : ℕ) → Dec (suc t ≤ tables) → Dec (suc i ≤ count_in l t) → record_in l t i ≡ record_in m t i
    records_by t i (yes h) (yes k) =
        let below : i < count_of l t = rw (count_in_holds l t h) at k in
        let there : i < count_of m t = rw (n t h) at below in
        at_in l t i h below ∙ r t i h below ∙ sym (at_in m t i h there)
    records_by t i (no h) (yes k) =
        let e : ltb t tables ≡ false = le-ltb t tables (omega arith) in
        let z : count_in l t ≡ 0 = rw e in
        absurd (omega arith)
    records_by t i d (no k) =
        let e : ltb i (count_in l t) ≡ false = le-ltb i (count_in l t) (omega arith) in
        rw (← counts t) (rw e)

    records : (t i : ℕ) → record_in l t i ≡ record_in m t i
    records t i = records_by t i (dec_le (suc t) tables) (dec_le (suc i) (count_in l t))

-- ---- tests one after the other

-- what the first tests leave, by what the others say
tail_same : (a b c : List Test) → refusal_of b ≡ refusal_of c → refusal_of (a ++ b) ≡ refusal_of (a ++ c)
tail_same [] b c e = e
tail_same (t ∷ ts) b c e = ap (λ (x : Checked). cond t.fails (Err t.refusal) x) (tail_same ts b c e)

module _ (l m : List ℕ) (L : InForm l) (M : InForm m) (same : table_of l ≡ table_of m) where
  -- the image check
  pub check_same : check_of l ≡ check_of m
  unfolding check_of
  check_same =
      refusal_next (form_tests l) (content_tests (table_of l)) L
      ∙ ap (λ (x : Table). refusal_of (content_tests x)) same
      ∙ sym (refusal_next (form_tests m) (content_tests (table_of m)) M)

  -- the tidy question
  pub tidy_same : tidy_of l ≡ tidy_of m
  tidy_same = ap₂ tidiness_of check_same (ap tidy_table same)

  -- where a table is wrong
  pub fault_same : fault_of l ≡ fault_of m
  fault_same = ap₂ (λ (c : Checked) (x : Table). record { refusal = c; fault = fault_by c x }) check_same same

  -- the table report, with every lent byte
  report_rows_same : (class : ℕ) → report_rows (table_of l) class ≡ report_rows (table_of m) class
  report_rows_same class = ap (λ (x : Table). report_rows x class) same

  report_tests_same : (class : ℕ) (lent : List ℕ) → refusal_of (report_tests l class lent) ≡ refusal_of (report_tests m class lent)
  report_tests_same class lent =
      ap (λ (c : Checked). cond (ltb 4 class) (Err refusal.StationCode) c)
      (past l L ∙ ap (λ (x : Table). refusal_of (content_tests x ++ report_lent (report_rows x class) lent)) same ∙ sym (past m M))
    where
      past :
          (k : List ℕ) → InForm k
          → refusal_of (check_tests k ++ report_lent (report_rows (table_of k) class) lent)
          ≡ refusal_of (content_tests (table_of k) ++ report_lent (report_rows (table_of k) class) lent)
      past k f =
          ap refusal_of (append_assoc (form_tests k) (content_tests (table_of k)) (report_lent (report_rows (table_of k) class) lent))
          ∙ refusal_next (form_tests k) (content_tests (table_of k) ++ report_lent (report_rows (table_of k) class) lent) f

  pub report_same :
      (class : ℕ) (lent left : List ℕ) (answer : Result ℕ Refusal) → Reported l class lent left answer → Reported m class lent left answer
  report_same class lent left answer d =
      record {
        answered = d.answered ∙ ap₂ report_answer (report_tests_same class lent) (report_rows_same class);
        bytes = d.bytes ∙ ap₂ (λ (c : Checked) (xs : List ReportRow). report_bytes c xs lent) (report_tests_same class lent) (report_rows_same class);
      }

  -- ---- the calls with a station

  -- neither image is empty
  filled : (k : List ℕ) → InForm k → eqb (length k) 0 ≡ false
  filled k f = ne_eqb (length k) 0 (λ e. omega (arith, e, (whole_of k f).sized))

  station_same : (r : StationRecord) (beside : Bool) → station_tests r beside l ≡ station_tests r beside m
  station_same r beside =
      ap
      (λ (b : Bool). test refusal.StationCode (not (codes_valid r) || not beside) ∷ test refusal.StationFigure (not (figures_valid r)) ∷ test refusal.NoImage (under_rules r && b) ∷ [])
      (filled l L ∙ sym (filled m M))

  checks_same : (more : List Test) → refusal_of (check_tests l ++ more) ≡ refusal_of (check_tests m ++ more)
  checks_same more =
      ap refusal_of (append_assoc (form_tests l) (content_tests (table_of l)) more)
      ∙ refusal_next (form_tests l) (content_tests (table_of l) ++ more) L
      ∙ ap (λ (x : Table). refusal_of (content_tests x ++ more)) same
      ∙ sym (refusal_next (form_tests m) (content_tests (table_of m) ++ more) M)
      ∙ sym (ap refusal_of (append_assoc (form_tests m) (content_tests (table_of m)) more))

  images_same : (r : StationRecord) (more : List Test) → refusal_of (image_tests r l ++ more) ≡ refusal_of (image_tests r m ++ more)
  images_same r more = go (under_rules r)
    where
      go : (b : Bool) → refusal_of (cond b (check_tests l) [] ++ more) ≡ refusal_of (cond b (check_tests m) [] ++ more)
      go true = checks_same more
      go false = refl

  -- the front of every judging call, with a call's own tests after it
  entry_same :
      (r : StationRecord) (beside : Bool) (more : List Test) → refusal_of (entry_tests r beside l ++ more) ≡ refusal_of (entry_tests r beside m ++ more)
  entry_same r beside more =
      ap refusal_of (append_assoc (station_tests r beside l) (image_tests r l) more)
      ∙ tail_same (station_tests r beside l) (image_tests r l ++ more) (image_tests r m ++ more) (images_same r more)
      ∙ ap (λ (ts : List Test). refusal_of (ts ++ (image_tests r m ++ more))) (station_same r beside)
      ∙ sym (ap refusal_of (append_assoc (station_tests r beside m) (image_tests r m) more))

  -- the verdict
  pub evaluate_same : (r : StationRecord) (kind direction : ℕ) (e : Edges) → evaluate_of r kind direction e l ≡ evaluate_of r kind direction e m
  unfolding evaluate_of
  evaluate_same r kind direction e =
      ap₂
      (λ (c : Checked) (x : Table).
      unless_refused c
      (decide_of x (situation_of r) (situation_of r).policy (situation_of r).dial (kind_of kind) (direction_of direction) (edges_read e)))
      (entry_same r (beside_valid kind direction) (edge_tests e))
      same

  -- the refusal of a signal that is not measured
  pub unmeasured_same : (r : StationRecord) → unmeasured_of r l ≡ unmeasured_of r m
  unfolding unmeasured_of
  unmeasured_same r =
      ap
      (λ (c : Checked).
      unless_refused c (simple_of (signal_of (situation_of r).dial (situation_of r).sideband (range zero_hz zero_hz)) Blocked Unmeasured no_rule))
      (ap refusal_of (sym (append-nil (entry_tests r true l))) ∙ entry_same r true [] ∙ ap refusal_of (append-nil (entry_tests r true m)))

  -- the ceiling
  pub ceiling_same :
      (r : StationRecord) (direction : ℕ) (ordinary floor : Edges) (rungs : List Float) (floors : List ℕ)
      → ceiling_of r direction ordinary floor l rungs floors ≡ ceiling_of r direction ordinary floor m rungs floors
  unfolding ceiling_of
  ceiling_same r direction ordinary floor rungs floors =
      ap₂
      (λ (c : Checked) (x : Table).
      ceiling_unless_refused c
      (climbed (judge_by x (situation_of r) (direction_of direction)) (burst_of (edges_read ordinary) (edges_read floor) rungs floors) (length rungs / 4)))
      (entry_same r (direction_valid direction) (rung_tests ordinary floor rungs floors))
      same

  -- the dial list: its rows, and what a call answers and leaves in the bytes lent to it
  pub rows_same : (r : StationRecord) (direction : ℕ) (e : Edges) → list_rows r direction e l ≡ list_rows r direction e m
  unfolding list_rows
  rows_same r direction e =
      ap (λ (x : Table). cond (under_rules r) (situation_rows x (situation_of r) (direction_of direction) (edges_read e)) []) same

  tests_same :
      (r : StationRecord) (direction : ℕ) (e : Edges) (lent : List ℕ)
      → refusal_of (list_tests r direction e l lent) ≡ refusal_of (list_tests r direction e m lent)
  tests_same r direction e lent =
      entry_same r (direction_valid direction) (test refusal.SignalEdge (not (edges_valid e)) ∷ lent_tests (list_rows r direction e l) lent)
      ∙ ap
      (λ (xs : List SafeDial). refusal_of (entry_tests r (direction_valid direction) m ++ (test refusal.SignalEdge (not (edges_valid e)) ∷ lent_tests xs lent)))
      (rows_same r direction e)

  pub list_same :
      (r : StationRecord) (direction : ℕ) (e : Edges) (lent left : List ℕ) (answer : Result ℕ Refusal)
      → SafeDials r direction e l lent left answer → SafeDials r direction e m lent left answer
  list_same r direction e lent left answer d =
      record {
        answered = d.answered ∙ ap₂ answer_of (tests_same r direction e lent) (rows_same r direction e);
        bytes = d.bytes ∙ ap₂ (λ (c : Checked) (xs : List SafeDial). bytes_of c xs lent) (tests_same r direction e lent) (rows_same r direction e);
      }
