-- A table is tidy exactly if its report has no overlap row and every data segment lies in a band of its number.
use Rattle.std.specs.Prelude.{ℕ, ◌<◌, Bool, not, cond, ◌&&◌, ◌≡◌, eqb, Some, None, Ok, Err}
use Rattle.codes.specs.Refusal.{Checked}
use Rattle.std.proofs.Math.Bool.{true, false, true≢false}
use Rattle.std.proofs.lemmas.Bool.{not-true}
use mathlib.Core.List.{List, [], ◌∷◌}
use Rattle.std.proofs.Common.{inl, sym, ◌∙◌, arith, eq-eqb, eqb-true}
use Rattle.std.proofs.Math.Path.{refl}
use Rattle.profile.specs.Range.{lengthy, share_of}
use Rattle.scan.specs.Laws.{some_false, some_all, and_true}
use Rattle.layout.specs.Layout.{bands, segments, privileges}
use Rattle.table.specs.Parts.{span_of}
use Rattle.table.specs.Table.{Table, table_of}
use Rattle.find.specs.Question.{asks, homeless_of}
use Rattle.image.specs.Check.{check_of}
use Rattle.tidy.specs.Tidy.{pair_question, shares_earlier, two_share, tidy_table, tidiness_of, tidy_of}
use Rattle.sweep.specs.Sweep.{is_member}
use Rattle.report.specs.Report.{pair_members, overlap_rows}
use Rattle.report_rows.specs.declared.ReportRow.{ReportRow}
use Rattle.report_meaning.specs.Words.{In, Pair, share}
use Rattle.report_meaning.specs.Ranges.{share_turned, and_of}
use Rattle.report_meaning.specs.Theorem.{accepted_ranged, overlap_only, overlap_listed}

-- ---- a pair of the report and a pair of the tidy question

-- whether classes count in table t
abbrev by_class : ℕ → Bool
by_class t = eqb t privileges

eqb_turned : (a b : ℕ) → eqb a b ≡ true → eqb b a ≡ true
eqb_turned a b e = eq-eqb b a (sym (eqb-true a b e))

module _ (table : Table) (t : ℕ) (long : (j : ℕ) → j < table.count t → lengthy (span_of (table.at t j)) ≡ true) where
  -- asked of the earlier record, or told of the pair
  asked : (i j : ℕ) → i < j → j < table.count t → asks (pair_question (by_class t) (table.at t j)) (table.at t i) ≡ true
      → (is_member (pair_members t (table.at t i)) (table.at t j) ≡ true) × (share table t i j ≡ true)
  unfolding asks
  asked i j h k e = go (by_class t) e
    where
      turn : share_of (span_of (table.at t i)) (span_of (table.at t j)) ≡ true → share table t i j ≡ true
      turn s = share_turned (span_of (table.at t i)) (span_of (table.at t j)) (long i (omega arith)) (long j k) s

      go : (b : Bool) → asks (pair_question b (table.at t j)) (table.at t i) ≡ true
          → (is_member (cond b (Some (table.at t i).class) None) (table.at t j) ≡ true) × (share table t i j ≡ true)
      go true q =
          let w = and_true (eqb (table.at t i).class (table.at t j).class) (share_of (span_of (table.at t i)) (span_of (table.at t j))) q in
          (eqb_turned (table.at t i).class (table.at t j).class w.0, turn w.1)
      go false q = (refl, turn q)

  told : (i j : ℕ) → Pair table t i j → share table t i j ≡ true → asks (pair_question (by_class t) (table.at t j)) (table.at t i) ≡ true
  unfolding asks
  told i j p s = go (by_class t) p.together
    where
      turned : share_of (span_of (table.at t i)) (span_of (table.at t j)) ≡ true
      turned =
          share_turned (span_of (table.at t j)) (span_of (table.at t i)) (long j p.there) (long i (omega (arith, p.ordered, p.there))) s

      go : (b : Bool) → is_member (cond b (Some (table.at t i).class) None) (table.at t j) ≡ true
          → asks (pair_question b (table.at t j)) (table.at t i) ≡ true
      go true q = and_of (eqb_turned (table.at t j).class (table.at t i).class q) turned
      go false q = turned

  -- no two share: no row
  pub none_share : two_share table t (by_class t) ≡ false → overlap_rows table t ≡ []
  unfolding two_share
  none_share e = empty (overlap_rows table t) (λ x h.
      let o = overlap_only table t x h in
      true≢false
      (sym (told o.first o.second o.pair o.shares)
      ∙ some_false (λ i. asks (pair_question (by_class t) (table.at t o.second)) (table.at t i)) o.second
      (some_false (shares_earlier table t (by_class t)) (table.count t) e o.second o.pair.there) o.first o.pair.ordered))
    where
      empty : (xs : List ReportRow) → ((x : ReportRow) → In x xs → ⊥) → xs ≡ []
      empty [] f = refl
      empty (x ∷ xs) f = absurd (f x (inl refl))

  -- no row: no two share
  pub no_row : overlap_rows table t ≡ [] → two_share table t (by_class t) ≡ false
  unfolding two_share
  no_row e =
      some_all (shares_earlier table t (by_class t)) (table.count t) (λ j k.
      some_all (λ i. asks (pair_question (by_class t) (table.at t j)) (table.at t i)) j (λ i h.
      go i j h k (asks (pair_question (by_class t) (table.at t j)) (table.at t i)) refl))
    where
      go : (i j : ℕ) → i < j → j < table.count t → (b : Bool) → asks (pair_question (by_class t) (table.at t j)) (table.at t i) ≡ b
          → asks (pair_question (by_class t) (table.at t j)) (table.at t i) ≡ false
      go i j h k false q = q
      go i j h k true q =
          let w = asked i j h k q in
          absurd (rw e at (overlap_listed table t i j (record { ordered = h; there = k; together = w.0 }) w.1))

-- ---- the theorem

-- "no overlap rows in bands, segments and all classes plus the band test"
pub record NoOverlap (table : Table) : Type 0 where
  pub bands_apart : overlap_rows table bands ≡ []
  pub segments_apart : overlap_rows table segments ≡ []
  pub classes_apart : overlap_rows table privileges ≡ []
  -- each data segment lies in a band of its number
  pub housed : homeless_of table true ≡ false

-- "Tidy shall follow", and back: of an accepted image.
pub tidy_follows : (l : List ℕ) → check_of l ≡ Ok tt → NoOverlap (table_of l) → tidy_of l ≡ Ok true
unfolding tidy_table
tidy_follows l e n =
    let R = accepted_ranged l e in
    rw e
    (rw n.housed
    (rw (no_row (table_of l) bands R.band n.bands_apart)
    (rw (no_row (table_of l) segments R.segment n.segments_apart)
    (rw (no_row (table_of l) privileges R.privilege n.classes_apart)))))

tidy_accepted : (l : List ℕ) → tidy_of l ≡ Ok true → (check_of l ≡ Ok tt) × (tidy_table (table_of l) ≡ true)
tidy_accepted l e = go (check_of l) (tidy_table (table_of l)) e
  where
    go : (c : Checked) (b : Bool) → tidiness_of c b ≡ Ok true → (c ≡ Ok tt) × (b ≡ true)
    go (Ok tt) true q = (refl, refl)
    go (Ok tt) false q = absurd (let z : ◌≡◌ {A = ℕ} 0 1 = cc in omega arith)
    go (Err n) b q = absurd (let z : ◌≡◌ {A = ℕ} 0 1 = cc in omega arith)

pub tidy_only : (l : List ℕ) → tidy_of l ≡ Ok true → NoOverlap (table_of l)
unfolding tidy_table
tidy_only l e =
    let a = tidy_accepted l e in
    let R = accepted_ranged l a.0 in
    let h = not (homeless_of (table_of l) true) in
    let b = not (two_share (table_of l) bands false) in
    let s = not (two_share (table_of l) segments false) in
    let p = not (two_share (table_of l) privileges true) in
    let w = and_true h (b && (s && p)) a.1 in
    let x = and_true b (s && p) w.1 in
    let y = and_true s p x.1 in
    record {
      bands_apart = none_share (table_of l) bands R.band (not-true (two_share (table_of l) bands false) x.0);
      segments_apart = none_share (table_of l) segments R.segment (not-true (two_share (table_of l) segments false) y.0);
      classes_apart = none_share (table_of l) privileges R.privilege (not-true (two_share (table_of l) privileges true) y.1);
      housed = not-true (homeless_of (table_of l) true) w.0;
    }
