-- What the loops over a table's records know, from an image's bytes.
use Rattle.std.specs.Prelude.{ℕ, ◌+◌, ◌-◌, ◌<◌, ◌≡◌, length, Option, Some}
use mathlib.Core.List.{List, map}
use Rattle.std.proofs.Common.{sym, ◌∙◌, arith}
use Rattle.std.proofs.Math.Path.{ap}
use Rattle.std.proofs.lemmas.List.{length-map}
use Rattle.profile.specs.declared.Range.{Range}
use Rattle.lists.specs.From.{from, from_all}
use Rattle.layout.specs.Layout.{tables, segments, privileges, count_of}
use Rattle.layout.specs.declared.Record.{Record}
use Rattle.table.specs.Parts.{span_of}
use Rattle.table.specs.Table.{table_of}
use Rattle.table.specs.Laws.{count_in_holds}
use Rattle.sweep.specs.Sweep.{gives}
use Rattle.report.specs.Gaps.{of_part, left_from}
use Rattle.report.specs.Report.{pair_members, overlap_row, pair_rows, pair_rows_at, overlap_rows, gap_row, gaps_in, gaps_at, gap_rows}

-- the rows of record i, by what was asked of it
pub pairs_all :
    (l : List ℕ) (t n i : ℕ) (r : Record) (m : Option ℕ) (window : Range) → t < tables → n ≡ count_of l t
    → r ≡ (table_of l).at t i → m ≡ pair_members t r → window ≡ span_of r
    → from n (gives ((table_of l).at t) m window (overlap_row t m i)) (i + 1) ≡ pair_rows_at (table_of l) t i
unfolding pair_rows
pairs_all l t n i r m window h e q p w =
    rw (w ∙ ap span_of q) (rw (p ∙ ap (pair_members t) q) (ap (λ (k : ℕ). from k (gives ((table_of l).at t) (pair_members t ((table_of l).at t i)) (span_of ((table_of l).at t i)) (overlap_row t (pair_members t ((table_of l).at t i)) i)) (i + 1)) (e ∙ sym (count_in_holds l t h))))

-- ---- overlaps

pub overlaps_all : (l : List ℕ) (t n : ℕ) → t < tables → n ≡ count_of l t → from n (pair_rows_at (table_of l) t) 0 ≡ overlap_rows (table_of l) t
unfolding overlap_rows
overlaps_all l t n h e = rw (count_in_holds l t h ∙ sym e) (from_all n (pair_rows_at (table_of l) t))

-- ---- gaps

pub gaps_all : (l : List ℕ) (n : ℕ) → n ≡ count_of l segments → (class : ℕ) → from n (gaps_at (table_of l) class) 0 ≡ gap_rows (table_of l) class
unfolding gap_rows
gaps_all l n e class = rw (count_in_holds l segments (omega arith) ∙ sym e) (from_all n (gaps_at (table_of l) class))

-- of segment i, by what was asked of it
module _ (l : List ℕ) (n : ℕ) (e : n ≡ count_of l privileges) where
  pub gaps_read :
      (class i : ℕ) (r : Record) (x : Range) → r ≡ (table_of l).at segments i → x ≡ span_of r
      → map (gap_row class i) (of_part (left_from ((table_of l).at privileges) (Some class) (n - 0) 0) x) ≡ gaps_at (table_of l) class i
  unfolding gaps_in
  gaps_read class i r x q p =
      let c : n - 0 ≡ (table_of l).count privileges = omega (arith, count_in_holds l privileges (omega arith)) in
      ap (λ (k : ℕ). map (gap_row class i) (of_part (left_from ((table_of l).at privileges) (Some class) k 0) x)) c
      ∙ ap (λ (y : Range). map (gap_row class i) (of_part (left_from ((table_of l).at privileges) (Some class) ((table_of l).count privileges) 0) y))
      (p ∙ ap span_of q)

  pub gaps_long :
      (class i : ℕ) (r : Record) (x : Range) → r ≡ (table_of l).at segments i → x ≡ span_of r
      → length (of_part (left_from ((table_of l).at privileges) (Some class) (n - 0) 0) x) ≡ length (gaps_at (table_of l) class i)
  gaps_long class i r x q p =
      sym (length-map (of_part (left_from ((table_of l).at privileges) (Some class) (n - 0) 0) x) (gap_row class i)) ∙ ap length
      (gaps_read class i r x q p)
