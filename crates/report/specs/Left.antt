-- What is left of a piece, told by the sweep; and rows told by what the sweep gives.
use Prim.Native.Nat.{ℕ, zero, suc, ◌+◌, ◌-◌}
use Rattle.std.specs.Prelude.{Option, Some, None, true, false, ◌≡◌}
use mathlib.Core.List.{List, [], ◌∷◌, ◌++◌, map, map-append}
use Rattle.std.proofs.Math.Path.{refl}
use Rattle.std.proofs.Common.{sym, ap, ◌∙◌}
use native.Mathlib.Omega.{arith}
use Rattle.profile.specs.Range.{lengthy}
use Rattle.profile.specs.declared.Range.{Range}
use Rattle.lists.specs.Pour.{pour, Poured, poured_none, poured_more}
use Rattle.layout.specs.declared.Record.{Record}
use Rattle.sweep.specs.Sweep.{shared_with, on_shared, swept_from, sweep}
use Rattle.sweep.specs.Laws.{shares_index, shares_range, shares_not, swept_below}
use Rattle.report_rows.specs.Rows.{offer_at}
use Rattle.report_rows.specs.declared.ReportRow.{ReportRow}
use Rattle.report.specs.Gaps.{below, above, of_part, left_from}

-- the two parts beside a stretch, and what the n records from i on leave of them
abbrev pub beside : (ℕ → Record) → Option ℕ → ℕ → ℕ → Range → Range → List Range
beside at m n i piece x = of_part (left_from at m n i) (below piece x) ++ of_part (left_from at m n i) (above piece x)

module _ (at : ℕ → Record) (m : Option ℕ) (piece : Range) where
  -- a piece that no record shares a stretch with
  none : (k i : ℕ) → swept_from at m piece k i ≡ None → left_from at m k i piece ≡ piece ∷ []
  unfolding swept_from left_from
  none zero i e = refl
  none (suc k) i e = go (shared_with m piece (at i)) refl (none k (suc i)) e
    where
      go :
          (s : Option Range) → shared_with m piece (at i) ≡ s → (swept_from at m piece k (suc i) ≡ None → left_from at m k (suc i) piece ≡ piece ∷ [])
          → on_shared s (λ y. Some (i, y)) (swept_from at m piece k (suc i)) ≡ None → left_from at m (suc k) i piece ≡ piece ∷ []
      go (Some y) p next q = absurd (shares_not q)
      go None p next q = rw p (next q)

  split : (k i j : ℕ) (x : Range) → swept_from at m piece k i ≡ Some (j, x) → left_from at m k i piece ≡ beside at m (i + k - (j + 1)) (j + 1) piece x
  unfolding swept_from left_from
  split zero i j x e = absurd (shares_not (sym e))
  split (suc k) i j x e = go (shared_with m piece (at i)) refl (split k (suc i) j x) e
    where
      go :
          (s : Option Range) → shared_with m piece (at i) ≡ s
          → (swept_from at m piece k (suc i) ≡ Some (j, x) → left_from at m k (suc i) piece ≡ beside at m (suc i + k - (j + 1)) (j + 1) piece x)
          → on_shared s (λ y. Some (i, y)) (swept_from at m piece k (suc i)) ≡ Some (j, x)
          → left_from at m (suc k) i piece ≡ beside at m (i + suc k - (j + 1)) (j + 1) piece x
      go (Some y) p next q =
          let a : i ≡ j = shares_index q in
          let b : y ≡ x = shares_range q in
          let c : i + suc k - (j + 1) ≡ k = omega arith in
          let d : j + 1 ≡ suc i = omega arith in
          rw p (rw c (rw d (rw b)))
      go None p next q =
          let c : i + suc k - (j + 1) ≡ suc i + k - (j + 1) = omega arith in
          rw p (rw c (next q))

  module _ (n : ℕ) where
    pub left_none : (i : ℕ) → sweep at m piece n i ≡ None → left_from at m (n - i) i piece ≡ piece ∷ []
    left_none i e = none (n - i) i e

    pub left_split : (i j : ℕ) (x : Range) → sweep at m piece n i ≡ Some (j, x) → left_from at m (n - i) i piece ≡ beside at m (n - (j + 1)) (j + 1) piece x
    left_split i j x e =
        let r = swept_below at m piece (λ k y. k) n i j x e in
        let c : i + (n - i) - (j + 1) ≡ n - (j + 1) = omega (arith, r.0, r.1) in
        split (n - i) i j x e ∙ ap (λ (k : ℕ). beside at m k (j + 1) piece x) c

    -- the same of a part, which is of positive length or gives nothing
    pub part_none : (i : ℕ) → lengthy piece ≡ true → sweep at m piece n i ≡ None → of_part (left_from at m (n - i) i) piece ≡ piece ∷ []
    part_none i h e = rw h (left_none i e)

    pub part_split :
        (i j : ℕ) (x : Range) → lengthy piece ≡ true → sweep at m piece n i ≡ Some (j, x)
        → of_part (left_from at m (n - i) i) piece ≡ beside at m (n - (j + 1)) (j + 1) piece x
    part_split i j x h e = rw h (left_split i j x e)

pub part_short : (f : Range → List Range) (piece : Range) → lengthy piece ≡ false → of_part f piece ≡ []
part_short f piece h = rw h

-- ---- rows of the parts, one after the other

pub parts_poured :
    (row : Range → ReportRow) (l : List ℕ) (n : ℕ) (l' : List ℕ) (n' : ℕ) (l'' : List ℕ) (n'' : ℕ) (xs ys zs : List Range)
    → xs ≡ ys ++ zs → Poured offer_at l n l' n' (map row ys) → Poured offer_at l' n' l'' n'' (map row zs) → Poured offer_at l n l'' n'' (map row xs)
parts_poured row l n l' n' l'' n'' xs ys zs e p q =
    rw e (rw (map-append row ys zs) (poured_more offer_at l n l' n' l'' n'' (map row ys) (map row zs) p q))

pub part_poured :
    (row : Range → ReportRow) (l l' : List ℕ) (n : ℕ) (xs : List Range) (x : Range) → xs ≡ x ∷ [] → l' ≡ offer_at (row x) n l
    → Poured offer_at l n l' (n + 1) (map row xs)
unfolding pour
part_poured row l l' n xs x e w = rw e (record { counted = refl; written = w })

pub none_poured : (row : Range → ReportRow) (l : List ℕ) (n : ℕ) (xs : List Range) → xs ≡ [] → Poured offer_at l n l n (map row xs)
none_poured row l n xs e = rw e (poured_none offer_at l n)
