-- Which amendment counts for a record, said without the order of a pass: in force, naming the record, of the latest day, and the later in the
-- list on equal days; and that an amendment names one record of one table.
use Rattle.std.specs.Prelude.{ℕ, zero, suc, ◌+◌, ◌-◌, ◌<◌, ◌≤◌, Bool, true, false, cond, ◌&&◌, List, ◌≡◌, refl, eqb, Option, Some, None}
use Rattle.std.proofs.Common.{true≢false, sym, ap, subst, zero-add, suc-add, le_refl, arith, eqb-true, leb-true, leb-false}
use Rattle.std.proofs.Math.Decide.{dec_lt}
use Rattle.std.proofs.lemmas.Bool.{eqb-false}
use Rattle.layout.specs.Layout.{count_of, records_before}
use Rattle.layout.specs.Laws.{records_more}
use Rattle.amended.specs.Amended.{table_at, index_at, day_at, named_at, in_force, as_late, latest}
use Rattle.amended.specs.Latest.{Named}

-- amendment i is one of the first n that name record k and are not after the day
pub record Rival (l a : List ℕ) (day k n i : ℕ) : Type 0 where
  pub below : i < n
  pub named : named_at l a i ≡ k
  pub not_after : day_at a i ≤ day

-- "the latest-day amendment not after that day; on equal days the later in the list counts"
pub record Counts (l a : List ℕ) (day k n j : ℕ) : Type 0 where
  pub itself : Rival l a day k n j
  pub latest_day : (i : ℕ) → Rival l a day k n i → day_at a i ≤ day_at a j
  pub later : (i : ℕ) → Rival l a day k n i → day_at a i ≡ day_at a j → i ≤ j

-- of what is found: it counts, or there is none
abbrev pub Means : List ℕ → List ℕ → ℕ → ℕ → ℕ → Option ℕ → Type 0
Means l a day k n (Some j) = Counts l a day k n j
Means l a day k n None = (i : ℕ) → Rival l a day k n i → ⊥

module _ (l a : List ℕ) (day k n : ℕ) where
  -- one of the first n + 1 is one of the first n, or the last
  split :
      (P : ℕ → Type 0) → ((i : ℕ) → Rival l a day k n i → P i) → (Rival l a day k (suc n) n → P n)
      → (i : ℕ) → Rival l a day k (suc n) i → P i
  split P h last i r = go (dec_lt i n)
    where
      go : Dec (i < n) → P i
      go (yes b) = h i (record { below = b; named = r.named; not_after = r.not_after })
      go (no b) =
          let e : n ≡ i = omega (arith, r.below) in
          subst P e (last (subst (λ (x : ℕ). Rival l a day k (suc n) x) (sym e) r))

  -- one amendment more, which is no rival or is of an earlier day than what was found
  abbrev Beaten : Option ℕ → Type 0
  Beaten (Some j) = day_at a n < day_at a j
  Beaten None = ⊥

  stays : (f : Option ℕ) → Means l a day k n f → (Rival l a day k (suc n) n → Beaten f) → Means l a day k (suc n) f
  stays (Some j) m b =
      record {
        itself = record { below = omega (arith, m.itself.below); named = m.itself.named; not_after = m.itself.not_after };
        latest_day = split (λ (i : ℕ). day_at a i ≤ day_at a j) m.latest_day (λ r. omega (arith, b r));
        later = split (λ (i : ℕ). day_at a i ≡ day_at a j → i ≤ j) m.later (λ r e. absurd (omega (arith, b r)));
      }
  stays None m b = split (λ (i : ℕ). ⊥) m b

  -- one more, which counts
  newer : (f : Option ℕ) → Means l a day k n f → Rival l a day k (suc n) n → as_late a f n ≡ true → Counts l a day k (suc n) n
  newer (Some j) m r z =
      let d : day_at a j ≤ day_at a n = leb-true _ _ z in
      record {
        itself = r;
        latest_day = split (λ (i : ℕ). day_at a i ≤ day_at a n) (λ i q. omega (arith, m.latest_day i q)) (λ q. le_refl _);
        later = λ i q e. omega (arith, q.below);
      }
  newer None m r z =
      record {
        itself = r;
        latest_day = split (λ (i : ℕ). day_at a i ≤ day_at a n) (λ i q. absurd (m i q)) (λ q. le_refl _);
        later = λ i q e. omega (arith, q.below);
      }

  beaten : (f : Option ℕ) → as_late a f n ≡ false → Beaten f
  beaten (Some j) z = leb-false _ _ z
  beaten None z = true≢false z

  step :
      (f : Option ℕ) → Means l a day k n f → (x y z : Bool) → eqb (named_at l a n) k ≡ x → in_force a day n ≡ y → as_late a f n ≡ z
      → Means l a day k (suc n) (cond (x && (y && z)) (Some n) f)
  step f m false y z p q r = stays f m (λ v. absurd (eqb-false _ _ p v.named))
  step f m true false z p q r = stays f m (λ v. absurd (let h : day < day_at a n = leb-false _ _ q in omega (arith, v.not_after)))
  step f m true true false p q r = stays f m (λ v. beaten f r)
  step f m true true true p q r =
      newer f m (record { below = omega arith; named = eqb-true _ _ p; not_after = leb-true _ _ q }) r

-- What is found counts, and where nothing is found none does.
pub latest_means : (l a : List ℕ) (day k n : ℕ) → Means l a day k n (latest l a day k n)
unfolding latest
latest_means l a day k zero = λ i r. omega (arith, r.below)
latest_means l a day k (suc n) =
    step l a day k n (latest l a day k n) (latest_means l a day k n) (eqb (named_at l a n) k) (in_force a day n) (as_late a (latest l a day k n) n)
    refl refl refl

-- ---- a record that is named is one record of one table

ahead : (l : List ℕ) (t d : ℕ) → records_before l t ≤ records_before l (d + t)
unfolding records_before
ahead l t zero = rw zero-add (le_refl _)
ahead l t (suc d) = let h : records_before l t ≤ records_before l (d + t) = ahead l t d in rw suc-add (omega arith)

-- a record of a table stands before every later table
apart : (l : List ℕ) (t u i : ℕ) → i < count_of l t → t < u → records_before l t + i < records_before l u
apart l t u i h b =
    let e : u - (t + 1) + (t + 1) ≡ u = omega arith in
    let a : records_before l (t + 1) ≤ records_before l u =
    subst (λ (x : ℕ). records_before l (t + 1) ≤ records_before l x) e (ahead l (t + 1) (u - (t + 1))) in
    omega (arith, records_more l t)

-- Two amendments of a right list that name the same record name the same table and the same index.
pub named_once :
    (l a : List ℕ) (i j : ℕ) → Named l a i → Named l a j → named_at l a i ≡ named_at l a j
    → (table_at a i ≡ table_at a j) × (index_at a i ≡ index_at a j)
named_once l a i j p q e =
    let same = tables_same (dec_lt (table_at a i) (table_at a j)) (dec_lt (table_at a j) (table_at a i)) in
    (same, let f : records_before l (table_at a i) ≡ records_before l (table_at a j) = ap (records_before l) same in omega arith)
  where
    tables_same : Dec (table_at a i < table_at a j) → Dec (table_at a j < table_at a i) → table_at a i ≡ table_at a j
    tables_same (yes b) x = absurd (omega (arith, apart l (table_at a i) (table_at a j) (index_at a i) p.index_right b))
    tables_same (no b) (yes d) = absurd (omega (arith, apart l (table_at a j) (table_at a i) (index_at a j) q.index_right d))
    tables_same (no b) (no d) = omega arith
