-- Where the privileges of a class lie in their table: none before a first place, none from an end on. The others give no row, so a
-- search passes over them.
use Rattle.std.specs.Prelude.{ℕ, suc, ◌-◌, ◌<◌, ◌≤◌, Bool, false, List, ◌≡◌, eqb, Option, Some, None, unwrap_or}
use Rattle.std.proofs.Common.{subst, sym, ap, arith}
use Rattle.scan.specs.First.{first}
use Rattle.scan.specs.Laws.{first_at, first_nothing}
use Rattle.std.proofs.Math.Decide.{dec_le}
use Rattle.layout.specs.Layout.{privileges, record_of, count_of}
use Rattle.layout.specs.declared.Record.{Record}
use Rattle.table.specs.Table.{record_in}
use Rattle.table.specs.Laws.{at_in}

-- privilege i is the class's
abbrev pub is_of : List ℕ → ℕ → ℕ → Bool
is_of l class i = eqb (record_in l privileges i).class class

-- The same of an image's bytes.
pub of_in : (l : List ℕ) (class i : ℕ) → i < count_of l privileges → is_of l class i ≡ eqb (record_of l privileges i).class class
of_in l class i h = ap (λ (r : Record). eqb r.class class) (at_in l privileges i (omega arith) h)

-- no privilege before place k is the class's
pub record Ahead (l : List ℕ) (class k : ℕ) : Type 0 where
  pub within : k ≤ count_of l privileges
  pub none : (i : ℕ) → i < k → is_of l class i ≡ false

-- no privilege from place k on is the class's
pub record Past (l : List ℕ) (class k : ℕ) : Type 0 where
  pub within : k ≤ count_of l privileges
  pub none : (i : ℕ) → k ≤ i → i < count_of l privileges → is_of l class i ≡ false

-- ---- the two searches

either_way : (P : Type 0) (i k : ℕ) → Dec (suc i ≤ k) → (i < k → P) → (k ≤ i → P) → P
either_way P i k (yes h) f g = f h
either_way P i k (no h) f g = g (omega arith)

module _ (l : List ℕ) (class : ℕ) where
  -- the first that is the class's, or the end
  pub ahead_first : (f : Option ℕ) → f ≡ first (is_of l class) (count_of l privileges) → Ahead l class (unwrap_or f (count_of l privileges))
  ahead_first (Some k) e =
      let h = first_at (is_of l class) (count_of l privileges) k (sym e) in
      record { within = omega (arith, h.below); none = h.earlier }
  ahead_first None e = record { within = omega arith; none = first_nothing (is_of l class) (count_of l privileges) (sym e) }

  pub past_step : (k : ℕ) → 0 < k → Past l class k → is_of l class (k - 1) ≡ false → Past l class (k - 1)
  past_step k h p e =
      record {
        within = omega (arith, p.within);
        none =
            λ i a b. either_way (is_of l class i ≡ false) i k (dec_le (suc i) k)
            (λ d. let s : k - 1 ≡ i = omega arith in subst (λ (j : ℕ). is_of l class j ≡ false) s e)
            (λ d. p.none i d b);
      }
