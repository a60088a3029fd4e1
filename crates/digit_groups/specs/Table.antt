-- The table of 1,000 groups. Its rule, computed once over the whole table, is the rule at each entry.
use Rattle.std.specs.Prelude.{ℕ, zero, suc, ◌-◌, ◌*◌, ◌/◌, ◌%◌, ◌^◌, ◌<◌, Bool, true, false, cond, ◌&&◌, List, ◌≡◌, T, eqb, ltb, get_or}
use Rattle.std.proofs.Common.{⊎_elim, ◌∙◌, subst, sym, eq-or-lt_of_le, le_of_suc-le-suc, not-suc-le-zero, eqb→eq}
use Rattle.digit_groups.specs.declared.table.Row.{Row}

-- ---- where an entry stands

-- a row's word, counted in fours
abbrev pub word_of : Row → ℕ → ℕ
word_of r j = cond (ltb (j % 4) 2) (cond (ltb (j % 2) 1) r.a r.b) (cond (ltb (j % 2) 1) r.c r.d)

-- a row's group, five to a word of 12 bits each, the first the highest
abbrev pub group_in : Row → ℕ → ℕ
group_in r n = word_of r (n / 5) / 2 ^ ((4 - n % 5) * 12) % 4096

abbrev pub no_row : Row
no_row = record { a = 0; b = 0; c = 0; d = 0 }

-- a table's entry, twenty to a row
abbrev pub entry_in : List Row → ℕ → ℕ
entry_in rows n = group_in (get_or rows (n / 20) no_row) n

-- ---- the rule

-- each entry below n is what the rule gives at its place
unfoldable pub ruled : (ℕ → ℕ) → List Row → ℕ → Bool
ruled rule rows zero = true
ruled rule rows (suc n) = eqb (entry_in rows n) (rule n) && ruled rule rows n

-- a table of 1,000 entries goes by a rule
pub record Ruled (rule : ℕ → ℕ) (rows : List Row) : Type 0 where
  pub each : T (ruled rule rows 1000)

both_left : (a b : Bool) → T (a && b) → T a
both_left true b t = tt
both_left false b t = t

both_right : (a b : Bool) → T (a && b) → T b
both_right true b t = t
both_right false b t = absurd t

below : (rule : ℕ → ℕ) (rows : List Row) (n : ℕ) → T (ruled rule rows n) → (k : ℕ) → k < n → entry_in rows k ≡ rule k
unfolding ruled
below rule rows zero t k h = absurd (not-suc-le-zero h)
below rule rows (suc n) t k h =
    let last : entry_in rows n ≡ rule n = eqb→eq (entry_in rows n) (rule n) (both_left (eqb (entry_in rows n) (rule n)) (ruled rule rows n) t) in
    ⊎_elim (λ (e : k ≡ n). subst (λ (m : ℕ). entry_in rows m ≡ rule m) (sym e) last)
    (below rule rows n (both_right (eqb (entry_in rows n) (rule n)) (ruled rule rows n) t) k)
    (eq-or-lt_of_le (le_of_suc-le-suc h))

pub entry_at : (rule : ℕ → ℕ) (rows : List Row) → Ruled rule rows → (n : ℕ) → n < 1000 → entry_in rows n ≡ rule n
entry_at rule rows r n h = below rule rows 1000 r.each n h

-- ---- a row

-- row k of such a table
pub record RowRuled (rule : ℕ → ℕ) (k : ℕ) (r : Row) : Type 0 where
  pub entry : (n : ℕ) → n < 1000 → n / 20 ≡ k → group_in r n ≡ rule n

pub row_at : (rule : ℕ → ℕ) (rows : List Row) → Ruled rule rows → (k i : ℕ) → k ≡ i → RowRuled rule k (get_or rows i no_row)
row_at rule rows r k i e = record {
  entry = λ (n : ℕ) (h : n < 1000) (f : n / 20 ≡ k).
      subst (λ (j : ℕ). group_in (get_or rows j no_row) n ≡ rule n) (f ∙ e) (entry_at rule rows r n h);
}
