-- "A split stretch's counts add up to those of the whole."
use Rattle.std.specs.Prelude.{ℕ, zero, suc, ◌+◌, ◌<◌, cond, List, [], ◌∷◌, ◌≡◌, refl, eqb, ℤ, pos, negsuc, neg_ℤ, ◌+ℤ◌, ◌-ℤ◌, nat_abs, Ok}
use Rattle.std.proofs.Common.{sym, ap, ◌∙◌, arith}
use Rattle.std.specs.Float.{binary64}
use Rattle.std.specs.Float.Ieee.{of_int}
use Rattle.std.proofs.Math.IntN.{+ℤ_assoc, +ℤ_comm, +ℤ_invr, +ℤ_idl, pos-ne-negsuc}
use Rattle.codes.specs.Read.{kind_of, direction_of}
use Rattle.codes.specs.Refusal.{refusal_of}
use Rattle.occupancy.specs.declared.Edges.{Edges}
use Rattle.station.specs.Station.{situation_of}
use Rattle.station.specs.declared.StationRecord.{StationRecord}
use Rattle.table.specs.Table.{table_of}
use Rattle.entry.specs.Entry.{edges_read}
use Rattle.census.specs.declared.Census.{Census}
use Rattle.census.specs.Census.{dial_at, dials_by, dials_of, code_at, many, listed, counts_of, census_tests, census_of}
use Rattle.census.specs.Lifted.{stretch_accepted}
use Rattle.census.specs.Signed.{one_up}
use Rattle.census.specs.Front.{counts_in, census_counted, front_stretch}

-- two runs of counts, count by count
unfoldable pub added : List ℕ → List ℕ → List ℕ
added [] m = []
added (a ∷ l) [] = []
added (a ∷ l) (b ∷ m) = (a + b) ∷ added l m

listed_added : (n c : ℕ) (f g : ℕ → ℕ) → listed n c (λ (j : ℕ). f j + g j) ≡ added (listed n c f) (listed n c g)
unfolding listed added
listed_added zero c f g = refl
listed_added (suc n) c f g = ap (λ (l : List ℕ). (f c + g c) ∷ l) (listed_added n (suc c) f g)

listed_same : (n c : ℕ) (f g : ℕ → ℕ) → ((j : ℕ) → f j ≡ g j) → listed n c f ≡ listed n c g
unfolding listed
listed_same zero c f g h = refl
listed_same (suc n) c f g h = ap (λ (x : ℕ). x ∷ listed n (suc c) f) (h c) ∙ ap (λ (l : List ℕ). g c ∷ l) (listed_same n (suc c) f g h)

-- the first m and the n behind them
many_split : (code : ℕ → ℕ) (c m n : ℕ) → many code c (m + n) ≡ many code c m + many (λ (k : ℕ). code (m + k)) c n
unfolding many
many_split code c m zero = let e : m + 0 ≡ m = omega arith in ap (many code c) e ∙ omega arith
many_split code c m (suc n) =
    let e : m + suc n ≡ suc (m + n) = omega arith in
    ap (many code c) e
    ∙ ap (λ (x : ℕ). x + cond (eqb (code (m + n)) c) 1 0) (many_split code c m n)
    ∙ omega arith

many_same : (code code' : ℕ → ℕ) (c n : ℕ) → ((k : ℕ) → k < n → code k ≡ code' k) → many code c n ≡ many code' c n
unfolding many
many_same code code' c zero h = refl
many_same code code' c (suc n) h =
    ap (λ (x : ℕ). x + cond (eqb (code n) c) 1 0) (many_same code code' c n (λ k p. h k (omega arith)))
    ∙ ap (λ (x : ℕ). many code' c n + cond (eqb x c) 1 0) (h n (omega arith))

pub counts_split : (code : ℕ → ℕ) (m n : ℕ) → counts_of code (m + n) ≡ added (counts_of code m) (counts_of (λ (k : ℕ). code (m + k)) n)
unfolding counts_of
counts_split code m n =
    listed_same 25 1 (λ (c : ℕ). many code c (m + n)) (λ (c : ℕ). many code c m + many (λ (k : ℕ). code (m + k)) c n) (λ c. many_split code c m n)
    ∙ listed_added 25 1 (λ (c : ℕ). many code c m) (λ (c : ℕ). many (λ (k : ℕ). code (m + k)) c n)

pub counts_same : (code code' : ℕ → ℕ) (n : ℕ) → ((k : ℕ) → k < n → code k ≡ code' k) → counts_of code n ≡ counts_of code' n
unfolding counts_of
counts_same code code' n h =
    listed_same 25 1 (λ (c : ℕ). many code c n) (λ (c : ℕ). many code' c n) (λ c. many_same code code' c n h)

-- Of a stretch of any length, also one that a call refuses: the first m dials and the n behind them.
pub stretch_split : (r : StationRecord) (kind direction : ℕ) (e : Edges) (l : List ℕ) (first : ℤ) (m n : ℕ)
    → counts_in r kind direction e l first (m + n)
    ≡ added (counts_in r kind direction e l first m) (counts_in r kind direction e l (first +ℤ pos m) n)
stretch_split r kind direction e l first m n =
    counts_split (code_of first) m n
    ∙ ap (added (counts_in r kind direction e l first m))
    (counts_same (λ (k : ℕ). code_of first (m + k)) (code_of (first +ℤ pos m)) n
    (λ k p.
    ap (λ (z : ℤ). code_at (table_of l) (situation_of r) (kind_of kind) (direction_of direction) (edges_read e) (of_int binary64 z))
    (sym (+ℤ_assoc first (pos m) (pos k)))))
  where
    code_of : ℤ → ℕ → ℕ
    code_of z k = code_at (table_of l) (situation_of r) (kind_of kind) (direction_of direction) (edges_read e) (dial_at z k)

-- ---- first to m, and m + 1 to last

-- what a difference says of the two
apart : (x y : ℤ) → y +ℤ (x -ℤ y) ≡ x
apart x y = ap (λ (z : ℤ). y +ℤ z) (+ℤ_comm x (neg_ℤ y)) ∙ sym (+ℤ_assoc y (neg_ℤ y) x) ∙ ap (λ (z : ℤ). z +ℤ x) (+ℤ_invr y) ∙ +ℤ_idl x

some_dials : (d : ℤ) → 0 < dials_by d → d +ℤ pos 1 ≡ pos (dials_by d)
some_dials (pos d) h = ap pos (omega arith)
some_dials (negsuc d) h = absurd (omega arith)

dials_by_holds : (d : ℤ) (k : ℕ) → 0 < k → d +ℤ pos 1 ≡ pos k → dials_by d ≡ k
dials_by_holds (pos d) k h e = let n : d + 1 ≡ k = ap nat_abs e in omega arith
dials_by_holds (negsuc zero) k h e = let n : 0 ≡ k = ap nat_abs (sym (one_up zero) ∙ e) in absurd (omega arith)
dials_by_holds (negsuc (suc d)) k h e = absurd (pos-ne-negsuc k d (sym (sym (one_up (suc d)) ∙ e)))

-- the dial behind the last of a stretch
pub behind : (first last : ℤ) → 0 < dials_of first last → first +ℤ pos (dials_of first last) ≡ last +ℤ pos 1
behind first last h =
    ap (λ (z : ℤ). first +ℤ z) (sym (some_dials (last -ℤ first) h))
    ∙ sym (+ℤ_assoc first (last -ℤ first) (pos 1))
    ∙ ap (λ (z : ℤ). z +ℤ pos 1) (apart last first)

-- neither part is empty: there are as many dials in both as in the whole
dials_split : (first m last : ℤ) → 0 < dials_of first m → 0 < dials_of (m +ℤ pos 1) last
    → dials_of first last ≡ dials_of first m + dials_of (m +ℤ pos 1) last
dials_split first m last a b =
    let x = dials_of first m in
    let y = dials_of (m +ℤ pos 1) last in
    let e : first +ℤ pos (x + y) ≡ last +ℤ pos 1 =
    sym (+ℤ_assoc first (pos x) (pos y)) ∙ ap (λ (z : ℤ). z +ℤ pos y) (behind first m a) ∙ behind (m +ℤ pos 1) last b in
    dials_by_holds (last -ℤ first) (x + y) (omega arith)
    (+ℤ_assoc last (neg_ℤ first) (pos 1)
    ∙ ap (λ (z : ℤ). last +ℤ z) (+ℤ_comm (neg_ℤ first) (pos 1))
    ∙ sym (+ℤ_assoc last (pos 1) (neg_ℤ first))
    ∙ ap (λ (z : ℤ). z +ℤ neg_ℤ first) (sym e)
    ∙ ap (λ (z : ℤ). z +ℤ neg_ℤ first) (+ℤ_comm first (pos (x + y)))
    ∙ +ℤ_assoc (pos (x + y)) first (neg_ℤ first)
    ∙ ap (λ (z : ℤ). pos (x + y) +ℤ z) (+ℤ_invr first)
    ∙ ap pos (omega arith))

module _ (r : StationRecord) (kind direction : ℕ) (e : Edges) (l : List ℕ) (first m last : ℤ) where
  -- by the definition of the counts, also where the whole is too long for a call
  pub parts_add : 0 < dials_of first m → 0 < dials_of (m +ℤ pos 1) last
      → counts_in r kind direction e l first (dials_of first last)
      ≡ added (counts_in r kind direction e l first (dials_of first m)) (counts_in r kind direction e l (m +ℤ pos 1) (dials_of (m +ℤ pos 1) last))
  parts_add a b =
      ap (counts_in r kind direction e l first) (dials_split first m last a b)
      ∙ stretch_split r kind direction e l first (dials_of first m) (dials_of (m +ℤ pos 1) last)
      ∙ ap (λ (z : ℤ). added (counts_in r kind direction e l first (dials_of first m)) (counts_in r kind direction e l z (dials_of (m +ℤ pos 1) last)))
      (behind first m a)

  -- and of the calls' answers
  pub census_split : refusal_of (census_tests r kind direction e l first m) ≡ Ok tt
      → refusal_of (census_tests r kind direction e l (m +ℤ pos 1) last) ≡ Ok tt
      → refusal_of (census_tests r kind direction e l first last) ≡ Ok tt
      → (census_of r kind direction e l first last).counts
      ≡ added (census_of r kind direction e l first m).counts (census_of r kind direction e l (m +ℤ pos 1) last).counts
  census_split a b c =
      let x = (stretch_accepted first m (front_stretch r kind direction e l first m a)).some in
      let y = (stretch_accepted (m +ℤ pos 1) last (front_stretch r kind direction e l (m +ℤ pos 1) last b)).some in
      sym (ap (λ (z : Census). z.counts) (census_counted r kind direction e l first last c))
      ∙ parts_add x y
      ∙ ap (λ (z : Census). added z.counts (counts_in r kind direction e l (m +ℤ pos 1) (dials_of (m +ℤ pos 1) last)))
      (census_counted r kind direction e l first m a)
      ∙ ap (λ (z : Census). added (census_of r kind direction e l first m).counts z.counts)
      (census_counted r kind direction e l (m +ℤ pos 1) last b)
