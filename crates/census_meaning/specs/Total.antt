-- "Their total is last − first + 1."
use Rattle.std.specs.Prelude.{ℕ, zero, suc, ◌+◌, ◌<◌, ◌≤◌, Bool, cond, List, [], ◌∷◌, ◌≡◌, refl, eqb, ℤ, pos, negsuc, ◌+ℤ◌, ◌-ℤ◌, Ok}
use Rattle.std.proofs.Common.{sym, ap, ◌∙◌, arith, eq-eqb, ne_eqb}
use Rattle.std.proofs.Math.Decide.{ℕ_discrete}
use Rattle.codes.specs.Refusal.{refusal_of}
use Rattle.occupancy.specs.declared.Edges.{Edges}
use Rattle.station.specs.declared.StationRecord.{StationRecord}
use Rattle.census.specs.declared.Census.{Census}
use Rattle.census.specs.Census.{dials_by, dials_of, many, listed, counts_of, census_tests, census_of}
use Rattle.census.specs.Lifted.{stretch_accepted}
use Rattle.census.specs.Counts.{Numbered}
use Rattle.census.specs.Coded.{code_numbered}
use Rattle.census.specs.Front.{census_counted, front_stretch}

unfoldable pub total : List ℕ → ℕ
total [] = 0
total (n ∷ ns) = n + total ns

-- the total of sums is the sum of totals
total_sum : (m c : ℕ) (f g : ℕ → ℕ) → total (listed m c (λ (j : ℕ). f j + g j)) ≡ total (listed m c f) + total (listed m c g)
unfolding total listed
total_sum zero c f g = refl
total_sum (suc m) c f g = ap (λ (x : ℕ). f c + g c + x) (total_sum m (suc c) f g) ∙ omega arith

-- one code is one of those listed, or none
mark : ℕ → ℕ → ℕ
mark x j = cond (eqb x j) 1 0

marks_none : (m c x : ℕ) → x < c → total (listed m c (mark x)) ≡ 0
unfolding total listed mark
marks_none zero c x h = refl
marks_none (suc m) c x h =
    ap (λ (t : Bool). cond t 1 0 + total (listed m (suc c) (mark x))) (ne_eqb x c (λ e. absurd (omega arith)))
    ∙ ap (λ (y : ℕ). 0 + y) (marks_none m (suc c) x (omega arith))

marks_one : (m c x : ℕ) → c ≤ x → x < c + m → total (listed m c (mark x)) ≡ 1
unfolding total listed mark
marks_one zero c x h k = absurd (omega arith)
marks_one (suc m) c x h k = go (ℕ_discrete x c) (λ p q. marks_one m (suc c) x p q)
  where
    go : Dec (x ≡ c) → (suc c ≤ x → x < suc c + m → total (listed m (suc c) (mark x)) ≡ 1) → cond (eqb x c) 1 0 + total (listed m (suc c) (mark x)) ≡ 1
    go (yes e) r =
        ap (λ (t : Bool). cond t 1 0 + total (listed m (suc c) (mark x))) (eq-eqb x c e)
        ∙ ap (λ (y : ℕ). 1 + y) (marks_none m (suc c) x (omega arith))
    go (no e) r =
        ap (λ (t : Bool). cond t 1 0 + total (listed m (suc c) (mark x))) (ne_eqb x c e)
        ∙ ap (λ (y : ℕ). 0 + y) (r (omega (arith, e)) (omega arith))

-- with no dial there are noughts
total_nought : (m c : ℕ) → total (listed m c (λ (j : ℕ). 0)) ≡ 0
unfolding total listed
total_nought zero c = refl
total_nought (suc m) c = ap (λ (y : ℕ). 0 + y) (total_nought m (suc c))

pub total_is : (code : ℕ → ℕ) (n : ℕ) → ((k : ℕ) → Numbered (code k)) → total (counts_of code n) ≡ n
unfolding counts_of many mark
total_is code zero h = total_nought 25 1
total_is code (suc n) h =
    total_sum 25 1 (λ (c : ℕ). many code c n) (mark (code n))
    ∙ ap (λ (x : ℕ). x + total (listed 25 1 (mark (code n)))) (total_is code n h)
    ∙ ap (λ (x : ℕ). n + x) (marks_one 25 1 (code n) (h n).above (omega (arith, (h n).within)))
    ∙ omega arith

module _ (r : StationRecord) (kind direction : ℕ) (e : Edges) (l : List ℕ) (first last : ℤ)
    (accepted : refusal_of (census_tests r kind direction e l first last) ≡ Ok tt) where
  pub census_dials : total (census_of r kind direction e l first last).counts ≡ dials_of first last
  census_dials =
      sym (ap (λ (c : Census). total c.counts) (census_counted r kind direction e l first last accepted))
      ∙ total_is _ (dials_of first last) (λ k. code_numbered _ _ _ _ _ _)

  -- last − first + 1
  pub census_total : pos (total (census_of r kind direction e l first last).counts) ≡ (last -ℤ first) +ℤ pos 1
  census_total =
      ap pos census_dials
      ∙ go (last -ℤ first) (stretch_accepted first last (front_stretch r kind direction e l first last accepted)).some
    where
      go : (d : ℤ) → 0 < dials_by d → pos (dials_by d) ≡ d +ℤ pos 1
      go (pos d) h = ap pos (omega arith)
      go (negsuc d) h = absurd (omega arith)
