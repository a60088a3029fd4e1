-- A signed number of 64 bits as the machine has it: read back from its bits, and taken from nought where it is below it.
use Rattle.std.specs.Prelude.{◌≡◌, ℕ, zero, suc, ◌+◌, ◌-◌, ◌<◌, ◌≤◌, Bool, true, false, cond, T, ℤ, pos, negsuc, ◌+ℤ◌, ◌-ℤ◌, neg_ℤ, FitsSigned, ◌≢◌, int_lt, nat_lt, unsigned_abs, refl}
use Rattle.std.proofs.Common.{sym, ap, subst, ◌∙◌, arith, lt-ltb, ltb-true, Fits, to_z, of_z}
use Rattle.std.specs.Int.Signed.{non_neg}
use Rattle.std.specs.Int.{w64}
use Rattle.std.proofs.lemmas.Int.{to_z-of_z}
use Rattle.census.specs.Census.{most, farthest}
use Rattle.census.specs.Lifted.{nought, lift, dial_fits}

-- read back from its bits
abbrev again : ℤ → ℤ
again z = to_z w64 (of_z w64 z)

-- with one more, and that taken from nought
abbrev up : ℤ → ℤ
up z = again z +ℤ pos 1

abbrev down : ℤ → ℤ
down z = pos 0 -ℤ again (up z)

-- what `lifted` asks of a number below nought
pub record Below (x : ℤ) : Type 0 where
  pub sum : FitsSigned w64 (up x)
  pub difference : FitsSigned w64 (down x)
  pub cast : T (non_neg (again (down x))) × Fits w64 (unsigned_abs (again (down x)))
  pub within : unsigned_abs (again (down x)) ≤ nought - 1
  pub place : (nought - 1) - unsigned_abs (again (down x)) ≡ lift x

pub one_up : (n : ℕ) → negsuc n +ℤ pos 1 ≡ neg_ℤ (pos n)
one_up zero = refl
one_up (suc n) = ap (λ (t : Bool). cond t (negsuc (suc (suc n) - 2)) (pos (1 - suc (suc n)))) (lt-ltb 1 (suc (suc n)) (omega arith)) ∙ ap negsuc (omega arith)

taken_off : (n : ℕ) → pos 0 -ℤ neg_ℤ (pos n) ≡ pos n
taken_off zero = refl
taken_off (suc n) = ap pos (omega arith)

small : (n : ℕ) → n < nought → FitsSigned w64 (neg_ℤ (pos n))
small zero h = record { sfits = omega arith }
small (suc n) h = record { sfits = omega arith }

below_all : (n : ℕ) → FitsSigned w64 (negsuc n) → Below (negsuc n)
below_all n f =
    let a : again (negsuc n) ≡ negsuc n = to_z-of_z w64 (negsuc n) f in
    let b : up (negsuc n) ≡ neg_ℤ (pos n) = ap (λ (z : ℤ). z +ℤ pos 1) a ∙ one_up n in
    let s : FitsSigned w64 (up (negsuc n)) = subst (FitsSigned w64) (sym b) (small n (omega (arith, f.sfits))) in
    let d : down (negsuc n) ≡ pos n = ap (λ (z : ℤ). pos 0 -ℤ z) (to_z-of_z w64 (up (negsuc n)) s ∙ b) ∙ taken_off n in
    let t : FitsSigned w64 (down (negsuc n)) = subst (FitsSigned w64) (sym d) (record { sfits = omega (arith, f.sfits) }) in
    let e : again (down (negsuc n)) ≡ pos n = to_z-of_z w64 (down (negsuc n)) t ∙ d in
    record {
      sum = s;
      difference = t;
      cast = subst (λ (z : ℤ). T (non_neg z) × Fits w64 (unsigned_abs z)) (sym e) (tt, record { fits = omega (arith, f.sfits) });
      within = subst (λ (z : ℤ). unsigned_abs z ≤ nought - 1) (sym e) (omega (arith, f.sfits));
      place = ap (λ (z : ℤ). (nought - 1) - unsigned_abs z) e;
    }

unequal : true ≡ false → ⊥
unequal q = let z : ◌≡◌ {A = ℕ} 0 1 = cc in omega arith

pub below : (x : ℤ) → FitsSigned w64 x → int_lt (again x) (pos 0) ≡ true → Below x
below (pos n) f e =
    absurd (ltb_none n (subst (λ (z : ℤ). int_lt z (pos 0) ≡ true) (to_z-of_z w64 (pos n) f) e))
  where
    ltb_none : (n : ℕ) → nat_lt n 0 ≢ true
    ltb_none n q = let h = ltb-true n 0 q in omega arith
below (negsuc n) f e = below_all n f

-- and of one that is not
pub record Above (x : ℤ) : Type 0 where
  pub cast : T (non_neg (again x)) × Fits w64 (unsigned_abs (again x))
  pub sum : Fits w64 (nought + unsigned_abs (again x))
  pub place : nought + unsigned_abs (again x) ≡ lift x

pub above : (x : ℤ) → FitsSigned w64 x → int_lt (again x) (pos 0) ≡ false → Above x
above (pos n) f e =
    let a : again (pos n) ≡ pos n = to_z-of_z w64 (pos n) f in
    record {
      cast = subst (λ (z : ℤ). T (non_neg z) × Fits w64 (unsigned_abs z)) (sym a) (tt, record { fits = omega (arith, f.sfits) });
      sum = subst (λ (z : ℤ). Fits w64 (nought + unsigned_abs z)) (sym a) (record { fits = omega (arith, f.sfits) });
      place = ap (λ (z : ℤ). nought + unsigned_abs z) a;
    }
above (negsuc n) f e = absurd (unequal (subst (λ (z : ℤ). int_lt z (pos 0) ≡ false) (to_z-of_z w64 (negsuc n) f) e))

-- dial k: the sum fits, and is the dial
module _ (first : ℤ) (k : ℕ) (f : FitsSigned w64 first) (low : unsigned_abs first ≤ farthest) (few : k < most) where
  pub dial_is : again first +ℤ to_z w64 k ≡ first +ℤ pos k
  dial_is =
      ap (λ (z : ℤ). z +ℤ to_z w64 k) (to_z-of_z w64 first f) ∙ ap (λ (z : ℤ). first +ℤ z) (to_z-of_z w64 (pos k) (record { sfits = omega arith }))

  pub dial_sum : FitsSigned w64 (again first +ℤ to_z w64 k)
  dial_sum = subst (FitsSigned w64) (sym dial_is) (dial_fits first k low few)

  pub dial_again : to_z w64 (of_z w64 (again first +ℤ to_z w64 k)) ≡ first +ℤ pos k
  dial_again = to_z-of_z w64 (again first +ℤ to_z w64 k) dial_sum ∙ dial_is
