-- Laws of scans: what a loop knows at an index, and what an answer says of each index.
use Prim.Native.Nat.{ℕ, zero, suc, ◌+◌, ◌-◌, ◌<◌, ◌≤◌}
use Rattle.std.specs.Prelude.{Option, Some, None, ◌≡◌, refl, Bool, true, false, cond, ◌&&◌}
use Rattle.std.proofs.Math.Path.{sym, ap}
use Rattle.std.proofs.Common.{subst, ◌∙◌, true≢false}
use Rattle.std.proofs.lemmas.Bool.{false≢true}
use native.Mathlib.Omega.{arith}
use Rattle.std.proofs.Math.Decide.{dec_le}
use Rattle.scan.specs.First.{first_from, first, is_at, some}

-- What a loop from 0 knows at index i: nothing before i passed.
pub record Passed (test : ℕ → Bool) (n i : ℕ) : Type 0 where
  pub within : i ≤ n
  pub rest : first test n ≡ first_from test (n - i) i

module _ (test : ℕ → Bool) (n : ℕ) where
  pub passed_none : Passed test n 0
  passed_none = record { within = omega arith; rest = ap (λ (k : ℕ). first_from test k 0) (omega arith) }

  -- one turn of the scan
  turn : (i : ℕ) → i < n → first_from test (n - i) i ≡ cond (test i) (Some i) (first_from test (n - (i + 1)) (i + 1))
  unfolding first_from
  turn i h =
      let e : n - i ≡ suc (n - (i + 1)) = omega arith in
      let f : suc i ≡ i + 1 = omega arith in
      rw e (rw f)

  pub found_here : (i : ℕ) → i < n → Passed test n i → test i ≡ true → Some i ≡ first test n
  found_here i h p e = sym (p.rest ∙ turn i h ∙ ap (λ (b : Bool). cond b (Some i) (first_from test (n - (i + 1)) (i + 1))) e)

  pub some_here : (i : ℕ) → i < n → Passed test n i → test i ≡ true → true ≡ some test n
  some_here i h p e = ap is_at (found_here i h p e)

  pub passed_step : (i : ℕ) → i < n → Passed test n i → test i ≡ false → Passed test n (i + 1)
  passed_step i h p e =
      record { within = omega arith; rest = p.rest ∙ turn i h ∙ ap (λ (b : Bool). cond b (Some i) (first_from test (n - (i + 1)) (i + 1))) e }

  pub found_none : (i : ℕ) → n ≤ i → Passed test n i → None ≡ first test n
  unfolding first_from
  found_none i h p =
      let e : n - i ≡ 0 = omega arith in
      sym (p.rest ∙ ap (λ (k : ℕ). first_from test k i) e)

  pub some_none : (i : ℕ) → n ≤ i → Passed test n i → false ≡ some test n
  some_none i h p = ap is_at (found_none i h p)

-- ---- what an answer says of each index

-- found at i: i is below n and passes, and nothing before it does
pub record Hit (test : ℕ → Bool) (n i : ℕ) : Type 0 where
  pub below : i < n
  pub passes : test i ≡ true
  pub earlier : (k : ℕ) → k < i → test k ≡ false

at_inj : {i j : ℕ} → Some i ≡ Some j → i ≡ j
at_inj e = cc

at_not : {i : ℕ} → Some i ≡ None → ⊥
at_not e = let z : ◌≡◌ {A = ℕ} 0 1 = cc in omega arith

-- the first of the indices from i on, or a later one
module _ (i k : ℕ) (a : i ≤ k) (P : ℕ → Type 0) (here : P i) (later : suc i ≤ k → P k) where
  ahead : Dec (suc i ≤ k) → P k
  ahead (yes h) = later h
  ahead (no h) = let e : i ≡ k = omega arith in subst P e here

  pub from_here : P k
  from_here = ahead (dec_le (suc i) k)

from_nothing : (test : ℕ → Bool) (n i : ℕ) → first_from test n i ≡ None → (k : ℕ) → i ≤ k → k < i + n → test k ≡ false
unfolding first_from
from_nothing test zero i e k a b = absurd (omega arith)
from_nothing test (suc n) i e k a b = go (test i) refl (from_nothing test n (suc i)) e
  where
    go :
        (t : Bool) → test i ≡ t → (first_from test n (suc i) ≡ None → (k : ℕ) → suc i ≤ k → k < suc i + n → test k ≡ false)
        → cond t (Some i) (first_from test n (suc i)) ≡ None → test k ≡ false
    go true p next q = absurd (at_not q)
    go false p next q = from_here i k a (λ (j : ℕ). test j ≡ false) p (λ h. next q k h (omega arith))

-- Nothing found: no index passes.
pub first_nothing : (test : ℕ → Bool) (n : ℕ) → first test n ≡ None → (k : ℕ) → k < n → test k ≡ false
first_nothing test n e k h = from_nothing test n 0 e k (omega arith) (omega arith)

pub record HitFrom (test : ℕ → Bool) (n i j : ℕ) : Type 0 where
  pub from : i ≤ j
  pub below : j < i + n
  pub passes : test j ≡ true
  pub earlier : (k : ℕ) → i ≤ k → k < j → test k ≡ false

from_hit : (test : ℕ → Bool) (n i j : ℕ) → first_from test n i ≡ Some j → HitFrom test n i j
unfolding first_from
from_hit test zero i j e = absurd (at_not (sym e))
from_hit test (suc n) i j e = go (test i) refl (from_hit test n (suc i) j) e
  where
    go :
        (t : Bool) → test i ≡ t → (first_from test n (suc i) ≡ Some j → HitFrom test n (suc i) j)
        → cond t (Some i) (first_from test n (suc i)) ≡ Some j → HitFrom test (suc n) i j
    go true p next q =
        let e : i ≡ j = at_inj q in
        record {
          from = omega arith;
          below = omega arith;
          passes = subst (λ (k : ℕ). test k ≡ true) e p;
          earlier = λ k a b. absurd (omega arith);
        }
    go false p next q =
        let r = next q in
        record {
          from = omega (arith, r.from);
          below = omega (arith, r.below);
          passes = r.passes;
          earlier = λ k a b. from_here i k a (λ (m : ℕ). test m ≡ false) p (λ h. r.earlier k h b);
        }

-- Found at i.
pub first_at : (test : ℕ → Bool) (n i : ℕ) → first test n ≡ Some i → Hit test n i
first_at test n i e =
    let r = from_hit test n 0 i e in
    record { below = omega (arith, r.below); passes = r.passes; earlier = λ k h. r.earlier k (omega arith) h }

-- whether there is one, index by index
pub some_false : (test : ℕ → Bool) (n : ℕ) → some test n ≡ false → (k : ℕ) → k < n → test k ≡ false
some_false test n e = go (first test n) refl e
  where
    go : (f : Option ℕ) → first test n ≡ f → is_at f ≡ false → (k : ℕ) → k < n → test k ≡ false
    go (Some i) p q = absurd (true≢false q)
    go None p q = first_nothing test n p

pub some_true : (test : ℕ → Bool) (n k : ℕ) → k < n → test k ≡ true → some test n ≡ true
some_true test n k h e = go (some test n) refl
  where
    go : (b : Bool) → some test n ≡ b → b ≡ true
    go true p = refl
    go false p = absurd (true≢false (sym e ∙ some_false test n p k h))

pub some_all : (test : ℕ → Bool) (n : ℕ) → ((k : ℕ) → k < n → test k ≡ false) → some test n ≡ false
some_all test n h = go (first test n) refl
  where
    go : (f : Option ℕ) → first test n ≡ f → is_at f ≡ false
    go (Some i) p = let r = first_at test n i p in absurd (true≢false (sym r.passes ∙ h i r.below))
    go None p = refl

-- two tests that say the same of every index
from_same :
    (f g : ℕ → Bool) (n i : ℕ) → ((k : ℕ) → i ≤ k → k < i + n → f k ≡ g k) → first_from f n i ≡ first_from g n i
unfolding first_from
from_same f g zero i h = refl
from_same f g (suc n) i h =
    rw (h i (omega arith) (omega arith))
    (ap (λ (x : Option ℕ). cond (g i) (Some i) x) (from_same f g n (suc i) (λ k a b. h k (omega arith) (omega arith))))

pub first_same : (f g : ℕ → Bool) (n : ℕ) → ((k : ℕ) → k < n → f k ≡ g k) → first f n ≡ first g n
first_same f g n h = from_same f g n 0 (λ k a b. h k (omega arith))

pub some_same : (f g : ℕ → Bool) (n : ℕ) → ((k : ℕ) → k < n → f k ≡ g k) → some f n ≡ some g n
some_same f g n h = ap is_at (first_same f g n h)

-- both of two tests
pub and_true : (a b : Bool) → (a && b) ≡ true → (a ≡ true) × (b ≡ true)
and_true true b e = (refl, e)
and_true false b e = absurd (false≢true e)

-- a branch whose test is known
pub cond_yes : {A : Type 0} (x y : A) {b : Bool} → b ≡ true → cond b x y ≡ x
cond_yes x y e = ap (λ (t : Bool). cond t x y) e

pub cond_not : {A : Type 0} (x y : A) {b : Bool} → b ≡ false → cond b x y ≡ y
cond_not x y e = ap (λ (t : Bool). cond t x y) e
