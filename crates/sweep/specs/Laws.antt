-- Laws of the sweep: what a loop knows at an index, and what is gathered from the stretches that it gives.
use Prim.Native.Nat.{ℕ, zero, suc, ◌+◌, ◌-◌, ◌<◌, ◌≤◌}
use Rattle.std.specs.Prelude.{Option, Some, None, ◌≡◌}
use mathlib.Core.List.{[], ◌∷◌}
use Rattle.std.proofs.Math.Path.{refl, ap}
use Rattle.std.proofs.Common.{sym, ◌∙◌}
use native.Mathlib.Omega.{arith}
use Rattle.lists.specs.From.{stretch, from}
use Rattle.profile.specs.declared.Range.{Range}
use Rattle.layout.specs.declared.Record.{Record}
use Rattle.sweep.specs.Sweep.{shared_with, on_shared, swept_from, sweep, gives}

shares_pair : {p q : ℕ × Range} → Some p ≡ Some q → p ≡ q
shares_pair e = cc

pub shares_index : {i j : ℕ} {x y : Range} → ◌≡◌ {A = Option (ℕ × Range)} (Some (i, x)) (Some (j, y)) → i ≡ j
shares_index e = ap (λ (p : ℕ × Range). p.0) (shares_pair e)

pub shares_range : {i j : ℕ} {x y : Range} → ◌≡◌ {A = Option (ℕ × Range)} (Some (i, x)) (Some (j, y)) → x ≡ y
shares_range e = ap (λ (p : ℕ × Range). p.1) (shares_pair e)

pub shares_not : {i : ℕ} {x : Range} → ◌≡◌ {A = Option (ℕ × Range)} (Some (i, x)) None → ⊥
shares_not e = let z : ◌≡◌ {A = ℕ} 0 1 = cc in omega arith

module _ (at : ℕ → Record) (m : Option ℕ) (window : Range) (n : ℕ) where
  -- one turn of the sweep
  turn : (i : ℕ) → i < n → sweep at m window n i ≡ on_shared (shared_with m window (at i)) (λ x. Some (i, x)) (sweep at m window n (i + 1))
  unfolding swept_from
  turn i h =
      let e : n - i ≡ suc (n - (i + 1)) = omega arith in
      let f : suc i ≡ i + 1 = omega arith in
      rw e (rw f)

  pub sweep_here : (i : ℕ) (x : Range) → i < n → shared_with m window (at i) ≡ Some x → sweep at m window n i ≡ Some (i, x)
  sweep_here i x h e = turn i h ∙ ap (λ (s : Option Range). on_shared s (λ y. Some (i, y)) (sweep at m window n (i + 1))) e

  pub sweep_step : (i : ℕ) → i < n → shared_with m window (at i) ≡ None → sweep at m window n i ≡ sweep at m window n (i + 1)
  sweep_step i h e = turn i h ∙ ap (λ (s : Option Range). on_shared s (λ y. Some (i, y)) (sweep at m window n (i + 1))) e

  pub sweep_end : (i : ℕ) → n ≤ i → sweep at m window n i ≡ None
  unfolding swept_from
  sweep_end i h = let e : n - i ≡ 0 = omega arith in ap (λ (k : ℕ). swept_from at m window k i) e

-- ---- what each shared stretch gives, one after the other

-- found at j: j lies from i on below i + k, and what is gathered begins with what j gives
pub record Given {A : Type 0} (at : ℕ → Record) (m : Option ℕ) (window : Range) (g : ℕ → Range → A) (k i j : ℕ) (x : Range) : Type 0 where
  pub after : i ≤ j
  pub before : j < i + k
  pub gathered : stretch k i (gives at m window g) ≡ g j x ∷ stretch (i + k - (j + 1)) (j + 1) (gives at m window g)
  pub stretched : shared_with m window (at j) ≡ Some x

module _ {A : Type 0} (at : ℕ → Record) (m : Option ℕ) (window : Range) (g : ℕ → Range → A) where
  given : (k i j : ℕ) (x : Range) → swept_from at m window k i ≡ Some (j, x) → Given at m window g k i j x
  unfolding swept_from stretch
  given zero i j x e = absurd (shares_not (sym e))
  given (suc k) i j x e = go (shared_with m window (at i)) refl (given k (suc i) j x) e
    where
      go :
          (s : Option Range) → shared_with m window (at i) ≡ s → (swept_from at m window k (suc i) ≡ Some (j, x) → Given at m window g k (suc i) j x)
          → on_shared s (λ y. Some (i, y)) (swept_from at m window k (suc i)) ≡ Some (j, x) → Given at m window g (suc k) i j x
      go (Some y) p next q =
          let a : i ≡ j = shares_index q in
          let b : y ≡ x = shares_range q in
          let c : i + suc k - (j + 1) ≡ k = omega arith in
          let d : j + 1 ≡ suc i = omega arith in
          record {
            after = omega arith;
            before = omega arith;
            gathered = rw p (rw c (rw d (rw a (rw b))));
            stretched = rw (← a) (p ∙ ap Some b);
          }
      go None p next q =
          let r = next q in
          let c : i + suc k - (j + 1) ≡ suc i + k - (j + 1) = omega arith in
          record {
            after = omega (arith, r.after);
            before = omega (arith, r.before);
            gathered = rw p (rw c r.gathered);
            stretched = r.stretched;
          }

  none : (k i : ℕ) → swept_from at m window k i ≡ None → stretch k i (gives at m window g) ≡ []
  unfolding swept_from stretch
  none zero i e = refl
  none (suc k) i e = go (shared_with m window (at i)) refl (none k (suc i)) e
    where
      go :
          (s : Option Range) → shared_with m window (at i) ≡ s
          → (swept_from at m window k (suc i) ≡ None → stretch k (suc i) (gives at m window g) ≡ [])
          → on_shared s (λ y. Some (i, y)) (swept_from at m window k (suc i)) ≡ None → stretch (suc k) i (gives at m window g) ≡ []
      go (Some y) p next q = absurd (shares_not q)
      go None p next q = rw p (next q)

  module _ (n : ℕ) where
    pub swept_below : (i j : ℕ) (x : Range) → sweep at m window n i ≡ Some (j, x) → (i ≤ j) × (j < n)
    swept_below i j x e =
        let r = given (n - i) i j x e in
        (r.after, omega (arith, r.after, r.before))

    -- what is gathered from i on begins with what the sweep gives, and goes on behind it
    pub swept_more :
        (i j : ℕ) (x : Range) → sweep at m window n i ≡ Some (j, x)
        → from n (gives at m window g) i ≡ g j x ∷ from n (gives at m window g) (j + 1)
    swept_more i j x e =
        let r = given (n - i) i j x e in
        let c : i + (n - i) - (j + 1) ≡ n - (j + 1) = omega (arith, r.after, r.before) in
        rw c at r.gathered

    pub swept_none : (i : ℕ) → sweep at m window n i ≡ None → from n (gives at m window g) i ≡ []
    swept_none i e = none (n - i) i e
