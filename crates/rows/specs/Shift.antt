-- What the loop that moves bytes up by a row knows at each turn.
use Prim.Native.Nat.{ℕ, suc, ◌+◌, ◌-◌, ◌<◌, ◌≤◌}
use Rattle.std.specs.Prelude.{List, [], ◌∷◌, ◌≡◌, refl, length, get_or, take, drop, set}
use Rattle.std.proofs.Common.{sym, ap, ◌∙◌, length-set, get_or-set_other, drop-cons, length-drop, length-take-le}
use Rattle.std.proofs.Math.Seq.{paste}
use native.Mathlib.Omega.{arith}
use Rattle.std.proofs.lemmas.List.Edits.{sets, sets-eq}
use Rattle.std.proofs.lemmas.List.{set_comm}
use Rattle.rows.specs.Rows.{row_size}

sets_set : {A : Type 0} (vs l : List A) (j i : ℕ) (v : A) → i < j → set (sets l j vs) i v ≡ sets (set l i v) j vs
sets_set [] l j i v h = refl
sets_set (w ∷ vs) l j i v h =
    sets_set vs (set l j w) (suc j) i v (omega arith)
    ∙ ap (λ (m : List _). sets m (suc j) vs) (set_comm l j i w v (λ e. omega arith))

sets_below : {A : Type 0} (vs l : List A) (j i : ℕ) (d : A) → i < j → get_or (sets l j vs) i d ≡ get_or l i d
sets_below [] l j i d h = refl
sets_below (w ∷ vs) l j i d h =
    sets_below vs (set l j w) (suc j) i d (omega arith)
    ∙ get_or-set_other l j i w d (λ e. omega arith)

pub record Shifting (l₀ : List ℕ) (from to : ℕ) (l : List ℕ) (k : ℕ) : Type 0 where
  pub above : from ≤ k
  pub below : k ≤ to
  pub same : length l ≡ length l₀
  pub held : l ≡ sets l₀ (k + row_size) (take (to - k) (drop k l₀))

module _ (l₀ : List ℕ) (from to : ℕ) where
  pub shift_none : from ≤ to → Shifting l₀ from to l₀ to
  shift_none h =
      let a : to - to ≡ 0 = omega arith in
      record { above = h; below = omega arith; same = refl; held = rw a }

  pub shift_step :
      (l : List ℕ) (k : ℕ) → Shifting l₀ from to l k → from < k → to + row_size ≤ length l₀
      → Shifting l₀ from to (set l (k - 1 + row_size) (get_or l (k - 1) 0)) (k - 1)
  shift_step l k p h fit =
      let j = k - 1 in
      let e : k ≡ suc j = omega arith in
      let q : to - j ≡ suc (to - k) = omega arith in
      let b : j < length l₀ = omega (arith, p.below) in
      let r : k + row_size ≡ suc (j + row_size) = omega arith in
      let v : get_or l j 0 ≡ get_or l₀ j 0 =
      ap (λ (m : List ℕ). get_or m j 0) p.held ∙ sets_below (take (to - k) (drop k l₀)) l₀ (k + row_size) j 0 (omega arith) in
      let d : drop j l₀ ≡ get_or l₀ j 0 ∷ drop k l₀ = drop-cons l₀ j 0 b ∙ ap (λ (n : ℕ). get_or l₀ j 0 ∷ drop n l₀) (sym e) in
      let w : take (to - j) (drop j l₀) ≡ get_or l₀ j 0 ∷ take (to - k) (drop k l₀) =
      ap (λ (n : ℕ). take n (drop j l₀)) q ∙ ap (λ (m : List ℕ). take (suc (to - k)) m) d in
      let s : set l (j + row_size) (get_or l j 0) ≡ sets (set l₀ (j + row_size) (get_or l₀ j 0)) (k + row_size) (take (to - k) (drop k l₀)) =
      ap (λ (x : ℕ). set l (j + row_size) x) v
      ∙ ap (λ (m : List ℕ). set m (j + row_size) (get_or l₀ j 0)) p.held
      ∙ sets_set (take (to - k) (drop k l₀)) l₀ (k + row_size) (j + row_size) (get_or l₀ j 0) (omega arith) in
      record {
        above = omega arith;
        below = omega (arith, p.below);
        same = length-set l (j + row_size) (get_or l j 0) ∙ p.same;
        held =
            s ∙ ap (λ (n : ℕ). sets (set l₀ (j + row_size) (get_or l₀ j 0)) n (take (to - k) (drop k l₀))) r
            ∙ ap (λ (m : List ℕ). sets l₀ (j + row_size) m) (sym w);
      }

  pub shift_done : (l : List ℕ) (k : ℕ) → Shifting l₀ from to l k → k ≤ from → l ≡ sets l₀ (from + row_size) (take (to - from) (drop from l₀))
  shift_done l k p h =
      let e : k ≡ from = omega (arith, p.above) in
      rw e at p.held

-- bytes moved up by a row at once
pub moved_up :
    (l : List ℕ) (at to : ℕ) → at ≤ to → to + row_size ≤ length l
    → paste l (at + row_size) (drop at l) (to - at) ≡ sets l (at + row_size) (take (to - at) (drop at l))
moved_up l at to h fit =
    let e : length (take (to - at) (drop at l)) ≡ to - at = omega (arith, length-take-le (to - at) (drop at l), length-drop {A = ℕ}) in
    rw (sets-eq (take (to - at) (drop at l)) l (at + row_size) (omega arith)) (rw e)
