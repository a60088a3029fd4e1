-- What the loop that copies bytes knows at each turn.
use Prim.Native.Nat.{ℕ, suc, ◌+◌, ◌<◌, ◌≤◌}
use Rattle.std.specs.Prelude.{List, ◌≡◌, refl, length, get_or, set}
use Rattle.std.proofs.Common.{sym, ap, ◌∙◌}
use native.Mathlib.Omega.{arith}
use Rattle.std.proofs.Math.ListN.{length-set}
use Rattle.std.proofs.Math.Seq.{paste, paste-zero, paste-suc}

pub record Copying (lent source : List ℕ) (room : ℕ) (l : List ℕ) (k : ℕ) : Type 0 where
  pub within : k ≤ room
  pub same : length l ≡ length lent
  pub held : l ≡ paste lent 0 source k

module _ (lent source : List ℕ) (room : ℕ) where
  pub copy_none : Copying lent source room lent 0
  copy_none = record { within = omega arith; same = refl; held = paste-zero lent 0 source }

  pub copy_step :
      (l : List ℕ) (k : ℕ) → Copying lent source room l k → k < room → room ≤ length lent → room ≤ length source
      → Copying lent source room (set l k (get_or source k 0)) (k + 1)
  copy_step l k c h a b =
      let z : 0 + k ≡ k = omega arith in
      let s : k + 1 ≡ suc k = omega arith in
      let e : set (paste lent 0 source k) (0 + k) (get_or source k 0) ≡ paste lent 0 source (suc k) = paste-suc lent 0 source k 0 (omega arith) (omega arith) in
      record {
        within = omega arith;
        same = length-set l k (get_or source k 0) ∙ c.same;
        held =
            ap (λ (m : List ℕ). set m k (get_or source k 0)) c.held ∙ ap (λ (i : ℕ). set (paste lent 0 source k) i (get_or source k 0)) (sym z)
            ∙ e ∙ ap (λ (i : ℕ). paste lent 0 source i) (sym s);
      }

  pub copy_done : (l : List ℕ) (k : ℕ) → Copying lent source room l k → room ≤ k → l ≡ paste lent 0 source room
  copy_done l k c h =
      let e : k ≡ room = omega (arith, c.within) in
      c.held ∙ ap (λ (i : ℕ). paste lent 0 source i) e
