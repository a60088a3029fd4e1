-- What the loops that write bytes know at each turn, and that numbers and figures are read back as they were written.
use Prim.Native.Nat.{ℕ, zero, suc, ◌+◌, ◌-◌, ◌*◌, ◌/◌, ◌%◌, ◌^◌, ◌<◌, ◌≤◌}
use Rattle.std.specs.Prelude.{List, [], ◌∷◌, ◌++◌, ◌≡◌, refl, T, length, drop, set, Float}
use Rattle.std.proofs.Common.{sym, ap, ◌∙◌, add_assoc, get_or-drop, drop_at}
use native.Mathlib.Omega.{arith}
use Rattle.std.proofs.Math.ListN.{length-set}
use Rattle.std.proofs.lemmas.List.Edits.{sets}
use Rattle.std.specs.Float.{binary64}
use Rattle.std.specs.Float.Ieee.{fits, to_bits}
use Rattle.std.specs.Float.Ieee.Bits.{of_bits-to_bits, to_bits-lt}
use Rattle.figures.specs.Figure.{figure_of}
use Rattle.layout.specs.Bytes.{u16_at, u32_at, u64_at}
use Rattle.byte_writes.specs.Bytes.{little, figure_bytes}

-- ---- a number put byte by byte

pub record Putting (l₀ : List ℕ) (at width x : ℕ) (l : List ℕ) (rest k : ℕ) : Type 0 where
  pub within : k ≤ width
  pub same : length l ≡ length l₀
  pub left : sets l (at + k) (little (width - k) rest) ≡ sets l₀ at (little width x)

module _ (l₀ : List ℕ) (at width x : ℕ) where
  pub put_none : Putting l₀ at width x l₀ x 0
  put_none =
      let a : at + 0 ≡ at = omega arith in
      let b : width - 0 ≡ width = omega arith in
      record { within = omega arith; same = refl; left = rw a (rw b) }

  -- of what is left to put alone, at each turn and behind the last
  pub left_step :
      (l : List ℕ) (rest k : ℕ) → sets l (at + k) (little (width - k) rest) ≡ sets l₀ at (little width x) → k < width
      → sets (set l (at + k) (rest % 256)) (at + (k + 1)) (little (width - (k + 1)) (rest / 256)) ≡ sets l₀ at (little width x)
  unfolding little
  left_step l rest k p h =
      let a : at + (k + 1) ≡ suc (at + k) = omega arith in
      let b : width - k ≡ suc (width - (k + 1)) = omega arith in
      rw a (rw b at p)

  pub left_done :
      (l : List ℕ) (rest k : ℕ) → sets l (at + k) (little (width - k) rest) ≡ sets l₀ at (little width x) → width ≤ k → l ≡ sets l₀ at (little width x)
  unfolding little
  left_done l rest k p h =
      let b : width - k ≡ 0 = omega arith in
      rw b at p

  pub put_step :
      (l : List ℕ) (rest k : ℕ) → Putting l₀ at width x l rest k → k < width
      → Putting l₀ at width x (set l (at + k) (rest % 256)) (rest / 256) (k + 1)
  put_step l rest k p h =
      record {
        within = omega arith;
        same = length-set l (at + k) (rest % 256) ∙ p.same;
        left = left_step l rest k p.left h;
      }

  pub put_done : (l : List ℕ) (rest k : ℕ) → Putting l₀ at width x l rest k → width ≤ k → l ≡ sets l₀ at (little width x)
  put_done l rest k p h = left_done l rest k p.left h

-- ---- field after field

pub length_little : (w x : ℕ) → length (little w x) ≡ w
unfolding little
length_little zero x = refl
length_little (suc w) x = ap suc (length_little w (x / 256))

sets_append : {A : Type 0} (a b l : List A) (at : ℕ) → sets (sets l at a) (at + length a) b ≡ sets l at (a ++ b)
sets_append [] b l at = let e : at + 0 ≡ at = omega arith in rw e
sets_append (x ∷ a) b l at =
    let e : at + suc (length a) ≡ suc at + length a = omega arith in
    ap (λ (n : ℕ). sets (sets (set l at x) (suc at) a) n b) e ∙ sets_append a b (set l at x) (suc at)

pub sets_next : (a b l : List ℕ) (at n : ℕ) → at + length a ≡ n → sets (sets l at a) n b ≡ sets l at (a ++ b)
sets_next a b l at n e = ap (λ (m : ℕ). sets (sets l at a) m b) (sym e) ∙ sets_append a b l at

-- ---- numbers at a place, from that place on

pub u16_drop : (l : List ℕ) (m k : ℕ) → u16_at (drop m l) k ≡ u16_at l (m + k)
unfolding u16_at
u16_drop l m k = rw (get_or-drop m l k 0, get_or-drop m l (k + 1) 0, add_assoc m k 1)

u32_drop : (l : List ℕ) (m k : ℕ) → u32_at (drop m l) k ≡ u32_at l (m + k)
unfolding u32_at
u32_drop l m k = rw (u16_drop l m k, u16_drop l m (k + 2), add_assoc m k 2)

pub u64_drop : (l : List ℕ) (m k : ℕ) → u64_at (drop m l) k ≡ u64_at l (m + k)
unfolding u64_at
u64_drop l m k = rw (u32_drop l m k, u32_drop l m (k + 4), add_assoc m k 4)

-- ---- the bytes of a number, read back

-- one place of a number's bytes
digit : (x : ℕ) → x ≡ x % 256 + x / 256 * 256
digit x = omega arith

pub u64_little : (x : ℕ) (t : List ℕ) → x < 2 ^ 64 → u64_at (little 8 x ++ t) 0 ≡ x
unfolding u64_at u32_at u16_at little
u64_little x t h =
    let a = x / 256 in
    let b = a / 256 in
    let c = b / 256 in
    let d = c / 256 in
    let e = d / 256 in
    let f = e / 256 in
    let g = f / 256 in
    omega (arith, digit x, digit a, digit b, digit c, digit d, digit e, digit f, digit g)

pub eight : (x : Float) → length (figure_bytes x) ≡ 8
eight x = length_little 8 (to_bits binary64 x)

-- ---- a figure, read back

figure_back : (x : Float) (t : List ℕ) → T (fits binary64 x) → figure_of (u64_at (figure_bytes x ++ t) 0) ≡ x
figure_back x t h = rw (u64_little (to_bits binary64 x) t (to_bits-lt binary64 x h)) (of_bits-to_bits binary64 x h)

-- a figure that stands after k bytes
pub figure_after : (x : Float) (p t : List ℕ) (k : ℕ) → length p ≡ k → T (fits binary64 x) → figure_of (u64_at (p ++ (figure_bytes x ++ t)) k) ≡ x
figure_after x p t k e h =
    let a : k ≡ k + 0 = omega arith in
    let d : drop k (p ++ (figure_bytes x ++ t)) ≡ figure_bytes x ++ t = drop_at p (figure_bytes x ++ t) k e in
    ap (λ (i : ℕ). figure_of (u64_at (p ++ (figure_bytes x ++ t)) i)) a
    ∙ ap figure_of (sym (u64_drop (p ++ (figure_bytes x ++ t)) k 0))
    ∙ ap (λ (m : List ℕ). figure_of (u64_at m 0)) d
    ∙ figure_back x t h
