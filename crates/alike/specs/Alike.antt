-- Bytes that are alike are read alike.
use Rattle.std.specs.Prelude.{ℕ, ◌+◌, ◌*◌, ◌≤◌, ◌<◌, List, ◌≡◌, drop}
use Rattle.std.proofs.Common.{sym, get_or-drop}
use Rattle.std.proofs.Math.Path.{ap₂}
use native.Mathlib.Omega.{arith}
use Rattle.layout.specs.Bytes.{byte_at, u16_at, u32_at, u64_at}
use Rattle.layout.specs.Layout.{record_at, watts_at, general_of, fixed_channel_watts, fixed_segment_watts}

-- the w bytes of l from a on are those of m from b on
abbrev pub Alike : List ℕ → ℕ → List ℕ → ℕ → ℕ → Type 0
Alike l a m b w = (k : ℕ) → k < w → byte_at l (a + k) ≡ byte_at m (b + k)

-- from a place on, a list's bytes are those of what is left of it
pub alike_drop : (l : List ℕ) (a w : ℕ) → Alike l a (drop a l) 0 w
alike_drop l a w k h = let z : 0 + k ≡ k = omega arith in rw z (sym (get_or-drop a l k 0))

module _ (l m : List ℕ) where
  pub alike_part : (a b w j v : ℕ) → Alike l a m b w → j + v ≤ w → Alike l (a + j) m (b + j) v
  alike_part a b w j v s h k i =
      let x : a + j + k ≡ a + (j + k) = omega arith in
      let y : b + j + k ≡ b + (j + k) = omega arith in
      rw x (rw y (s (j + k) (omega arith)))

  pub byte_alike : (a b : ℕ) → Alike l a m b 1 → byte_at l a ≡ byte_at m b
  byte_alike a b s =
      let x : a + 0 ≡ a = omega arith in
      let y : b + 0 ≡ b = omega arith in
      rw x at (rw y at (s 0 (omega arith)))

  pub u16_alike : (a b : ℕ) → Alike l a m b 2 → u16_at l a ≡ u16_at m b
  unfolding u16_at
  u16_alike a b s =
      ap₂ (λ (x y : ℕ). x + y * 256) (byte_alike a b (λ k h. s k (omega arith))) (s 1 (omega arith))

  pub u32_alike : (a b : ℕ) → Alike l a m b 4 → u32_at l a ≡ u32_at m b
  unfolding u32_at
  u32_alike a b s =
      ap₂ (λ (x y : ℕ). x + y * 65536) (u16_alike a b (λ k h. s k (omega arith)))
      (u16_alike (a + 2) (b + 2) (alike_part a b 4 2 2 s (omega arith)))

  pub u64_alike : (a b : ℕ) → Alike l a m b 8 → u64_at l a ≡ u64_at m b
  unfolding u64_at
  u64_alike a b s =
      ap₂ (λ (x y : ℕ). x + y * 4294967296) (u32_alike a b (λ k h. s k (omega arith)))
      (u32_alike (a + 4) (b + 4) (alike_part a b 8 4 4 s (omega arith)))

  -- a record
  pub record_alike : (a b : ℕ) → Alike l a m b 32 → record_at l a ≡ record_at m b
  unfolding record_at
  record_alike a b s =
      rw (u64_alike a b (λ k h. s k (omega arith)))
      (rw (u64_alike (a + 8) (b + 8) (alike_part a b 32 8 8 s (omega arith)))
      (rw (u64_alike (a + 16) (b + 16) (alike_part a b 32 16 8 s (omega arith)))
      (rw (byte_alike (a + 24) (b + 24) (alike_part a b 32 24 1 s (omega arith)))
      (rw (byte_alike (a + 25) (b + 25) (alike_part a b 32 25 1 s (omega arith)))
      (rw (byte_alike (a + 26) (b + 26) (alike_part a b 32 26 1 s (omega arith)))
      (rw (byte_alike (a + 27) (b + 27) (alike_part a b 32 27 1 s (omega arith)))
      (rw (u16_alike (a + 28) (b + 28) (alike_part a b 32 28 2 s (omega arith)))
      (rw (u16_alike (a + 30) (b + 30) (alike_part a b 32 30 2 s (omega arith)))))))))))

  -- a general block, with its watts
  pub general_alike :
      Alike l 0 m 0 64 → watts_at l 64 fixed_channel_watts ≡ watts_at m 64 fixed_channel_watts
      → watts_at l 72 fixed_segment_watts ≡ watts_at m 72 fixed_segment_watts → general_of l ≡ general_of m
  unfolding general_of
  general_alike s c g =
      rw (u64 0 (omega arith))
      (rw (u64 8 (omega arith))
      (rw (u64 16 (omega arith))
      (rw (u64 24 (omega arith))
      (rw (u64 32 (omega arith))
      (rw (byte 40 (omega arith))
      (rw (byte 41 (omega arith))
      (rw (byte 42 (omega arith))
      (rw (byte 43 (omega arith))
      (rw (byte 44 (omega arith))
      (rw (byte 45 (omega arith))
      (rw (u16 46 (omega arith))
      (rw (u16 48 (omega arith))
      (rw (u16 50 (omega arith))
      (rw (u16 52 (omega arith))
      (rw (u16 54 (omega arith))
      (rw (u16 56 (omega arith))
      (rw (u16 58 (omega arith))
      (rw (u32 60 (omega arith))
      (rw c (rw g))))))))))))))))))))
    where
      at : (j v : ℕ) → j + v ≤ 64 → Alike l j m j v
      at j v h k i = let z : 0 + (j + k) ≡ j + k = omega arith in rw z at (s (j + k) (omega arith))

      byte : (j : ℕ) → j + 1 ≤ 64 → byte_at l j ≡ byte_at m j
      byte j h = byte_alike j j (at j 1 h)

      u16 : (j : ℕ) → j + 2 ≤ 64 → u16_at l j ≡ u16_at m j
      u16 j h = u16_alike j j (at j 2 h)

      u32 : (j : ℕ) → j + 4 ≤ 64 → u32_at l j ≡ u32_at m j
      u32 j h = u32_alike j j (at j 4 h)

      u64 : (j : ℕ) → j + 8 ≤ 64 → u64_at l j ≡ u64_at m j
      u64 j h = u64_alike j j (at j 8 h)
