-- Numbers that are read alike stand in like bytes, and numbers are read back from their bytes.
use Rattle.std.specs.Prelude.{ℕ, zero, suc, ◌+◌, ◌-◌, ◌/◌, ◌≤◌, ◌<◌, List, [], ◌∷◌, ◌++◌, ◌≡◌}
use Rattle.std.proofs.Common.{arith}
use Rattle.std.proofs.Math.Decide.{dec_le}
use Rattle.layout.specs.Bytes.{byte_at, u16_at, u32_at, u64_at}
use Rattle.lists.specs.Laws.{Every}
use Rattle.byte_writes.specs.Bytes.{little}
use Rattle.writer.specs.Image.{littles}
use Rattle.alike.specs.Alike.{Alike}

-- every element is a byte
abbrev pub Bytes : List ℕ → Type 0
Bytes l = (i : ℕ) → byte_at l i < 256

module _ (l m : List ℕ) (L : Bytes l) (M : Bytes m) where
  u16_below : (n : List ℕ) → Bytes n → (a : ℕ) → u16_at n a < 65536
  unfolding u16_at
  u16_below n N a = omega (arith, N a, N (a + 1))

  u32_below : (n : List ℕ) → Bytes n → (a : ℕ) → u32_at n a < 4294967296
  unfolding u32_at
  u32_below n N a = omega (arith, u16_below n N a, u16_below n N (a + 2))

  -- two parts alike, one behind the other
  pub alike_both : (a b v w : ℕ) → Alike l a m b v → Alike l (a + v) m (b + v) w → Alike l a m b (v + w)
  alike_both a b v w s t k h = go (dec_le v k)
    where
      go : Dec (v ≤ k) → byte_at l (a + k) ≡ byte_at m (b + k)
      go (yes i) =
          let j : ℕ = k - v in
          let x : a + v + j ≡ a + k = omega arith in
          let y : b + v + j ≡ b + k = omega arith in
          rw x at (rw y at (t j (omega arith)))
      go (no i) = s k (omega arith)

  pub byte_like : (a b : ℕ) → byte_at l a ≡ byte_at m b → Alike l a m b 1
  byte_like a b e k h =
      let x : a + k ≡ a = omega arith in
      let y : b + k ≡ b = omega arith in
      rw x (rw y e)

  pub u16_like : (a b : ℕ) → u16_at l a ≡ u16_at m b → Alike l a m b 2
  unfolding u16_at
  u16_like a b e =
      let p : byte_at l a ≡ byte_at m b = omega (arith, L a, L (a + 1), M b, M (b + 1)) in
      let q : byte_at l (a + 1) ≡ byte_at m (b + 1) = omega (arith, L a, L (a + 1), M b, M (b + 1)) in
      alike_both a b 1 1 (byte_like a b p) (byte_like (a + 1) (b + 1) q)

  pub u32_like : (a b : ℕ) → u32_at l a ≡ u32_at m b → Alike l a m b 4
  unfolding u32_at
  u32_like a b e =
      let p : u16_at l a ≡ u16_at m b = omega (arith, u16_below l L a, u16_below m M b, u16_below l L (a + 2), u16_below m M (b + 2)) in
      let q : u16_at l (a + 2) ≡ u16_at m (b + 2) = omega (arith, u16_below l L a, u16_below m M b, u16_below l L (a + 2), u16_below m M (b + 2)) in
      alike_both a b 2 2 (u16_like a b p) (u16_like (a + 2) (b + 2) q)

  pub u64_like : (a b : ℕ) → u64_at l a ≡ u64_at m b → Alike l a m b 8
  unfolding u64_at
  u64_like a b e =
      let p : u32_at l a ≡ u32_at m b = omega (arith, u32_below l L a, u32_below m M b, u32_below l L (a + 4), u32_below m M (b + 4)) in
      let q : u32_at l (a + 4) ≡ u32_at m (b + 4) = omega (arith, u32_below l L a, u32_below m M b, u32_below l L (a + 4), u32_below m M (b + 4)) in
      alike_both a b 4 4 (u32_like a b p) (u32_like (a + 4) (b + 4) q)

-- ---- bytes that are written

-- every element is a byte, one by one
abbrev Small : ℕ → Type 0
Small b = b < 256

every_append : (l m : List ℕ) → Every Small l → Every Small m → Every Small (l ++ m)
every_append [] m a b = b
every_append (x ∷ l) m a b = (a.0, every_append l m a.1 b)

every_little : (w x : ℕ) → Every Small (little w x)
unfolding little
every_little zero x = tt
every_little (suc w) x = (omega arith, every_little w (x / 256))

every_littles : (xs : List (ℕ × ℕ)) → Every Small (littles xs)
unfolding littles
every_littles [] = tt
every_littles (x ∷ xs) = every_append (little x.0 x.1) (littles xs) (every_little x.0 x.1) (every_littles xs)

every_bytes : (l : List ℕ) → Every Small l → Bytes l
every_bytes [] e i = omega arith
every_bytes (x ∷ l) e zero = e.0
every_bytes (x ∷ l) e (suc i) = every_bytes l e.1 i

pub littles_bytes : (xs : List (ℕ × ℕ)) → Bytes (littles xs)
littles_bytes xs = every_bytes (littles xs) (every_littles xs)

-- ---- numbers, read back from their bytes

pub byte_little : (x : ℕ) (t : List ℕ) → x < 256 → byte_at (little 1 x ++ t) 0 ≡ x
unfolding little
byte_little x t h = omega arith

pub u16_little : (x : ℕ) (t : List ℕ) → x < 65536 → u16_at (little 2 x ++ t) 0 ≡ x
unfolding u16_at little
u16_little x t h = omega arith

pub u32_little : (x : ℕ) (t : List ℕ) → x < 4294967296 → u32_at (little 4 x ++ t) 0 ≡ x
unfolding u32_at u16_at little
u32_little x t h = omega arith
