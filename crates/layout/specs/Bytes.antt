-- Little-endian numbers in a list of bytes. Past the end every byte reads as 0.
use Rattle.std.specs.Prelude.{ℕ, ◌+◌, ◌*◌, List, get_or}

abbrev pub byte_at : List ℕ → ℕ → ℕ
byte_at l i = get_or l i 0

unfoldable pub u16_at : List ℕ → ℕ → ℕ
u16_at l i = byte_at l i + byte_at l (i + 1) * 256

unfoldable pub u32_at : List ℕ → ℕ → ℕ
unfolding u16_at
u32_at l i = u16_at l i + u16_at l (i + 2) * 65536

unfoldable pub u64_at : List ℕ → ℕ → ℕ
unfolding u32_at
u64_at l i = u32_at l i + u32_at l (i + 4) * 4294967296
