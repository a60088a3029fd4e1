-- The digits of an entry.
use Rattle.std.specs.Prelude.{ℕ, ◌+◌, ◌*◌, ◌/◌, ◌%◌, ◌<◌, ◌≡◌}
use Rattle.std.proofs.Common.{◌∙◌, arith}
use Rattle.std.proofs.Math.Arith.{mod-mul}
use Rattle.digit_groups.specs.Group.{entry_of, group_of}
use Rattle.digit_groups.specs.declared.Group.{Group}

last_of : (n m c : ℕ) → 0 < m → 0 < c → n % (m * c) ≡ n / c % m * c + n % c
last_of n m c h k = mod-mul n h k

-- a number's last three digits
three : (n : ℕ) → n % 1000 ≡ n / 100 % 10 * 100 + n / 10 % 10 * 10 + n % 10
three n = omega (arith, last_of n 10 100 (omega arith) (omega arith), last_of n 10 10 (omega arith) (omega arith))

-- three digits a, b and c, in tens and in sixteens
module _ (m a b c : ℕ) (p : b < 10) (q : c < 10) where
  entry_digits : m ≡ a * 100 + b * 10 + c → entry_of m ≡ a * 256 + b * 16 + c
  entry_digits e =
      let h : m / 100 ≡ a = omega arith in
      let t : m / 10 % 10 ≡ b = omega arith in
      let o : m % 10 ≡ c = omega arith in
      rw (h, t, o)

  first : m ≡ a * 256 + b * 16 + c → m / 256 ≡ a
  first e = omega arith

  second : m ≡ a * 256 + b * 16 + c → m / 16 % 16 ≡ b
  second e = omega arith

  third : m ≡ a * 256 + b * 16 + c → m % 16 ≡ c
  third e = omega arith

digit : (n : ℕ) → n % 10 < 10
digit n = omega arith

-- the digits of an entry
abbrev digits_of : ℕ → Group
digits_of e = record { first = 48 + e / 256; second = 48 + e / 16 % 16; third = 48 + e % 16 }

pub entry_group : (n e : ℕ) → e ≡ entry_of (n % 1000) → digits_of e ≡ group_of n
entry_group n e p = go (n / 100 % 10) (n / 10 % 10) (n % 10) (digit (n / 10)) (digit n) (three n)
  where
    go : (a b c : ℕ) → b < 10 → c < 10 → n % 1000 ≡ a * 100 + b * 10 + c → digits_of e ≡ record { first = 48 + a; second = 48 + b; third = 48 + c }
    go a b c h k q =
        let d : e ≡ a * 256 + b * 16 + c = p ∙ entry_digits (n % 1000) a b c h k q in
        rw (first e a b c h k d) (rw (second e a b c h k d) (rw (third e a b c h k d)))
