-- Groups of three digits (document 02, 7).
use Rattle.std.specs.Prelude.{ℕ, ◌+◌, ◌*◌, ◌/◌, ◌%◌}
use Rattle.digit_groups.specs.declared.Group.{Group}

-- "Entry n holds the three digits of n, leading noughts kept": four bits each, the first the highest
abbrev pub entry_of : ℕ → ℕ
entry_of n = n / 100 * 256 + n / 10 % 10 * 16 + n % 10

-- the last three digits of n, in ASCII, where 48 is the digit 0
abbrev pub group_of : ℕ → Group
group_of n = record { first = 48 + n / 100 % 10; second = 48 + n / 10 % 10; third = 48 + n % 10 }
