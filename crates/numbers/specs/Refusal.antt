-- The number of a check's answer; the numbers of an answer's other cases are in Rattle.decision's Number.
use Rattle.std.specs.Prelude.{ℕ, Ok, Err}
use Rattle.codes.specs.Refusal.{Checked, number_of}

-- 0 where nothing is refused
abbrev pub refusal_number : Checked → ℕ
refusal_number (Ok tt) = 0
refusal_number (Err n) = number_of n
