-- Tests joined by `&&`, and tests that are equal.
use Rattle.std.specs.Prelude.{Bool, true, false, ◌&&◌, ◌≡◌, refl}
use Rattle.std.proofs.Common.{sym}
use Rattle.scan.specs.Laws.{and_true}

pub all_three : (a b c : Bool) → (a && (b && c)) ≡ true → (a ≡ true) × (b ≡ true) × (c ≡ true)
all_three a b c e =
    let both = and_true a (b && c) e in
    let last = and_true b c both.1 in
    (both.0, last.0, last.1)

pub and_both : (a b : Bool) → a ≡ true → b ≡ true → (a && b) ≡ true
and_both a b p q = rw p (rw q)

-- Tests that imply each other are equal.
pub same : (a b : Bool) → (a ≡ true → b ≡ true) → (b ≡ true → a ≡ true) → a ≡ b
same true true f g = refl
same true false f g = sym (f refl)
same false true f g = g refl
same false false f g = refl
