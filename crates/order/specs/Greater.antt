-- The greater and the lesser of two figures, one of which is a number.
use Rattle.std.specs.Prelude.{Bool, true, false, cond, ◌≡◌, refl, T, Float}
use Rattle.std.proofs.Common.{true≢false, sym, ap, subst, ◌∙◌}
use Rattle.std.proofs.lemmas.Bool.{false≢true}
use Rattle.std.specs.Float.{nan, inf, fin}
use Rattle.std.specs.Float.Ieee.{lt, le, eq, ne, is_nan}
use Rattle.std.specs.Float.Ieee.Compare.{differs_from_itself}
use Rattle.figures.specs.Figure.{min_of, max_of}
use Rattle.order.specs.Total.{lt_number, lt_one_way}

-- ---- what compares is a number

pub le_number : (x y : Float) → le x y ≡ true → (is_nan x ≡ false) × (is_nan y ≡ false)
unfolding le lt eq is_nan
le_number nan y e = absurd (false≢true e)
le_number (inf s) nan e = absurd (false≢true e)
le_number (inf s) (inf t) e = (refl, refl)
le_number (inf s) (fin t n d) e = (refl, refl)
le_number (fin s m d) nan e = absurd (false≢true e)
le_number (fin s m d) (inf t) e = (refl, refl)
le_number (fin s m d) (fin t n f) e = (refl, refl)

pub ne_number : (x : Float) → ne x x ≡ false → is_nan x ≡ false
unfolding ne eq is_nan
ne_number nan e = absurd (true≢false e)
ne_number (inf s) e = refl
ne_number (fin s m d) e = refl

number_ne : (x : Float) → is_nan x ≡ false → ne x x ≡ true → ⊥
unfolding is_nan
number_ne x n e = true≢false (sym (ap is_nan (differs_from_itself x (subst T (sym e) tt))) ∙ n)

-- ---- the greater and the lesser of two

-- a number that does not come before x
abbrev pub Beyond : (Float → Float → Bool) → Float → Float → Type 0
Beyond before m x = (is_nan m ≡ false) × (before m x ≡ false)

-- by the order that picks them
module _ (before : Float → Float → Bool)
    (one_way : (x y : Float) → is_nan x ≡ false → is_nan y ≡ false → before x y ≡ true → before y x ≡ false)
    (number : (x y : Float) → before x y ≡ true → is_nan y ≡ false) where
  itself : (x : Float) → is_nan x ≡ false → Beyond before x x
  itself x n = (n, go (before x x) refl)
    where
      go : (b : Bool) → before x x ≡ b → before x x ≡ false
      go true e = one_way x x n n e
      go false e = e

  past_second : (x y : Float) → is_nan y ≡ false → Beyond before (cond (ne x x) y (cond (before x y) y x)) y
  past_second x y n = go (ne x x) refl (before x y) refl
    where
      go : (b : Bool) → ne x x ≡ b → (c : Bool) → before x y ≡ c → Beyond before (cond b y (cond c y x)) y
      go true p c q = itself y n
      go false p true q = itself y n
      go false p false q = (ne_number x p, q)

  past_first : (x y : Float) → is_nan x ≡ false → Beyond before (cond (ne x x) y (cond (before x y) y x)) x
  past_first x y n = go (ne x x) refl (before x y) refl
    where
      go : (b : Bool) → ne x x ≡ b → (c : Bool) → before x y ≡ c → Beyond before (cond b y (cond c y x)) x
      go true p c q = absurd (number_ne x n p)
      go false p true q = (number x y q, one_way x y n (number x y q) q)
      go false p false q = itself x n

abbrev pub after : Float → Float → Bool
after x y = lt y x

pub max_first : (x y : Float) → is_nan x ≡ false → Beyond lt (max_of x y) x
max_first = past_first lt lt_one_way (λ x y e. (lt_number x y e).1)

pub max_second : (x y : Float) → is_nan y ≡ false → Beyond lt (max_of x y) y
max_second = past_second lt lt_one_way (λ x y e. (lt_number x y e).1)

pub min_first : (x y : Float) → is_nan x ≡ false → Beyond after (min_of x y) x
min_first = past_first after (λ x y n m e. lt_one_way y x m n e) (λ x y e. (lt_number y x e).0)

pub min_second : (x y : Float) → is_nan y ≡ false → Beyond after (min_of x y) y
min_second = past_second after (λ x y n m e. lt_one_way y x m n e) (λ x y e. (lt_number y x e).0)
