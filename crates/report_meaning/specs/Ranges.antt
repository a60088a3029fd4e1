-- Orders among ranges of positive length, whose ends are therefore numbers. Here x ≤ y is told as "y is not below x".
use Rattle.std.specs.Prelude.{Bool, true, false, cond, ◌&&◌, ◌≡◌, refl, Float}
use Rattle.std.proofs.Common.{true≢false, sym, ◌∙◌}
use Rattle.std.specs.Float.Ieee.{lt, le, is_nan, ne}
use Rattle.figures.specs.Figure.{min_of, max_of}
use Rattle.order.specs.Total.{lt_number, lt_not, not_lt, lt_both, lt_one_way, not_lt_trans, le_not_above, not_above_le}
use Rattle.order.specs.Greater.{le_number, max_first, max_second, min_first, min_second}
use Rattle.profile.specs.Range.{holds_of, lengthy, common_of, share_of}
use Rattle.profile.specs.declared.Range.{Range}
use Rattle.scan.specs.Laws.{and_true}

-- ---- both of two tests

pub and_of : {a b : Bool} → a ≡ true → b ≡ true → (a && b) ≡ true
and_of e f = rw e f

-- ---- the ends of a range of positive length are numbers

module _ (r : Range) (long : lengthy r ≡ true) where
  pub low_number : is_nan r.low_hz ≡ false
  low_number = (lt_number r.low_hz r.high_hz long).0

  pub high_number : is_nan r.high_hz ≡ false
  high_number = (lt_number r.low_hz r.high_hz long).1

-- nothing lies below itself
pub not_self : (x : Float) → is_nan x ≡ false → lt x x ≡ false
not_self x n = go (lt x x) refl
  where
    go : (b : Bool) → lt x x ≡ b → lt x x ≡ false
    go true e = absurd (lt_both x x e e)
    go false e = e

pub lt_le : (x y : Float) → lt x y ≡ true → lt y x ≡ false
lt_le x y h = let n = lt_number x y h in lt_one_way x y n.0 n.1 h

-- ---- a range that holds another

pub held_low : (p r : Range) → holds_of p r ≡ true → lt r.low_hz p.low_hz ≡ false
held_low p r h =
    let e = (and_true (le p.low_hz r.low_hz) (le r.high_hz p.high_hz) h).0 in
    let n = le_number p.low_hz r.low_hz e in
    le_not_above p.low_hz r.low_hz n.0 n.1 e

pub held_high : (p r : Range) → holds_of p r ≡ true → lt p.high_hz r.high_hz ≡ false
held_high p r h =
    let e = (and_true (le p.low_hz r.low_hz) (le r.high_hz p.high_hz) h).1 in
    let n = le_number r.high_hz p.high_hz e in
    le_not_above r.high_hz p.high_hz n.0 n.1 e

pub held :
    (p r : Range) → lengthy p ≡ true → lengthy r ≡ true → lt r.low_hz p.low_hz ≡ false → lt p.high_hz r.high_hz ≡ false
    → holds_of p r ≡ true
held p r P R h k =
    and_of (not_above_le p.low_hz r.low_hz (low_number p P) (low_number r R) h)
    (not_above_le r.high_hz p.high_hz (high_number r R) (high_number p P) k)

pub holds_self : (p : Range) → lengthy p ≡ true → holds_of p p ≡ true
holds_self p P = held p p P P (not_self p.low_hz (low_number p P)) (not_self p.high_hz (high_number p P))

pub holds_trans : (a b c : Range) → lengthy a ≡ true → lengthy b ≡ true → lengthy c ≡ true → holds_of a b ≡ true → holds_of b c ≡ true → holds_of a c ≡ true
holds_trans a b c A B C h k =
    held a c A C
    (not_lt_trans c.low_hz b.low_hz a.low_hz (low_number c C) (low_number b B) (low_number a A) (held_low b c k) (held_low a b h))
    (not_lt_trans a.high_hz b.high_hz c.high_hz (high_number a A) (high_number b B) (high_number c C) (held_high a b h) (held_high b c k))

-- ---- what two ranges of positive length share

-- the greater and the lesser of two are one of them
pub max_is : (a b : Float) (P : Float → Type 0) → P a → P b → P (max_of a b)
max_is a b P f g = go (ne a a) (lt a b)
  where
    go : (s t : Bool) → P (cond s b (cond t b a))
    go true t = g
    go false true = g
    go false false = f

pub min_is : (a b : Float) (P : Float → Type 0) → P a → P b → P (min_of a b)
min_is a b P f g = go (ne a a) (lt b a)
  where
    go : (s t : Bool) → P (cond s b (cond t b a))
    go true t = g
    go false true = g
    go false false = f

module _ (a b : Range) (A : lengthy a ≡ true) (B : lengthy b ≡ true) where
  low : Float
  low = (common_of a b).low_hz

  high : Float
  high = (common_of a b).high_hz

  -- each begins below the other's end exactly if they share a stretch
  pub shares_first : share_of a b ≡ true → lt a.low_hz b.high_hz ≡ true
  shares_first h =
      let m = max_first a.low_hz b.low_hz (low_number a A) in
      let n = min_second a.high_hz b.high_hz (high_number b B) in
      lt_not a.low_hz (common_of a b).high_hz b.high_hz (high_number b B)
      (not_lt a.low_hz (common_of a b).low_hz (common_of a b).high_hz (low_number a A) m.1 h) n.1

  pub shares_second : share_of a b ≡ true → lt b.low_hz a.high_hz ≡ true
  shares_second h =
      let m = max_second a.low_hz b.low_hz (low_number b B) in
      let n = min_first a.high_hz b.high_hz (high_number a A) in
      lt_not b.low_hz (common_of a b).high_hz a.high_hz (high_number a A)
      (not_lt b.low_hz (common_of a b).low_hz (common_of a b).high_hz (low_number b B) m.1 h) n.1

  pub shares_of : lt a.low_hz b.high_hz ≡ true → lt b.low_hz a.high_hz ≡ true → share_of a b ≡ true
  shares_of h k =
      max_is a.low_hz b.low_hz (λ (x : Float). lt x (common_of a b).high_hz ≡ true)
      (min_is a.high_hz b.high_hz (λ (y : Float). lt a.low_hz y ≡ true) A h)
      (min_is a.high_hz b.high_hz (λ (y : Float). lt b.low_hz y ≡ true) k B)

  -- one that ends where the other begins, or before, shares nothing
  pub apart_below : lt b.low_hz a.high_hz ≡ false → share_of a b ≡ false
  apart_below h = go (share_of a b) refl
    where
      go : (c : Bool) → share_of a b ≡ c → share_of a b ≡ false
      go true e = absurd (true≢false (sym (shares_second e) ∙ h))
      go false e = e

  pub apart_above : lt a.low_hz b.high_hz ≡ false → share_of a b ≡ false
  apart_above h = go (share_of a b) refl
    where
      go : (c : Bool) → share_of a b ≡ c → share_of a b ≡ false
      go true e = absurd (true≢false (sym (shares_first e) ∙ h))
      go false e = e

-- which of the two comes first does not count
pub share_turned : (a b : Range) → lengthy a ≡ true → lengthy b ≡ true → share_of a b ≡ true → share_of b a ≡ true
share_turned a b A B h = shares_of b a B A (shares_second a b A B h) (shares_first a b A B h)

-- a part of a range shares nothing that the range does not share
pub share_part :
    (s p q : Range) → lengthy s ≡ true → lengthy p ≡ true → lengthy q ≡ true → holds_of p q ≡ true → share_of s p ≡ false → share_of s q ≡ false
share_part s p q S P Q h k = go (share_of s q) refl
  where
    go : (c : Bool) → share_of s q ≡ c → share_of s q ≡ false
    go true e =
        absurd
        (true≢false
        (sym (shares_of s p S P
        (lt_not s.low_hz q.high_hz p.high_hz (high_number p P) (shares_first s q S Q e) (held_high p q h))
        (not_lt p.low_hz q.low_hz s.high_hz (low_number p P) (held_low p q h) (shares_second s q S Q e)))
        ∙ k))
    go false e = e
