-- The search over rows, by what it leaves: the nearest dial of some row outside the channel band, which no such row's nearest dial goes
-- before; and nowhere exactly if there is no such row.
use Rattle.std.specs.Prelude.{ℕ, Bool, false, cond, ◌||◌, ◌≡◌, Float, Option, Some, None}
use Rattle.std.proofs.Math.Bool.{true}
use Rattle.std.proofs.Common.{true≢false, sym, ◌∙◌, arith}
use mathlib.Core.List.{List, [], ◌∷◌}
use Rattle.std.proofs.Math.Path.{refl}
use Rattle.lists.specs.Laws.{Every, every_map}
use Rattle.rows.specs.Order.{any_row, or_left, or_right}
use Rattle.rows.specs.declared.SafeDial.{SafeDial}
use Rattle.distance.specs.Distance.{is_outside}
use Rattle.nearest_rows.specs.Over.{point_of, before, better_of, considered_of, nearest_over}
use Rattle.nearest_rows.specs.Laws.{over_channels}
use Rattle.nearest_meaning.specs.Order.{Spot, before_not, before_yes, not_before}

-- what holds of the dial found, if one was
abbrev pub IfAt : (Float → Type 0) → Option Float → Type 0
IfAt P (Some x) = P x
IfAt P None = Unit

-- a dial that the one found leaves behind: it does not go before it
abbrev pub Behind : Float → Float → Option Float → Type 0
Behind dial y (Some x) = before dial y x ≡ false
Behind dial y None = ⊥

-- What some row passes and every row has: a row that does both.
pub any_every :
    (test : SafeDial → Bool) (P : SafeDial → Type 0) (C : Type 0) → ((x : SafeDial) → test x ≡ true → P x → C)
    → (xs : List SafeDial) → any_row test xs ≡ true → Every P xs → C
any_every test P C f [] e h = absurd (true≢false (sym e))
any_every test P C f (x ∷ xs) e h = go (test x) refl e (λ k. any_every test P C f xs k h.1)
  where
    go : (b : Bool) → test x ≡ b → (b || any_row test xs) ≡ true → (any_row test xs ≡ true → C) → C
    go true p e next = f x p h.0
    go false p e next = next e

-- a row of a list: what it passes some row of the list passes
abbrev pub Member : List SafeDial → SafeDial → Type 0
Member xs x = (ask : SafeDial → Bool) → ask x ≡ true → any_row ask xs ≡ true

-- each row of a list is one
pub members : (xs : List SafeDial) → Every (Member xs) xs
members [] = tt
members (x ∷ xs) = (
  λ ask e. or_left (ask x) (any_row ask xs) e,
  every_map (Member xs) (Member (x ∷ xs)) (λ y h ask e. or_right (ask x) (any_row ask xs) (h ask e)) xs (members xs),
)

-- what every row has, and what else every row has
pub both_every : (P Q : SafeDial → Type 0) (xs : List SafeDial) → Every P xs → Every Q xs → Every (λ x. P x × Q x) xs
both_every P Q [] p q = tt
both_every P Q (x ∷ xs) p q = ((p.0, q.0), both_every P Q xs p.1 q.1)

module _ (dial : Float) (flags channel : ℕ) where
  -- a row outside the channel band
  abbrev pub outside : SafeDial → Bool
  outside x = is_outside flags channel x.band

  -- its dial that is nearest
  abbrev pub point : SafeDial → Float
  point x = point_of dial x.dial_low_hz x.dial_high_hz

  -- what holds of a row outside the channel band
  abbrev pub Outside : (SafeDial → Type 0) → SafeDial → Type 0
  Outside P x = outside x ≡ true → P x

  abbrev over : Option Float → List SafeDial → Option Float
  over = nearest_over dial flags channel

  by_considered :
      (P : Option Float → Type 0) (best : Option Float) (x : SafeDial) → (outside x ≡ true → P (better_of dial best (point x))) → (outside x ≡ false → P best)
      → P (considered_of dial flags channel best x)
  by_considered P best x f g = go (outside x) refl
    where
      go : (b : Bool) → outside x ≡ b → P (cond b (better_of dial best (point x)) best)
      go true e = f e
      go false e = g e

  by_better :
      (P : Option Float → Type 0) (y x : Float) → (before dial x y ≡ true → P (Some x)) → (before dial x y ≡ false → P (Some y)) → P (better_of dial (Some y) x)
  by_better P y x f g = go (before dial x y) refl
    where
      go : (b : Bool) → before dial x y ≡ b → P (cond b (Some x) (Some y))
      go true e = f e
      go false e = g e

  -- ---- the dial found is the nearest of a row outside: it has what all of these have

  better_has : (P : Float → Type 0) (best : Option Float) (x : Float) → IfAt P best → P x → IfAt P (better_of dial best x)
  better_has P (Some y) x h k = by_better (IfAt P) y x (λ _. k) (λ _. h)
  better_has P None x h k = k

  pub over_has :
      (P : Float → Type 0) (xs : List SafeDial) → Every (Outside (λ x. P (point x))) xs → (best : Option Float) → IfAt P best → IfAt P (over best xs)
  unfolding nearest_over
  over_has P [] h best k = k
  over_has P (x ∷ xs) h best k =
      over_has P xs h.1 (considered_of dial flags channel best x)
      (by_considered (IfAt P) best x (λ o. better_has P best (point x) k (h.0 o)) (λ _. k))

  -- x is the nearest dial of a row of the list, outside the channel band
  pub record FromRow (xs : List SafeDial) (x : Float) : Type 0 where
    pub row : SafeDial
    pub listed : Member xs row
    pub is_outside_holds : outside row ≡ true
    pub is_point : x ≡ point row

  -- The dial found is.
  pub over_from : (xs : List SafeDial) → IfAt (FromRow xs) (over None xs)
  over_from xs =
      over_has (FromRow xs) xs
      (every_map (Member xs) (Outside (λ x. FromRow xs (point x))) (λ x m o. record { row = x; listed = m; is_outside_holds = o; is_point = refl }) xs
      (members xs))
      None tt

  -- ---- nowhere exactly if no row is outside

  pub nowhere_where : (xs : List SafeDial) → Every (λ x. outside x ≡ false) xs → over None xs ≡ None
  nowhere_where xs h = over_channels dial flags channel xs h None

  abbrev Found : Option Float → Type 0
  Found (Some x) = Unit
  Found None = ⊥

  better_found : (best : Option Float) (x : Float) → Found (better_of dial best x)
  better_found (Some y) x = by_better Found y x (λ _. tt) (λ _. tt)
  better_found None x = tt

  stays_found : (xs : List SafeDial) (best : Option Float) → Found best → Found (over best xs)
  unfolding nearest_over
  stays_found [] best h = h
  stays_found (x ∷ xs) best h =
      stays_found xs (considered_of dial flags channel best x) (by_considered Found best x (λ _. better_found best (point x)) (λ _. h))

  not_found : (best : Option Float) → best ≡ None → Found best → ⊥
  not_found (Some x) e h = let z : ◌≡◌ {A = ℕ} 0 1 = cc in omega arith
  not_found None e h = h

  pub nowhere_only : (xs : List SafeDial) (best : Option Float) → over best xs ≡ None → Every (λ x. outside x ≡ false) xs
  unfolding nearest_over
  nowhere_only [] best e = tt
  nowhere_only (x ∷ xs) best e =
      (go (outside x) refl, nowhere_only xs (considered_of dial flags channel best x) e)
    where
      found : outside x ≡ true → Found (considered_of dial flags channel best x)
      found o = by_considered Found best x (λ _. better_found best (point x)) (λ n. absurd (true≢false (sym o ∙ n)))

      go : (b : Bool) → outside x ≡ b → b ≡ false
      go true o = absurd (not_found (over (considered_of dial flags channel best x) xs) e (stays_found xs (considered_of dial flags channel best x) (found o)))
      go false o = refl

  -- ---- no row's nearest dial goes before the one found

  module _ (D : Spot dial) where
    better_behind : (y : Float) (best : Option Float) (x : Float) → Spot y → IfAt Spot best → Spot x → Behind dial y best → Behind dial y (better_of dial best x)
    better_behind y (Some z) x Y Z X h =
        by_better (Behind dial y) z x
        (λ e. let a = before_not D Y Z h in let b = before_yes D X Z e in not_before D Y X (omega arith))
        (λ _. h)
    better_behind y None x Y Z X h = absurd h

    joins_behind : (best : Option Float) (x : Float) → IfAt Spot best → Spot x → Behind dial x (better_of dial best x)
    joins_behind (Some z) x Z X = by_better (Behind dial x) z x (λ _. not_before D X X (omega arith)) (λ e. e)
    joins_behind None x Z X = not_before D X X (omega arith)

    next_spot : (best : Option Float) (x : SafeDial) → IfAt Spot best → Outside (λ x. Spot (point x)) x → IfAt Spot (considered_of dial flags channel best x)
    next_spot best x B h = by_considered (IfAt Spot) best x (λ o. better_has Spot best (point x) B (h o)) (λ _. B)

    stays_behind :
        (y : Float) → Spot y → (xs : List SafeDial) → Every (Outside (λ x. Spot (point x))) xs → (best : Option Float) → IfAt Spot best → Behind dial y best
        → Behind dial y (over best xs)
    unfolding nearest_over
    stays_behind y Y [] h best B k = k
    stays_behind y Y (x ∷ xs) h best B k =
        stays_behind y Y xs h.1 (considered_of dial flags channel best x) (next_spot best x B h.0)
        (by_considered (Behind dial y) best x (λ o. better_behind y best (point x) Y B (h.0 o) k) (λ _. k))

    pub over_behind :
        (xs : List SafeDial) → Every (Outside (λ x. Spot (point x))) xs → (best : Option Float) → IfAt Spot best
        → Every (Outside (λ x. Behind dial (point x) (over best xs))) xs
    unfolding nearest_over
    over_behind [] h best B = tt
    over_behind (x ∷ xs) h best B = (
      λ o.
          stays_behind (point x) (h.0 o) xs h.1 (considered_of dial flags channel best x) (next_spot best x B h.0)
          (by_considered (Behind dial (point x)) best x (λ _. joins_behind best (point x) B (h.0 o)) (λ n. absurd (true≢false (sym o ∙ n)))),
      over_behind xs h.1 (considered_of dial flags channel best x) (next_spot best x B h.0),
    )
