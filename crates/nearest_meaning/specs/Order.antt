-- Which of two dials is nearer to a third, as an order among whole numbers: figures in eighths stand at places on one scale, their distances
-- are exact, and `before` of the search compares one number for each.
use Rattle.std.specs.Prelude.{ℕ, ◌+◌, ◌-◌, ◌*◌, ◌≤◌, ◌<◌, ◌^◌, Bool, ◌≡◌, Float}
use Rattle.std.proofs.Math.Bool.{true, false, cond}
use Rattle.std.proofs.Math.Path.{refl, sym}
use Rattle.std.proofs.Common.{◌∙◌, arith}
use Rattle.std.proofs.Math.Dec.{ltb}
use borrow.Author.Tests.{leb-true, le-leb, ltb-true, ltb-false, lt-ltb, le-ltb, eqb-true}
use Rattle.std.specs.Float.Ieee.{binary64, sub, lt, le, eq}
use Rattle.figures.specs.Figure.{zero_hz, read_hz}
use Rattle.eighths.specs.Grid.{Figure, Eighths}
use Rattle.eighths.specs.Laws.{zero_eighths, moved_eighths, sub_eighths, lt_eighths, le_eighths, eq_eighths}
use Rattle.nearest_rows.specs.Over.{point_of, far_of, before}

-- a figure's place, in eighths from -2^47
pub record Spot (x : Float) : Type 0 where
  pub place : ℕ
  pub eighths : Eighths x place (2 ^ 50)
  pub below : place < 2 ^ 51

pub spot_of : {x : Float} {p q : ℕ} → Eighths x p q → p ≤ 2 ^ 49 → q ≤ 2 ^ 49 → Spot x
spot_of {x} {p} {q} E h k = record { place = p + 2 ^ 50 - q; eighths = moved_eighths E (omega arith); below = omega arith }

pub figure_spot : {x : Float} → Figure x → Spot x
figure_spot {x} F = spot_of F.eighths (omega arith) (omega arith)

module _ {x y : Float} (X : Spot x) (Y : Spot y) where
  pub le_place : le x y ≡ true → X.place ≤ Y.place
  le_place h = let k = leb-true (X.place + 2 ^ 50) (Y.place + 2 ^ 50) (sym (le_eighths X.eighths Y.eighths) ∙ h) in omega arith

  pub place_le : X.place ≤ Y.place → le x y ≡ true
  place_le h = le_eighths X.eighths Y.eighths ∙ le-leb (X.place + 2 ^ 50) (Y.place + 2 ^ 50) (omega arith)

  pub lt_place : lt x y ≡ true → X.place < Y.place
  lt_place h = let k = ltb-true (X.place + 2 ^ 50) (Y.place + 2 ^ 50) (sym (lt_eighths X.eighths Y.eighths) ∙ h) in omega arith

  pub not_lt_place : lt x y ≡ false → Y.place ≤ X.place
  not_lt_place h = let k = ltb-false (X.place + 2 ^ 50) (Y.place + 2 ^ 50) (sym (lt_eighths X.eighths Y.eighths) ∙ h) in omega arith

-- a dial as it is read stands where it stood
pub record Read (x : Float) (X : Spot x) : Type 0 where
  pub spot : Spot (read_hz x)
  pub same : spot.place ≡ X.place

pub read_spot : (x : Float) (X : Spot x) → Read x X
read_spot x X = go (eq x zero_hz) refl (λ s p. record { spot = s; same = p })
  where
    go : (b : Bool) → eq x zero_hz ≡ b → ((s : Spot (cond b zero_hz x)) → s.place ≡ X.place → Read x X) → Read x X
    go true e f =
        let k = eqb-true (X.place + 0) (0 + 2 ^ 50) (sym (eq_eighths X.eighths zero_eighths) ∙ e) in
        f (record { place = X.place; eighths = moved_eighths zero_eighths (omega arith); below = X.below }) refl
    go false e f = f X refl

-- ---- from one dial

module _ {dial : Float} (D : Spot dial) where
  -- how far, in eighths
  abbrev pub far : {x : Float} → Spot x → ℕ
  far X = (X.place - D.place) + (D.place - X.place)

  pub far_eighths : {x : Float} (X : Spot x) → Eighths (far_of dial x) (far X) 0
  unfolding far_of
  far_eighths {x} X = go (lt x dial) refl
    where
      go : (b : Bool) → lt x dial ≡ b → Eighths (cond b (sub binary64 dial x) (sub binary64 x dial)) (far X) 0
      go true e =
          let a = lt_place X D e in
          let u = X.below in
          let v = D.below in
          moved_eighths (sub_eighths D.eighths X.eighths (omega arith)) (omega arith)
      go false e =
          let a = not_lt_place X D e in
          let u = X.below in
          let v = D.below in
          moved_eighths (sub_eighths X.eighths D.eighths (omega arith)) (omega arith)

  -- the number that the search compares: distances first, and of two equal ones the places
  abbrev pub key : {x : Float} → Spot x → ℕ
  key X = far X * 2 ^ 60 + X.place

  pub before_key : {x y : Float} (X : Spot x) (Y : Spot y) → before dial x y ≡ ltb (key X) (key Y)
  unfolding before
  before_key {x} {y} X Y = go (lt (far_of dial x) (far_of dial y)) (lt (far_of dial y) (far_of dial x)) (lt x y) refl refl refl
    where
      go :
          (a b c : Bool) → lt (far_of dial x) (far_of dial y) ≡ a → lt (far_of dial y) (far_of dial x) ≡ b → lt x y ≡ c
          → cond a true (cond b false c) ≡ ltb (key X) (key Y)
      go true b c p q r =
          let k = ltb-true (far X + 0) (far Y + 0) (sym (lt_eighths (far_eighths X) (far_eighths Y)) ∙ p) in
          let u = X.below in
          sym (lt-ltb (key X) (key Y) (omega arith))
      go false true c p q r =
          let k = ltb-true (far Y + 0) (far X + 0) (sym (lt_eighths (far_eighths Y) (far_eighths X)) ∙ q) in
          let u = Y.below in
          sym (le-ltb (key X) (key Y) (omega arith))
      go false false true p q r =
          let k = ltb-false (far X + 0) (far Y + 0) (sym (lt_eighths (far_eighths X) (far_eighths Y)) ∙ p) in
          let m = ltb-false (far Y + 0) (far X + 0) (sym (lt_eighths (far_eighths Y) (far_eighths X)) ∙ q) in
          let u = lt_place X Y r in
          sym (lt-ltb (key X) (key Y) (omega arith))
      go false false false p q r =
          let k = ltb-false (far X + 0) (far Y + 0) (sym (lt_eighths (far_eighths X) (far_eighths Y)) ∙ p) in
          let m = ltb-false (far Y + 0) (far X + 0) (sym (lt_eighths (far_eighths Y) (far_eighths X)) ∙ q) in
          let u = not_lt_place X Y r in
          sym (le-ltb (key X) (key Y) (omega arith))

  pub before_not : {x y : Float} (X : Spot x) (Y : Spot y) → before dial x y ≡ false → key Y ≤ key X
  before_not X Y h = ltb-false (key X) (key Y) (sym (before_key X Y) ∙ h)

  pub before_yes : {x y : Float} (X : Spot x) (Y : Spot y) → before dial x y ≡ true → key X < key Y
  before_yes X Y h = ltb-true (key X) (key Y) (sym (before_key X Y) ∙ h)

  pub not_before : {x y : Float} (X : Spot x) (Y : Spot y) → key Y ≤ key X → before dial x y ≡ false
  not_before X Y h = before_key X Y ∙ le-ltb (key X) (key Y) h

  -- ---- the dial of a row that is nearest

  module _ {low high : Float} (L : Spot low) (H : Spot high) where
    pub by_point :
        (P : Float → Type 0) → (lt dial low ≡ true → P low) → (lt dial low ≡ false → lt high dial ≡ true → P high)
        → (lt dial low ≡ false → lt high dial ≡ false → P dial) → P (point_of dial low high)
    unfolding point_of
    by_point P f g h = go (lt dial low) (lt high dial) refl refl
      where
        go : (a b : Bool) → lt dial low ≡ a → lt high dial ≡ b → P (cond a low (cond b high dial))
        go true b p q = f p
        go false true p q = g p q
        go false false p q = h p q

    pub point_spot : Spot (point_of dial low high)
    point_spot = by_point Spot (λ _. L) (λ _ _. H) (λ _ _. D)

    -- no dial of the row goes before it
    pub point_first : {x : Float} → Spot x → le low x ≡ true → le x high ≡ true → before dial x (point_of dial low high) ≡ false
    point_first {x} X h k =
        by_point (λ y. before dial x y ≡ false)
        (λ p. let a = lt_place D L p in let b = le_place L X h in not_before X L (omega arith))
        (λ p q. let a = lt_place H D q in let b = le_place X H k in not_before X H (omega arith))
        (λ p q. not_before X D (omega arith))

    -- it lies in the row
    pub point_low : le low high ≡ true → le low (point_of dial low high) ≡ true
    point_low h =
        by_point (λ y. le low y ≡ true) (λ _. place_le L L (omega arith)) (λ _ _. h)
        (λ p q. place_le L D (not_lt_place D L p))

    pub point_high : le low high ≡ true → le (point_of dial low high) high ≡ true
    point_high h =
        by_point (λ y. le y high ≡ true) (λ _. h) (λ _ _. place_le H H (omega arith)) (λ p q. place_le D H (not_lt_place H D q))
