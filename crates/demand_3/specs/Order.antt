-- Orders among figures in eighths, as orders among whole numbers, and what they say of ranges.
use Rattle.std.specs.Prelude.{ℕ, ◌+◌, ◌≤◌, ◌<◌, Bool, true, false, not, cond, ◌≡◌, refl, Float}
use Rattle.std.proofs.Common.{sym, ap, ◌∙◌, arith, leb-true, le-leb, ltb-true, ltb-false, lt-ltb, eq-eqb}
use Rattle.std.specs.Float.Ieee.{lt, le, ne}
use Rattle.figures.specs.Figure.{min_of, max_of}
use Rattle.profile.specs.Range.{holds_of, lengthy, common_of}
use Rattle.profile.specs.declared.Range.{Range}
use Rattle.scan.specs.Laws.{and_true}
use Rattle.eighths.specs.Grid.{Figure, Eighths}
use Rattle.eighths.specs.Laws.{lt_eighths, le_eighths, eq_eighths}
use Rattle.demand_3.specs.Tests.{and_both}

-- ---- a figure on the grid: above less below, in eighths

pub record Grid (x : Float) : Type 0 where
  pub above : ℕ
  pub below : ℕ
  pub eighths : Eighths x above below

abbrev pub grid : {x : Float} {p q : ℕ} → Eighths x p q → Grid x
grid {x} {p} {q} E = record { above = p; below = q; eighths = E }

abbrev pub figure_grid : {x : Float} → Figure x → Grid x
figure_grid F = grid F.eighths

module _ {x y : Float} (X : Grid x) (Y : Grid y) where
  pub le_true : le x y ≡ true → X.above + Y.below ≤ Y.above + X.below
  le_true h = leb-true _ _ (sym (le_eighths X.eighths Y.eighths) ∙ h)

  pub le_of : X.above + Y.below ≤ Y.above + X.below → le x y ≡ true
  le_of h = le_eighths X.eighths Y.eighths ∙ le-leb _ _ h

  pub lt_true : lt x y ≡ true → X.above + Y.below < Y.above + X.below
  lt_true h = ltb-true _ _ (sym (lt_eighths X.eighths Y.eighths) ∙ h)

  pub lt_of : X.above + Y.below < Y.above + X.below → lt x y ≡ true
  lt_of h = lt_eighths X.eighths Y.eighths ∙ lt-ltb _ _ h

  pub lt_false : lt x y ≡ false → Y.above + X.below ≤ X.above + Y.below
  lt_false h = ltb-false _ _ (sym (lt_eighths X.eighths Y.eighths) ∙ h)

-- at most, or above
pub le_by_lt : {x y : Float} → Grid x → Grid y → le x y ≡ not (lt y x)
le_by_lt {x} {y} X Y = go (lt y x) refl
  where
    go : (b : Bool) → lt y x ≡ b → le x y ≡ not b
    go false e = le_of X Y (lt_false Y X e)
    go true e = no (le x y) refl
      where
        no : (c : Bool) → le x y ≡ c → c ≡ false
        no false f = refl
        no true f = absurd (omega (arith, lt_true Y X e, le_true X Y f))

pub le_trans : {x y z : Float} → Grid x → Grid y → Grid z → le x y ≡ true → le y z ≡ true → le x z ≡ true
le_trans X Y Z h k = le_of X Z (omega (arith, le_true X Y h, le_true Y Z k))

number : {x : Float} → Grid x → ne x x ≡ false
unfolding ne
number X = ap not (eq_eighths X.eighths X.eighths ∙ eq-eqb (X.above + X.below) (X.above + X.below) refl)

-- the greater and the lesser of two are one of them
module _ {x y : Float} (X : Grid x) (Y : Grid y) (P : Float → Type 0) where
  pub by_max : (lt x y ≡ true → P y) → (lt x y ≡ false → P x) → P (max_of x y)
  by_max f g = rw (number X) (go (lt x y) refl)
    where
      go : (b : Bool) → lt x y ≡ b → P (cond b y x)
      go true e = f e
      go false e = g e

  pub by_min : (lt y x ≡ true → P y) → (lt y x ≡ false → P x) → P (min_of x y)
  by_min f g = rw (number X) (go (lt y x) refl)
    where
      go : (b : Bool) → lt y x ≡ b → P (cond b y x)
      go true e = f e
      go false e = g e

-- what is at least the greater is at least both, and what is at most the lesser at most both
module _ {x y z : Float} (X : Grid x) (Y : Grid y) (Z : Grid z) where
  max_le : le (max_of x y) z ≡ true → (le x z ≡ true) × (le y z ≡ true)
  max_le =
      by_max X Y (λ w. le w z ≡ true → (le x z ≡ true) × (le y z ≡ true))
      (λ e l. (le_of X Z (omega (arith, lt_true X Y e, le_true Y Z l)), l))
      (λ e l. (l, le_of Y Z (omega (arith, lt_false X Y e, le_true X Z l))))

  le_min : le z (min_of x y) ≡ true → (le z x ≡ true) × (le z y ≡ true)
  le_min =
      by_min X Y (λ w. le z w ≡ true → (le z x ≡ true) × (le z y ≡ true))
      (λ e l. (le_of Z X (omega (arith, lt_true Y X e, le_true Z Y l)), l))
      (λ e l. (l, le_of Z Y (omega (arith, lt_false Y X e, le_true Z X l))))

-- ---- ranges on the grid

pub record Ends (r : Range) : Type 0 where
  pub low : Grid r.low_hz
  pub high : Grid r.high_hz

-- ranges whose ends are figures in eighths, at most 2^40 in size
pub record Figures (r : Range) : Type 0 where
  pub low : Figure r.low_hz
  pub high : Figure r.high_hz

pub ends : {r : Range} → Figures r → Ends r
ends F = record { low = figure_grid F.low; high = figure_grid F.high }

-- both ends of a range that lies in another
pub held_low : (r a : Range) → holds_of r a ≡ true → le r.low_hz a.low_hz ≡ true
held_low r a h = (and_true (le r.low_hz a.low_hz) (le a.high_hz r.high_hz) h).0

pub held_high : (r a : Range) → holds_of r a ≡ true → le a.high_hz r.high_hz ≡ true
held_high r a h = (and_true (le r.low_hz a.low_hz) (le a.high_hz r.high_hz) h).1

pub held : (r a : Range) → le r.low_hz a.low_hz ≡ true → le a.high_hz r.high_hz ≡ true → holds_of r a ≡ true
held r a h k = and_both (le r.low_hz a.low_hz) (le a.high_hz r.high_hz) h k

-- What lies in a range that lies in another lies in that one.
pub holds_trans : (a b c : Range) → Ends a → Ends b → Ends c → holds_of a b ≡ true → holds_of b c ≡ true → holds_of a c ≡ true
holds_trans a b c A B C h k =
    held a c
    (le_trans A.low B.low C.low (held_low a b h) (held_low b c k))
    (le_trans C.high B.high A.high (held_high b c k) (held_high a b h))

module _ (a b c : Range) (A : Ends a) (B : Ends b) (C : Ends c) where
  -- A range lies in what two ranges share exactly if it lies in both.
  pub common_holds : holds_of a c ≡ true → holds_of b c ≡ true → holds_of (common_of a b) c ≡ true
  common_holds h k =
      held (common_of a b) c
      (by_max A.low B.low (λ x. le x c.low_hz ≡ true) (λ _. held_low b c k) (λ _. held_low a c h))
      (by_min A.high B.high (λ x. le c.high_hz x ≡ true) (λ _. held_high b c k) (λ _. held_high a c h))

  pub holds_common : holds_of (common_of a b) c ≡ true → (holds_of a c ≡ true) × (holds_of b c ≡ true)
  holds_common h =
      let low = max_le A.low B.low C.low (held_low (common_of a b) c h) in
      let high = le_min A.high B.high C.high (held_high (common_of a b) c h) in
      (held a c low.0 high.0, held b c low.1 high.1)

  -- Two ranges that hold a range of positive length share a stretch of positive length.
  pub share : lengthy c ≡ true → holds_of a c ≡ true → holds_of b c ≡ true → lengthy (common_of a b) ≡ true
  share long h k = stretch (common_holds h k)
    where
      low : Grid (common_of a b).low_hz
      low = by_max A.low B.low Grid (λ _. B.low) (λ _. A.low)

      high : Grid (common_of a b).high_hz
      high = by_min A.high B.high Grid (λ _. B.high) (λ _. A.high)

      stretch : holds_of (common_of a b) c ≡ true → lengthy (common_of a b) ≡ true
      stretch h =
          lt_of low high
          (omega (
            arith,
            le_true low C.low (held_low (common_of a b) c h),
            lt_true C.low C.high long,
            le_true C.high high (held_high (common_of a b) c h),
          ))

-- What two ranges of figures share has figures for its ends.
pub common_figures : (a b : Range) → Figures a → Figures b → Figures (common_of a b)
common_figures a b A B =
    record {
      low = by_max (figure_grid A.low) (figure_grid B.low) Figure (λ _. B.low) (λ _. A.low);
      high = by_min (figure_grid A.high) (figure_grid B.high) Figure (λ _. B.high) (λ _. A.high);
    }
