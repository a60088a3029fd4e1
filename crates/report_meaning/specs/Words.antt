-- The words of document 02, 5, without the way that rows are found.
use Rattle.std.specs.Prelude.{ℕ, ◌<◌, Bool, true, false, ◌&&◌, List, [], ◌∷◌, ◌⊎◌, ◌≡◌, Float, Some}
use Rattle.std.specs.Float.Ieee.{lt, le}
use Rattle.profile.specs.Range.{holds_of, lengthy, share_of}
use Rattle.profile.specs.declared.Range.{Range}
use Rattle.lists.specs.Laws.{Every}
use Rattle.layout.specs.Layout.{segments, privileges}
use Rattle.table.specs.Parts.{span_of}
use Rattle.table.specs.Table.{Table}
use Rattle.sweep.specs.Sweep.{is_member}
use Rattle.report.specs.Report.{pair_members}

-- x is a member of a list
abbrev pub In : {A : Type 0} → A → List A → Type 0
In x [] = ⊥
In x (y ∷ ys) = (x ≡ y) ⊎ In x ys

-- ---- overlaps

-- records i and j of table t make a pair: i "the smaller", and of privileges both of one class
pub record Pair (table : Table) (t i j : ℕ) : Type 0 where
  pub ordered : i < j
  pub there : j < table.count t
  pub together : is_member (pair_members t (table.at t i)) (table.at t j) ≡ true

-- they "share a positive stretch"
abbrev pub share : Table → ℕ → ℕ → ℕ → Bool
share table t i j = share_of (span_of (table.at t j)) (span_of (table.at t i))

-- ---- gaps

-- a range shares no stretch of positive length with a privilege of the class: none touches it but at its ends
abbrev pub Clear : Table → ℕ → Range → Type 0
Clear table class r =
    (j : ℕ) → j < table.count privileges → is_member (Some class) (table.at privileges j) ≡ true → share_of (span_of (table.at privileges j)) r ≡ false

-- a stretch of segment i, "of positive length", that no privilege of the class covers
pub record Bare (table : Table) (class i : ℕ) (r : Range) : Type 0 where
  pub positive : lengthy r ≡ true
  pub inside : holds_of (span_of (table.at segments i)) r ≡ true
  pub clear : Clear table class r

-- "A gap is as long as it can be": a bare stretch that holds it is no longer
pub record Gap (table : Table) (class i : ℕ) (g : Range) : Type 0 where
  pub bare : Bare table class i g
  pub longest : (r : Range) → Bare table class i r → holds_of r g ≡ true → holds_of g r ≡ true

-- a frequency lies in a range
abbrev pub lies : Float → Range → Bool
lies y r = le r.low_hz y && le y r.high_hz

-- two ranges that do not touch, the first below the second
abbrev pub below : Range → Range → Type 0
below g h = lt g.high_hz h.low_hz ≡ true

-- of a list, each lies below the later ones and touches none
abbrev pub Apart : List Range → Type 0
Apart [] = Unit
Apart (g ∷ gs) = Every (below g) gs × Apart gs

-- a frequency lies in one of the gaps
pub record InGap (y : Float) (gs : List Range) : Type 0 where
  pub gap : Range
  pub listed : In gap gs
  pub inside : lies y gap ≡ true

-- a range lies in one of the gaps
pub record HeldBy (r : Range) (gs : List Range) : Type 0 where
  pub gap : Range
  pub listed : In gap gs
  pub holds : holds_of gap r ≡ true
