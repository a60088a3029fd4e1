-- A range that ends where another begins, or before, shares nothing with it.
use Rattle.std.specs.Prelude.{Bool, true, false, cond, ◌≡◌, Float, Some, None}
use Rattle.std.proofs.Common.{ap}
use Rattle.std.specs.Float.Ieee.{lt, le}
use Rattle.order.specs.Total.{le_not_above, not_lt_trans}
use Rattle.order.specs.Greater.{Beyond, after, le_number, max_first, max_second, min_first, min_second}
use Rattle.profile.specs.Range.{lengthy, common_of, intersect_of}
use Rattle.profile.specs.declared.Range.{Range}

-- z ≤ y, with a number from y on and one up to z: the first is not below the second
no_stretch_holds : (m y z n : Float) → Beyond lt m y → le z y ≡ true → Beyond after n z → lt m n ≡ false
no_stretch_holds m y z n p e q =
    let c = le_number z y e in
    not_lt_trans m z n p.0 c.0 q.0
    (not_lt_trans m y z p.0 c.1 c.0 p.1 (le_not_above z y c.0 c.1 e))
    q.1

module _ (a b : Range) where
  pub below_shares : le a.high_hz b.low_hz ≡ true → lengthy (common_of a b) ≡ false
  below_shares e =
      let c = le_number a.high_hz b.low_hz e in
      no_stretch_holds (common_of a b).low_hz b.low_hz a.high_hz (common_of a b).high_hz
      (max_second a.low_hz b.low_hz c.1)
      e
      (min_first a.high_hz b.high_hz c.0)

  pub above_shares : le b.high_hz a.low_hz ≡ true → lengthy (common_of a b) ≡ false
  above_shares e =
      let c = le_number b.high_hz a.low_hz e in
      no_stretch_holds (common_of a b).low_hz a.low_hz b.high_hz (common_of a b).high_hz
      (max_first a.low_hz b.low_hz c.1)
      e
      (min_second a.high_hz b.high_hz c.0)

  pub below_nothing : le a.high_hz b.low_hz ≡ true → intersect_of a b ≡ None
  below_nothing e = ap (λ (x : Bool). cond x (Some (common_of a b)) None) (below_shares e)

  pub above_nothing : le b.high_hz a.low_hz ≡ true → intersect_of a b ≡ None
  above_nothing e = ap (λ (x : Bool). cond x (Some (common_of a b)) None) (above_shares e)
