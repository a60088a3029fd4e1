-- By what the tests say: noughts, or the counts of the whole stretch.
use Rattle.std.proofs.Common.{ℕ, ◌≤◌, ℤ, nat_abs, sym, ap, ◌∙◌, subst, w64}
use mir.ValLaws.{to_z-of_z}
use Rattle.station.specs.declared.Situation.{Situation}
use Rattle.census.specs.Census.{most, farthest}
use Rattle.census.specs.Lifted.{stretch_accepted, unless_err, unless_ok}
use Rattle.census.specs.Front.{counts_same, census_said, census_refused, census_counted, front_stretch, front_whole}
use Rattle.census.proofs.census_of.Goals as goal

pub of-station-requires : goal.of-station-requires
of-station-requires c p =
    let a = c.args in
    let said = census_said a.r a.kind a.direction a.e a.image.now a.first a.last c.ranges.first c.ranges.last _ _ _
    c.front_refusals-front.ensures c.stretch-dials.ensures c.and.ensures in
    front_whole a.r a.kind a.direction a.e a.image.now a.first a.last (unless_ok _ _ _ (sym said ∙ c.in-Ok.is)).0
    (sym (ap (λ (x : Situation). x.policy) c.situation_of.ensures) ∙ p)

pub count_stretch-requires : goal.count_stretch-requires
count_stretch-requires c =
    let a = c.args in
    let said = census_said a.r a.kind a.direction a.e a.image.now a.first a.last c.ranges.first c.ranges.last _ _ _
    c.front_refusals-front.ensures c.stretch-dials.ensures c.and.ensures in
    let both = unless_ok _ _ _ (sym said ∙ c.in-Ok.is) in
    let t = stretch_accepted a.first a.last (front_stretch a.r a.kind a.direction a.e a.image.now a.first a.last both.0) in (
      subst (λ (z : ℤ). nat_abs z ≤ farthest) (sym (to_z-of_z w64 a.first c.ranges.first)) t.low,
      subst (λ (n : ℕ). n ≤ most) (sym both.1) t.few,
    )

pub returns-in-Err : goal.returns-in-Err
returns-in-Err c =
    let a = c.args in
    let said = census_said a.r a.kind a.direction a.e a.image.now a.first a.last c.ranges.first c.ranges.last _ _ _
    c.front_refusals-front.ensures c.stretch-dials.ensures c.and.ensures in
    census_refused a.r a.kind a.direction a.e a.image.now a.first a.last _ (unless_err _ _ _ (sym said ∙ c.in-Err.is))

pub returns-in-Ok : goal.returns-in-Ok
returns-in-Ok c =
    let a = c.args in
    let said = census_said a.r a.kind a.direction a.e a.image.now a.first a.last c.ranges.first c.ranges.last _ _ _
    c.front_refusals-front.ensures c.stretch-dials.ensures c.and.ensures in
    let both = unless_ok _ _ _ (sym said ∙ c.in-Ok.is) in
    c.count_stretch.ensures
    ∙ counts_same c.of-station.ensures.lends (c.of-station.ensures.reads ∙ c.situation_of.ensures) c.into.ensures c.into-in-Ok.ensures c.edges_read.ensures (to_z-of_z w64 a.first c.ranges.first) both.1
    ∙ census_counted a.r a.kind a.direction a.e a.image.now a.first a.last both.0
