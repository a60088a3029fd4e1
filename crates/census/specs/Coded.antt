-- Every decision that is no refusal has a code, by Part 97's order: so each dial is counted under one of the 25.
use Rattle.std.specs.Prelude.{◌≡◌, ℕ, Bool, true, false, cond, ◌==◌, nat_eq, nat_le, Float, Option, Some, None, Result, Err}
use Rattle.std.proofs.Math.Path.{refl}
use Rattle.std.proofs.Common.{arith, leb-true}
use Rattle.std.proofs.lemmas.Bool.{eqb-false}
use Rattle.codes.specs.declared.EmissionKind.{EmissionKind}
use Rattle.codes.specs.declared.Direction.{Direction}
use Rattle.codes.specs.declared.Policy.{Policy}
use Rattle.codes.specs.declared.Policy.TheVariants.{Unset, NoProfile as NoneApply, Rules, Broken}
use Rattle.profile.specs.declared.Range.{Range}
use Rattle.occupancy.specs.Edges.{range_of}
use Rattle.occupancy.specs.declared.Edges.{Edges}
use Rattle.station.specs.declared.Situation.{Situation}
use Rattle.table.specs.Table.{Table}
use Rattle.table.specs.Parts.{reading_of}
use Rattle.decision.specs.Decision.{finish_of, simple_of}
use Rattle.decision.specs.Number.{code_number}
use Rattle.decision.specs.declared.Code.{Code}
use Rattle.decision.specs.declared.Code.TheVariants.{NoProfile, ProfileBroken, NoRules, Unmeasured, Region, NoControl, NoLicense}
use Rattle.decision.specs.declared.Code.TheVariants.{NoSideband, NoDial, OutOfBand, AutomaticExcluded, TooWide}
use Rattle.decision.specs.declared.Code.TheVariants.{OutsideDataSegment, NoDataHere, Privilege, Permitted, AutomaticSegment}
use Rattle.decision.specs.declared.Code.TheVariants.{AutomaticOutside, AutomaticBandwidth, AutomaticOriginate, AutomaticResponse}
use Rattle.decision.specs.declared.Code.TheVariants.{SixtyEmission, SixtyOffChannel, SixtyChannel, SixtySegment}
use Rattle.decision.specs.declared.Draft.{Draft}
use Rattle.decision.specs.declared.Decision.{Decision}
use Rattle.part97.specs.Part97.{judge}
use Rattle.part97.specs.declared.Case.{Case}
use Rattle.verdict.specs.Verdict.{missing, required, signal_of, case_of, ready_of, judged_of, under_rules_of, unruled_of, decide_of}
use Rattle.verdict.specs.declared.Missing.{Missing}
use Rattle.judged.specs.Judged.{judge_judged}
use Rattle.census.specs.Census.{code_at}
use Rattle.census.specs.Counts.{Numbered}

-- a decision that has a code
record Coded (d : Decision) : Type 0 where
  coded : nat_eq (code_number d.code) 0 ≡ false

judge_coded : (table : Table) (c : Case) → Coded (judge table c)
judge_coded table c = record { coded = (judge_judged table c).coded }

-- what the prerequisites leave, judged
record Prepared (table : Table) (a : Result Case Missing) : Type 0 where
  prepared : (signal : Draft) → Coded (judged_of table signal a)

unmet : {table : Table} {code : Option Code} {rule : ℕ} → (code_number code == 0) ≡ false → Prepared table (Err (missing code rule))
unfolding simple_of finish_of
unmet n = record { prepared = λ signal. record { coded = n } }

on_region : (t : Bool) {table : Table} {a m : Result Case Missing} → Prepared table a → Prepared table m → Prepared table (cond t a m)
on_region true p q = p
on_region false p q = q

on_required :
    {A : Type 0} (x : Option A) {table : Table} {m : Missing} {g : A → Result Case Missing} → Prepared table (Err m) → ((k : A) → Prepared table (g k))
    → Prepared table (required x m g)
on_required (Some k) q p = p k
on_required None q p = q

module _ (table : Table) (s : Situation) (dial : Option Float) (kind : EmissionKind) (direction : Direction) where
  ready_coded : (audio : Range) → Prepared table (ready_of table.general s dial kind direction audio)
  unfolding ready_of
  ready_coded audio =
      on_region (s.itu_region == table.general.region)
      (on_required s.control (unmet refl)
      (λ control.
      on_required s.license (unmet refl)
      (λ class.
      on_required s.sideband (unmet refl)
      (λ sideband.
      on_required dial (unmet refl) (λ hz. record { prepared = λ signal. judge_coded table (case_of s control class sideband hz kind direction audio) })))))
      (unmet refl)

  decide_coded : (policy : Policy) (e : Edges) → Coded (decide_of table s policy dial kind direction e)
  unfolding decide_of unruled_of under_rules_of simple_of finish_of
  decide_coded Unset e = record { coded = refl }
  decide_coded NoneApply e = record { coded = refl }
  decide_coded Rules e =
      let audio = range_of e (reading_of table.general) in
      (ready_coded audio).prepared (signal_of dial s.sideband audio)
  decide_coded Broken e = record { coded = refl }

-- no code has a greater number
few : (code : Option Code) → nat_le (code_number code) 25 ≡ true
few (Some NoProfile) = refl
few (Some ProfileBroken) = refl
few (Some NoRules) = refl
few (Some Unmeasured) = refl
few (Some Region) = refl
few (Some NoControl) = refl
few (Some NoLicense) = refl
few (Some NoSideband) = refl
few (Some NoDial) = refl
few (Some OutOfBand) = refl
few (Some AutomaticExcluded) = refl
few (Some TooWide) = refl
few (Some OutsideDataSegment) = refl
few (Some NoDataHere) = refl
few (Some Privilege) = refl
few (Some Permitted) = refl
few (Some AutomaticSegment) = refl
few (Some AutomaticOutside) = refl
few (Some AutomaticBandwidth) = refl
few (Some AutomaticOriginate) = refl
few (Some AutomaticResponse) = refl
few (Some SixtyEmission) = refl
few (Some SixtyOffChannel) = refl
few (Some SixtyChannel) = refl
few (Some SixtySegment) = refl
few None = refl

-- the code at a dial
pub code_numbered : (table : Table) (s : Situation) (kind : EmissionKind) (direction : Direction) (e : Edges) (hz : Float)
    → Numbered (code_at table s kind direction e hz)
unfolding code_at
code_numbered table s kind direction e hz =
    let code = (decide_of table s s.policy (Some hz) kind direction e).code in
    let z = eqb-false (code_number code) 0 (decide_coded table s (Some hz) kind direction s.policy e).coded in
    record { above = omega (arith, z); within = leb-true (code_number code) 25 (few code) }
