-- What is missing has a code, and so has what blocks.
use Rattle.std.specs.Prelude.{◌≡◌, ℕ, Bool, true, false, cond, eqb, Float, Option, Some, None, is_some, IsSome, IfSome, Result, Ok, Err}
use Rattle.std.proofs.Common.{sym, ◌∙◌}
use Rattle.std.proofs.Math.Path.{refl, ap}
use Rattle.codes.specs.declared.EmissionKind.{EmissionKind}
use Rattle.codes.specs.declared.Direction.{Direction}
use Rattle.profile.specs.declared.Range.{Range}
use Rattle.station.specs.declared.Situation.{Situation}
use Rattle.layout.specs.declared.General.{General}
use Rattle.decision.specs.Number.{no_rule, §97-301, §97-109}
use Rattle.decision.specs.Reason.{NoControl, NoLicense, NoSideband, NoDial}
use Rattle.decision.specs.declared.Code.{Code}
use Rattle.part97.specs.Finding.{on_band}
use Rattle.part97.specs.declared.Finding.{Finding}
use Rattle.part97.specs.declared.Case.{Case}
use Rattle.verdict.specs.declared.Missing.{Missing}
use Rattle.verdict.specs.Verdict.{missing, required, ready_of}
use Rattle.barred.specs.Barring.{bar_by}

-- what the prerequisites leave: where one is missing, it has a code
abbrev coded_in : Result Case Missing → Bool
coded_in (Ok c) = true
coded_in (Err m) = is_some m.code

on_required :
    {A : Type 0} (x : Option A) (m : Missing) (g : A → Result Case Missing) → IsSome m.code → ((k : A) → coded_in (g k) ≡ true)
    → coded_in (required x m g) ≡ true
on_required (Some k) m g q p = p k
on_required None m g q p = q

on_region : (t : Bool) (a b : Result Case Missing) → coded_in a ≡ true → coded_in b ≡ true → coded_in (cond t a b) ≡ true
on_region true a b p q = p
on_region false a b p q = q

module _ (g : General) (s : Situation) (dial : Option Float) (kind : EmissionKind) (direction : Direction) (audio : Range) where
  ready_coded : coded_in (ready_of g s dial kind direction audio) ≡ true
  unfolding ready_of
  ready_coded =
      on_region (eqb s.itu_region g.region) _ _
      (on_required s.control (missing NoControl §97-109) _ refl
      (λ control.
      on_required s.license (missing NoLicense §97-301) _ refl
      (λ class.
      on_required s.sideband (missing NoSideband no_rule) _ refl (λ sideband. on_required dial (missing NoDial no_rule) _ refl (λ hz. refl)))))
      refl

  pub missing_coded : (m : Missing) → ready_of g s dial kind direction audio ≡ Err m → IsSome m.code
  missing_coded m e = sym (ap coded_in e) ∙ ready_coded

-- and what blocks where nothing is judged
pub bar_coded : (code : Option Code) (rule : ℕ) → IsSome code → IfSome (bar_by code rule) (λ (f : Finding). IsSome f.code)
unfolding on_band
bar_coded code rule h = h
