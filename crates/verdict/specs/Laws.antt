-- Laws of the verdict: all prerequisites met, one missing, and what the refusals leave.
use Rattle.std.specs.Prelude.{ℕ, Bool, true, false, not, cond, List, [], ◌∷◌, ◌++◌, ◌≡◌, refl, eqb, Float, Option, Some, None, Result, Ok, Err}
use Rattle.codes.specs.declared.Refusal.TheVariants as refusal
use Rattle.codes.specs.Refusal.{Checked, Test, test, refusal_of}
use Rattle.std.proofs.Math.Path.{sym, ap}
use Rattle.std.proofs.Common.{◌∙◌}
use Rattle.scan.specs.Laws.{cond_yes, cond_not}
use Rattle.codes.specs.Read.{policy_of, kind_of, direction_of}
use Rattle.codes.specs.Laws.{refusal_both, refusal_next}
use Rattle.codes.specs.declared.Policy.TheVariants.{Unset, NoProfile as NoneApply, Rules, Broken}
use Rattle.station.specs.Station.{situation_of}
use Rattle.station.specs.declared.StationRecord.{StationRecord}
use Rattle.layout.specs.Form.{Whole}
use Rattle.entry.specs.Entry.{entry_tests, entry_of, edges_valid, edges_read}
use Rattle.entry.specs.Laws.{entry_whole}
use Rattle.codes.specs.declared.ControlMode.{ControlMode}
use Rattle.codes.specs.declared.LicenseClass.{LicenseClass}
use Rattle.codes.specs.declared.Sideband.{Sideband}
use Rattle.codes.specs.declared.EmissionKind.{EmissionKind}
use Rattle.codes.specs.declared.Direction.{Direction}
use Rattle.profile.specs.declared.Range.{Range}
use Rattle.occupancy.specs.declared.Edges.{Edges}
use Rattle.station.specs.declared.Situation.{Situation}
use Rattle.layout.specs.declared.General.{General}
use Rattle.table.specs.Table.{Table, table_of}
use Rattle.decision.specs.Decision.{simple_of}
use Rattle.decision.specs.declared.Verdict.TheVariants.{Blocked}
use Rattle.part97.specs.Part97.{judge}
use Rattle.part97.specs.declared.Case.{Case}
use Rattle.decision.specs.Number.{no_rule, §97-301, §97-109}
use Rattle.decision.specs.Reason.{Region, NoControl, NoLicense, NoSideband, NoDial}
use Rattle.verdict.specs.declared.Missing.{Missing}
use Rattle.verdict.specs.Verdict.{missing, required, signal_of, case_of, ready_of, judged_of}
use Rattle.verdict.specs.Verdict.{under_rules_of, decide_of, beside_valid, edge_tests, unless_refused, evaluate_of}

module _ (g : General) (s : Situation) (dial : Option Float) (kind : EmissionKind) (direction : Direction) (audio : Range) where
  -- what is asked after each prerequisite
  abbrev at_dial : ControlMode → LicenseClass → Sideband → Option Float → Result Case Missing
  at_dial control class sideband d = required d (missing NoDial no_rule) (λ hz. Ok (case_of s control class sideband hz kind direction audio))

  abbrev at_sideband : ControlMode → LicenseClass → Option Sideband → Result Case Missing
  at_sideband control class set = required set (missing NoSideband no_rule) (λ sideband. at_dial control class sideband dial)

  abbrev at_license : ControlMode → Option LicenseClass → Result Case Missing
  at_license control set = required set (missing NoLicense §97-301) (λ class. at_sideband control class s.sideband)

  abbrev at_control : Option ControlMode → Result Case Missing
  at_control set = required set (missing NoControl §97-109) (λ control. at_license control s.license)

  pub ready_region : eqb s.itu_region g.region ≡ false → Err (missing Region §97-301) ≡ ready_of g s dial kind direction audio
  unfolding ready_of
  ready_region e = sym (cond_not (at_control s.control) _ e)

  module _ (here : eqb s.itu_region g.region ≡ true) where
    pub ready_control : s.control ≡ None → Err (missing NoControl §97-109) ≡ ready_of g s dial kind direction audio
    unfolding ready_of
    ready_control c = sym (cond_yes (at_control s.control) _ here ∙ ap at_control c)

    module _ (control : ControlMode) (c : s.control ≡ Some control) where
      pub ready_license : s.license ≡ None → Err (missing NoLicense §97-301) ≡ ready_of g s dial kind direction audio
      unfolding ready_of
      ready_license l = sym (cond_yes (at_control s.control) _ here ∙ ap at_control c ∙ ap (at_license control) l)

      module _ (class : LicenseClass) (l : s.license ≡ Some class) where
        pub ready_sideband : s.sideband ≡ None → Err (missing NoSideband no_rule) ≡ ready_of g s dial kind direction audio
        unfolding ready_of
        ready_sideband b = sym (cond_yes (at_control s.control) _ here ∙ ap at_control c ∙ ap (at_license control) l ∙ ap (at_sideband control class) b)

        pub ready_dial : (sideband : Sideband) → s.sideband ≡ Some sideband → dial ≡ None → Err (missing NoDial no_rule) ≡ ready_of g s dial kind direction audio
        unfolding ready_of
        ready_dial sideband b d =
            sym
            (cond_yes (at_control s.control) _ here ∙ ap at_control c ∙ ap (at_license control) l ∙ ap (at_sideband control class) b
            ∙ ap (at_dial control class sideband) d)

  pub ready_met :
      eqb s.itu_region g.region ≡ true → (control : ControlMode) → s.control ≡ Some control → (class : LicenseClass) → s.license ≡ Some class
      → (sideband : Sideband) → s.sideband ≡ Some sideband → (hz : Float) → dial ≡ Some hz
      → Ok (case_of s control class sideband hz kind direction audio) ≡ ready_of g s dial kind direction audio
  unfolding ready_of
  ready_met here control c class l sideband b hz d =
      sym
      (cond_yes (at_control s.control) _ here ∙ ap at_control c ∙ ap (at_license control) l ∙ ap (at_sideband control class) b
      ∙ ap (at_dial control class sideband) d)

-- Under Rules, by what the prerequisites leave.
module _ (table : Table) (s : Situation) (dial : Option Float) (kind : EmissionKind) (direction : Direction) (audio : Range) where
  pub under_met :
      (c : Case) → ready_of table.general s dial kind direction audio ≡ Ok c → judge table c ≡ under_rules_of table s dial kind direction audio
  unfolding under_rules_of
  under_met c e = ap (judged_of table (signal_of dial s.sideband audio)) (sym e)

  pub under_missing :
      (m : Missing) → ready_of table.general s dial kind direction audio ≡ Err m
      → simple_of (signal_of dial s.sideband audio) Blocked m.code m.rule ≡ under_rules_of table s dial kind direction audio
  unfolding under_rules_of
  under_missing m e = ap (judged_of table (signal_of dial s.sideband audio)) (sym e)

-- Accepted under Rules, a call's image is whole.
pub rules_code : (n : ℕ) → policy_of n ≡ Rules → eqb n 2 ≡ true
rules_code n e = go (eqb n 0) (eqb n 1) (eqb n 2) e
  where
    go : (a b c : Bool) → cond a Unset (cond b NoneApply (cond c Rules Broken)) ≡ Rules → c ≡ true
    go true b c q = cc
    go false true c q = cc
    go false false true q = refl
    go false false false q = cc

pub rules_whole :
    (r : StationRecord) (beside : Bool) (l : List ℕ) (more : List Test) → refusal_of (entry_tests r beside l ++ more) ≡ Ok tt
    → (situation_of r).policy ≡ Rules → Whole l
unfolding entry_of situation_of
rules_whole r beside l more e p = entry_whole r beside l (refusal_both (entry_tests r beside l) more e).0 (rules_code r.policy p)

-- An input that no test refuses goes on to the decision.
pub evaluate_accepted :
    (r : StationRecord) (kind direction : ℕ) (e : Edges) (l : List ℕ) → entry_of r (beside_valid kind direction) l ≡ Ok tt → edges_valid e ≡ true
    → evaluate_of r kind direction e l
    ≡ decide_of (table_of l) (situation_of r) (situation_of r).policy (situation_of r).dial (kind_of kind) (direction_of direction) (edges_read e)
unfolding evaluate_of entry_of
evaluate_accepted r kind direction e l h v =
    ap
    (λ (x : Checked).
    unless_refused x
    (decide_of (table_of l) (situation_of r) (situation_of r).policy (situation_of r).dial (kind_of kind) (direction_of direction) (edges_read e)))
    (refusal_next (entry_tests r (beside_valid kind direction) l) (edge_tests e) h
    ∙ ap (λ (b : Bool). refusal_of (test refusal.SignalEdge (not b) ∷ [])) v)
