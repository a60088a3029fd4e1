-- Whether a finding blocks and its code, and that the decision from it then does and has it.
use Rattle.std.specs.Prelude.{ℕ, Bool, true, false, ◌≡◌, Option, Some, None}
use Rattle.profile.specs.declared.Range.{Range}
use Rattle.std.proofs.Math.Path.{refl, sym, ap}
use Rattle.std.proofs.Common.{◌∙◌}
use Rattle.table.specs.Table.{Table}
use Rattle.decision.specs.Decision.{is_blocked, finish_of, simple_of}
use Rattle.decision.specs.declared.Verdict.{Verdict}
use Rattle.decision.specs.declared.Verdict.TheVariants.{Blocked}
use Rattle.decision.specs.declared.Code.{Code}
use Rattle.decision.specs.declared.Draft.{Draft}
use Rattle.decision.specs.declared.Decision.{Decision}
use Rattle.part97.specs.Part97.{warned, advice_warns, advised}
use Rattle.part97.specs.Finding.{concluded_over, concluded}
use Rattle.part97.specs.declared.Case.{Case}
use Rattle.part97.specs.declared.Finding.{Finding}
use Rattle.barred.specs.declared.Brief.{Brief}

abbrev pub settled_of : Bool → Option Code → Brief
settled_of blocked code = record { blocked = blocked; code = code }

-- a decision in brief
abbrev pub brief_of : Decision → Brief
brief_of d = record { blocked = is_blocked d.verdict; code = d.code }

-- where power limits and the plan are asked, the transmission is lawful
abbrev pub blocked_over : Verdict → Option Range → Bool
blocked_over verdict (Some r) = false
blocked_over verdict None = is_blocked verdict

-- a finding in brief
abbrev pub brief_over : Finding → Brief
brief_over f = settled_of (blocked_over f.verdict f.over) f.code

-- a decision that is known to block
pub simply_blocked : (signal : Draft) (code : Option Code) (rule : ℕ) (d : Decision) → simple_of signal Blocked code rule ≡ d
    → settled_of true code ≡ brief_of d
unfolding simple_of finish_of
simply_blocked signal code rule d e = ap brief_of e

warned_free : (b : Bool) → is_blocked (warned b) ≡ false
warned_free true = refl
warned_free false = refl

module _ (table : Table) (c : Case) (f : Finding) where
  over : (o : Option Range) → brief_of (concluded_over table c f o) ≡ settled_of (blocked_over f.verdict o) f.code
  unfolding concluded_over advised finish_of
  over (Some r) = ap (λ (b : Bool). settled_of b f.code) (warned_free (advice_warns table c r))
  over None = refl

  pub finding_brief : (d : Decision) → concluded table c f ≡ d → brief_over f ≡ brief_of d
  unfolding concluded
  finding_brief d e = sym (over f.over) ∙ ap brief_of e
