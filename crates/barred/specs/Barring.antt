-- What blocks a transmission, and the decision that it leads to.
use Rattle.std.specs.Prelude.{ℕ, Bool, true, false, ◌≡◌, List, Option, Some, None, Result, Ok, Err, Float}
use Rattle.std.proofs.Common.{true≢false, sym, subst, ◌∙◌}
use Rattle.std.proofs.Math.Path.{refl, ap}
use Rattle.codes.specs.declared.Policy.{Policy}
use Rattle.codes.specs.declared.Policy.TheVariants.{Unset, NoProfile as NoneApply, Rules, Broken}
use Rattle.codes.specs.declared.EmissionKind.{EmissionKind}
use Rattle.codes.specs.declared.Direction.{Direction}
use Rattle.profile.specs.declared.Range.{Range}
use Rattle.occupancy.specs.Edges.{range_of}
use Rattle.occupancy.specs.declared.Edges.{Edges}
use Rattle.station.specs.declared.Situation.{Situation}
use Rattle.table.specs.Parts.{reading_of}
use Rattle.table.specs.Table.{Table, table_of}
use Rattle.transmission.specs.declared.Transmission.{Transmission}
use Rattle.decision.specs.Number.{no_rule}
use Rattle.decision.specs.Decision.{is_blocked, finish_of, simple_of}
use Rattle.decision.specs.declared.Verdict.TheVariants.{Blocked}
use Rattle.decision.specs.declared.Code.{Code}
use Rattle.decision.specs.Reason.{NoProfile, ProfileBroken}
use Rattle.decision.specs.declared.Draft.{Draft}
use Rattle.decision.specs.declared.Decision.{Decision}
use Rattle.part97.specs.Part97.{judge}
use Rattle.part97.specs.Finding.{on_band, concluded}
use Rattle.part97.specs.declared.Case.{Case}
use Rattle.part97.specs.declared.Finding.{Finding}
use Rattle.verdict.specs.declared.Missing.{Missing}
use Rattle.verdict.specs.Verdict.{signal_of, ready_of, under_rules_of, unruled_of, decide_of}
use Rattle.verdict.specs.Laws.{under_met, under_missing}
use Rattle.barred.specs.Barred.{blocked_over, finding_brief}
use Rattle.barred.specs.declared.Brief.{Brief}

-- where nothing is judged: by a policy, or by a prerequisite that is missing
abbrev pub bar_by : Option Code → ℕ → Option Finding
bar_by code rule = Some (on_band None Blocked code rule)

abbrev pub bars : Option Finding → Bool
bars (Some f) = true
bars None = false

-- the decision that a finding leads to, by what the prerequisites leave
abbrev pub led_of : Table → Draft → Result Case Missing → Finding → Decision
led_of table signal (Ok c) f = concluded table c f
led_of table signal (Err m) f = simple_of signal Blocked m.code m.rule

unfoldable pub led_by_rules : Table → Situation → Option Float → EmissionKind → Direction → Range → Finding → Decision
led_by_rules table s dial kind direction audio f =
    led_of table (signal_of dial s.sideband audio) (ready_of table.general s dial kind direction audio) f

-- by the policy
unfoldable pub led_to : Table → Situation → Policy → Option Float → EmissionKind → Direction → Edges → Finding → Decision
led_to table s Unset dial kind direction e f = unruled_of s dial e f.verdict f.code
led_to table s NoneApply dial kind direction e f = unruled_of s dial e f.verdict f.code
led_to table s Rules dial kind direction e f = led_by_rules table s dial kind direction (range_of e (reading_of table.general)) f
led_to table s Broken dial kind direction e f = unruled_of s dial e f.verdict f.code

-- of a transmission
abbrev pub led_on : Transmission → Finding → Decision
led_on x f =
    led_to (table_of x.station.now.lent.now) x.station.now.situation x.station.now.situation.policy x.dial x.kind x.direction x.edges f

-- Something blocks exactly where the decision does, and it leads to that decision.
pub record Barred (led : Finding → Decision) (d : Decision) (x : Option Finding) : Type 0 where
  pub blocks : bars x ≡ is_blocked d.verdict
  pub leads : (f : Finding) → x ≡ Some f → led f ≡ d

-- ---- laws

by_same : {f g : Finding} → Some f ≡ Some g → f ≡ g
by_same {f} {g} e = ap (of f) e
  where
    of : Finding → Option Finding → Finding
    of other (Some x) = x
    of other None = other

free_not : {f : Finding} {A : Type 0} → None ≡ Some f → A
free_not e = absurd (true≢false (sym (ap bars e)))

pub barred_by : (led : Finding → Decision) (d : Decision) (f : Finding) → led f ≡ d → is_blocked d.verdict ≡ true → Barred led d (Some f)
barred_by led d f e b = record { blocks = sym b; leads = λ g q. ap led (sym (by_same q)) ∙ e }

pub barred_free : (led : Finding → Decision) (d : Decision) → is_blocked d.verdict ≡ false → Barred led d None
barred_free led d b = record { blocks = sym b; leads = λ f q. free_not q }

module _ (table : Table) (s : Situation) (dial : Option Float) (kind : EmissionKind) (direction : Direction) (audio : Range) where
  abbrev led : Finding → Decision
  led = led_by_rules table s dial kind direction audio

  abbrev decided : Decision
  decided = under_rules_of table s dial kind direction audio

  pub led_met : (c : Case) (f : Finding) → ready_of table.general s dial kind direction audio ≡ Ok c → led f ≡ concluded table c f
  unfolding led_by_rules
  led_met c f e = ap (λ (r : Result Case Missing). led_of table (signal_of dial s.sideband audio) r f) e

  pub led_missing :
      (m : Missing) (f : Finding) → ready_of table.general s dial kind direction audio ≡ Err m
      → led f ≡ simple_of (signal_of dial s.sideband audio) Blocked m.code m.rule
  unfolding led_by_rules
  led_missing m f e = ap (λ (r : Result Case Missing). led_of table (signal_of dial s.sideband audio) r f) e

  -- a case that was judged, by whether the finding blocks
  module _ (c : Case) (f : Finding) (e : ready_of table.general s dial kind direction audio ≡ Ok c) (q : concluded table c f ≡ judge table c) where
    brief_is : (b : Bool) → blocked_over f.verdict f.over ≡ b → is_blocked decided.verdict ≡ b
    brief_is b h =
        sym (ap (λ (x : Brief). x.blocked) (finding_brief table c f decided (q ∙ under_met table s dial kind direction audio c e))) ∙ h

    pub bar_met : blocked_over f.verdict f.over ≡ true → Barred led decided (Some f)
    bar_met h =
        barred_by led decided f (led_met c f e ∙ q ∙ under_met table s dial kind direction audio c e) (brief_is true h)

    pub bar_free : blocked_over f.verdict f.over ≡ false → Barred led decided None
    bar_free h = barred_free led decided (brief_is false h)

  -- a prerequisite that is missing: the decision is of that, whatever the finding says
  pub bar_unmet : (m : Missing) (code : Option Code) (rule : ℕ) → ready_of table.general s dial kind direction audio ≡ Err m → Barred led decided (bar_by code rule)
  unfolding simple_of finish_of
  bar_unmet m code rule e =
      let d = under_missing table s dial kind direction audio m e in
      barred_by led decided (on_band None Blocked code rule) (led_missing m (on_band None Blocked code rule) e ∙ d)
      (sym (ap (λ (x : Decision). is_blocked x.verdict) d))

  pub bar_missing : (m : Missing) → ready_of table.general s dial kind direction audio ≡ Err m → Barred led decided (bar_by m.code m.rule)
  bar_missing m = bar_unmet m m.code m.rule

-- by the policy, whose case is told by an equation
module _ (table : Table) (s : Situation) (dial : Option Float) (kind : EmissionKind) (direction : Direction) (e : Edges) where
  abbrev BarredBy : Policy → Option Finding → Type 0
  BarredBy p x = Barred (led_to table s p dial kind direction e) (decide_of table s p dial kind direction e) x

  module _ (p : Policy) where
    pub bar_unset : p ≡ Unset → BarredBy p (bar_by NoProfile no_rule)
    unfolding led_to decide_of unruled_of simple_of finish_of on_band
    bar_unset q = subst (λ (x : Policy). BarredBy x (bar_by NoProfile no_rule)) (sym q) (barred_by _ _ _ refl refl)

    pub bar_none : p ≡ NoneApply → BarredBy p None
    unfolding decide_of unruled_of simple_of finish_of
    bar_none q = subst (λ (x : Policy). BarredBy x None) (sym q) (barred_free _ _ refl)

    pub bar_broken : p ≡ Broken → BarredBy p (bar_by ProfileBroken no_rule)
    unfolding led_to decide_of unruled_of simple_of finish_of on_band
    bar_broken q = subst (λ (x : Policy). BarredBy x (bar_by ProfileBroken no_rule)) (sym q) (barred_by _ _ _ refl refl)

-- under Rules by a table, and so by its own image
pub bar_rules :
    (image l : List ℕ) (s : Situation) (dial : Option Float) (kind : EmissionKind) (direction : Direction) (e : Edges) (p : Policy) (x : Option Finding)
    → image ≡ l → p ≡ Rules
    → Barred (led_by_rules (table_of image) s dial kind direction (range_of e (reading_of (table_of image).general)))
    (under_rules_of (table_of image) s dial kind direction (range_of e (reading_of (table_of image).general))) x
    → BarredBy (table_of l) s dial kind direction e p x
unfolding led_to decide_of
bar_rules image l s dial kind direction e p x h q b =
    subst (λ (k : List ℕ). BarredBy (table_of k) s dial kind direction e p x) h
    (subst (λ (r : Policy). BarredBy (table_of image) s dial kind direction e r x) (sym q) b)
