-- Where each dial gets the same code: what is missing without a dial is missing at each, unless it is the dial.
use Rattle.std.specs.Prelude.{◌≡◌, ◌≢◌, ℕ, Bool, true, false, cond, ◌==◌, List, Float, Option, Some, None, Result, Ok, Err}
use Rattle.std.proofs.Common.{sym, ap, ◌∙◌}
use Rattle.codes.specs.declared.EmissionKind.{EmissionKind}
use Rattle.codes.specs.declared.Direction.{Direction}
use Rattle.codes.specs.declared.Policy.{Policy}
use Rattle.codes.specs.declared.Policy.TheVariants.{Unset, NoProfile as NoneApply, Rules, Broken}
use Rattle.profile.specs.declared.Range.{Range}
use Rattle.station.specs.declared.Situation.{Situation}
use Rattle.layout.specs.declared.General.{General}
use Rattle.table.specs.Table.{table_of}
use Rattle.transmission.specs.declared.Transmission.{Transmission}
use Rattle.decision.specs.Decision.{finish_of, simple_of}
use Rattle.decision.specs.Number.{no_rule, code_number}
use Rattle.decision.specs.Reason.{NoProfile, NoRules, ProfileBroken, NoDial}
use Rattle.part97.specs.declared.Case.{Case}
use Rattle.verdict.specs.Verdict.{missing, required, signal_of, ready_of, judged_of, under_rules_of, unruled_of, decide_of, audio_on}
use Rattle.verdict.specs.declared.Missing.{Missing}
use Rattle.census.specs.Census.{code_at, code_on}

-- by the numbers of their codes
abbrev pub number_of : Missing → ℕ
number_of m = code_number m.code

abbrev pub no_dial : Missing
no_dial = missing NoDial no_rule

-- What the prerequisites leave without a dial and with one: the same is missing, unless it is the dial.
record Alike (a b : Result Case Missing) : Type 0 where
  alike : (m : Missing) → a ≡ Err m → number_of m ≢ number_of no_dial → b ≡ Err m

unmet : {m : Missing} → Alike (Err m) (Err m)
unmet = record { alike = λ m e n. e }

dial_unmet : {b : Result Case Missing} → Alike (Err no_dial) b
dial_unmet = record { alike = λ m e n. absurd (n (ap number_in (sym e))) }
  where
    number_in : Result Case Missing → ℕ
    number_in (Err m) = number_of m
    number_in (Ok c) = 0

on_region : (t : Bool) {a b m : Result Case Missing} → Alike a b → Alike m m → Alike (cond t a m) (cond t b m)
on_region true p q = p
on_region false p q = q

on_required :
    {A : Type 0} (x : Option A) (m : Missing) {f g : A → Result Case Missing} → ((k : A) → Alike (f k) (g k))
    → Alike (required x m f) (required x m g)
on_required (Some k) m p = p k
on_required None m p = unmet

module _ (g : General) (s : Situation) (kind : EmissionKind) (direction : Direction) (audio : Range) (hz : Float) where
  ready_alike : Alike (ready_of g s None kind direction audio) (ready_of g s (Some hz) kind direction audio)
  unfolding ready_of
  ready_alike =
      on_region (s.itu_region == g.region)
      (on_required s.control _ (λ control. on_required s.license _ (λ class. on_required s.sideband _ (λ sideband. dial_unmet))))
      unmet

-- and so each dial has the code of what is missing
pub code_same :
    (l : List ℕ) (x : Transmission) (m : Missing) → l ≡ x.station.now.lent.now → x.station.now.situation.policy ≡ Rules
    → ready_of (table_of l).general x.station.now.situation None x.kind x.direction (audio_on l x) ≡ Err m
    → number_of m ≢ number_of no_dial → (hz : Float) → code_on x hz ≡ number_of m
unfolding code_at decide_of under_rules_of simple_of finish_of
code_same l x m h p e n hz =
    let s = x.station.now.situation in
    let audio = audio_on l x in
    ap (λ (k : List ℕ). code_number (decide_of (table_of k) s s.policy (Some hz) x.kind x.direction x.edges).code) (sym h)
    ∙ ap (λ (q : Policy). code_number (decide_of (table_of l) s q (Some hz) x.kind x.direction x.edges).code) p
    ∙ ap (λ (a : Result Case Missing). code_number (judged_of (table_of l) (signal_of (Some hz) s.sideband audio) a).code)
    ((ready_alike (table_of l).general s x.kind x.direction audio hz).alike m e n)

-- under another policy that decides alone
module _ (x : Transmission) (hz : Float) where
  by_policy :
      (p : Policy) → x.station.now.situation.policy ≡ p
      → code_on x hz
      ≡ code_number (decide_of (table_of x.station.now.lent.now) x.station.now.situation p (Some hz) x.kind x.direction x.edges).code
  unfolding code_at
  by_policy p e =
      ap
      (λ (q : Policy). code_number (decide_of (table_of x.station.now.lent.now) x.station.now.situation q (Some hz) x.kind x.direction x.edges).code)
      e

  pub code_unset : x.station.now.situation.policy ≡ Unset → code_on x hz ≡ code_number NoProfile
  unfolding decide_of unruled_of simple_of finish_of
  code_unset e = by_policy Unset e

  pub code_none : x.station.now.situation.policy ≡ NoneApply → code_on x hz ≡ code_number NoRules
  unfolding decide_of unruled_of simple_of finish_of
  code_none e = by_policy NoneApply e

  pub code_broken : x.station.now.situation.policy ≡ Broken → code_on x hz ≡ code_number ProfileBroken
  unfolding decide_of unruled_of simple_of finish_of
  code_broken e = by_policy Broken e
