-- An automatic station that answers another one is blocked with code 20 where 97.221(c) asks for a response: test by test in Part97's order.
use Rattle.std.specs.Prelude.{ℕ, Bool, cond, ◌&&◌, List, ◌≡◌, eqb, Float, Option, Some, None, Ok, Err}
use Rattle.codes.specs.Refusal.{Checked, refusal_of}
use Rattle.table.specs.declared.Elsewhere.{Elsewhere}
use Rattle.std.proofs.Math.Bool.{true, false, not}
use Rattle.std.proofs.lemmas.Bool.{false≢true}
use Rattle.std.proofs.Common.{sym, ◌∙◌, subst}
use Rattle.std.proofs.Math.Path.{refl, ap}
use Rattle.scan.specs.First.{on_found, is_at}
use Rattle.scan.specs.Laws.{and_true}
use Rattle.codes.specs.Code.{policy_code}
use Rattle.codes.specs.declared.Policy.{Policy}
use Rattle.codes.specs.declared.Policy.TheVariants.{Unset, NoProfile, Rules, Broken}
use Rattle.codes.specs.declared.ControlMode.{ControlMode}
use Rattle.codes.specs.declared.Direction.TheVariants.{RespondToAutomatic}
use Rattle.codes.specs.declared.EmissionKind.TheVariants.{Data}
use Rattle.profile.specs.declared.Range.{Range}
use Rattle.occupancy.specs.declared.Edges.{Edges}
use Rattle.station.specs.Station.{situation_of}
use Rattle.station.specs.declared.Situation.{Situation}
use Rattle.station.specs.declared.StationRecord.{StationRecord}
use Rattle.layout.specs.Layout.{bands, segments, automatic, excluded}
use Rattle.table.specs.Table.{Table, table_of}
use Rattle.table.specs.Parts.{elsewhere_of, span_of}
use Rattle.table.specs.declared.Segment.{Segment}
use Rattle.find.specs.Question.{first_in, some_in}
use Rattle.find.specs.declared.Question.TheVariants.{Holds, OfBand}
use Rattle.entry.specs.Entry.{edges_read}
use Rattle.automatic_97_221.specs.Automatic.{responds, applies_of}
use Rattle.decision.specs.Decision.{simple_of, finish_of, refused_of}
use Rattle.decision.specs.declared.Draft.{Draft}
use Rattle.decision.specs.declared.Decision.{Decision}
use Rattle.decision.specs.declared.Verdict.TheVariants.{Blocked}
use Rattle.decision.specs.Reason.{Permitted, AutomaticSegment, AutomaticBandwidth, AutomaticOriginate, AutomaticResponse, OutOfBand}
use Rattle.decision.specs.Number.{§97-301}
use Rattle.air.specs.Air.{wider}
use Rattle.part97.specs.Part97.{limit_for, band_at, segment_at, draft_of, draft_inside, draft_automatic, privileged_of, under_privilege, advised}
use Rattle.part97.specs.Part97.{advised_automatic, automatic_rule_of, automatic_elsewhere, automatic_data, inside_segment, outside_segments, blocked_too_wide}
use Rattle.part97.specs.Part97.{judge_data, off_sixty, judge_in_band, touching, judge}
use Rattle.part97.specs.declared.Case.{Case}
use Rattle.part97.specs.declared.Privileged.{Privileged}
use Rattle.part97.specs.declared.Privileged.TheVariants.{Granted, Forbidden, Unheld}
use Rattle.verdict.specs.Verdict.{case_of, decide_of, evaluate_tests, unless_refused, evaluate_of}
use Rattle.demand_3.specs.Words.{audio_of}
use Rattle.demand_3.specs.Judged.{OffChannels, on_band_holds, in_band}
use Rattle.demand_3.specs.Exactly.{ruling, off_channels}
use Rattle.answering_97_221.specs.Words.{band_passes, segment_passes, is_granted, passes_before, outside_automatic, asks_response, robot_case, Answering, Answered}

blocked_20 : (draft : Draft) (rule : ℕ) → Answered (simple_of draft Blocked AutomaticOriginate rule)
unfolding simple_of finish_of
blocked_20 draft rule = record { verdict = refl; code = refl }

module _ (table : Table) (c : Case) (new : c.direction ≡ RespondToAutomatic) (auto : c.automatic ≡ true) (kind : c.kind ≡ Data) where
  -- 97.221(c)
  elsewhere_20 : (draft : Draft) (w : Option Elsewhere) → asks_response w c.width ≡ true → Answered (automatic_elsewhere table c draft w)
  unfolding automatic_elsewhere
  elsewhere_20 draft (Some e) h =
      go (wider c.width e.max_bandwidth_hz) e.requires_response (responds c.direction) (ap responds new) h
    where
      go :
          (a b r : Bool) → r ≡ false → (not a && b) ≡ true
          → Answered
          (cond a (simple_of draft Blocked AutomaticBandwidth e.rule)
          (cond (b && not r) (simple_of draft Blocked AutomaticOriginate e.rule) (advised_automatic table c draft AutomaticResponse e.rule)))
      go true b r k h = absurd (false≢true h)
      go false true true k h = absurd (false≢true (sym k))
      go false true false k h = blocked_20 draft e.rule
      go false false r k h = absurd (false≢true h)
  elsewhere_20 draft None h = absurd (false≢true h)

  module _ (outside : outside_automatic table c ≡ true) (asked : asks_response (elsewhere_of table.general) c.width ≡ true) where
    -- 97.221(b)
    automatic_20 : (band : ℕ) (segment : Range) (rule : ℕ) → Answered (automatic_data table c band segment rule)
    unfolding automatic_data outside_automatic
    automatic_20 band segment rule = go (first_in table automatic (Holds c.guarded)) outside
      where
        go :
            (f : Option ℕ) → not (is_at f) ≡ true
            → Answered
            (on_found f
            (λ a.
            advised_automatic table c (draft_automatic c band segment rule (span_of (table.at automatic a))) AutomaticSegment (automatic_rule_of table))
            (automatic_elsewhere table c (draft_inside c band segment rule) (elsewhere_of table.general)))
        go (Some a) h = absurd (false≢true h)
        go None h = elsewhere_20 (draft_inside c band segment rule) (elsewhere_of table.general) asked

    inside_20 : (band : ℕ) (s : Segment) → is_granted (privileged_of table c Data) ≡ true → Answered (inside_segment table c band s)
    unfolding inside_segment
    inside_20 band s h = go (privileged_of table c Data) c.automatic h auto
      where
        go :
            (x : Privileged) (b : Bool) → is_granted x ≡ true → b ≡ true
            → Answered
            (under_privilege x (draft_inside c band s.range s.rule)
            (cond b (automatic_data table c band s.range s.rule)
            (advised table c c.air (draft_inside c band s.range s.rule) Permitted s.rule)))
        go Granted true h k = automatic_20 band s.range s.rule
        go Granted false h k = absurd (false≢true k)
        go Forbidden b h k = absurd (false≢true h)
        go Unheld b h k = absurd (false≢true h)

    data_20 :
        (band : ℕ) (f : Option ℕ) → segment_passes table c.width f ≡ true → is_granted (privileged_of table c Data) ≡ true
        → Answered (judge_data table c band f)
    unfolding judge_data segment_passes
    data_20 band f h g = go f (wider c.width (limit_for table f).max_bandwidth_hz) h
      where
        go :
            (f : Option ℕ) (b : Bool) → (not b && is_at f) ≡ true
            → Answered
            (cond b (blocked_too_wide c band (limit_for table f))
            (on_found f (λ i. inside_segment table c band (segment_at table i)) (outside_segments table c band)))
        go f true h = absurd (false≢true h)
        go (Some i) false h = inside_20 band (segment_at table i) g
        go None false h = absurd (false≢true h)

    judge_20 : OffChannels table c → passes_before table c ≡ true → Answered (judge table c)
    unfolding judge passes_before band_passes
    judge_20 off h =
        let p = and_true _ _ h in
        let q = and_true _ _ p.1 in
        go (first_in table bands (Holds c.guarded)) refl p.0 q.0 q.1
      where
        none : (b : Bool) → not b ≡ true → (true && b) ≡ false
        none true e = absurd (false≢true e)
        none false e = refl

        go :
            (f : Option ℕ) → first_in table bands (Holds c.guarded) ≡ f
            → on_found f (λ b. not (some_in table excluded (OfBand (band_at table b).band))) false ≡ true
            → segment_passes table c.width (first_in table segments (Holds c.guarded)) ≡ true → is_granted (privileged_of table c Data) ≡ true
            → Answered
            (on_found f (λ b. judge_in_band table c (band_at table b).band) (simple_of (draft_of c (touching table c)) Blocked OutOfBand §97-301))
        go (Some b) e x y z =
            let band = (band_at table b).band in
            let n = ap (λ (a : Bool). a && some_in table excluded (OfBand band)) auto ∙ none (some_in table excluded (OfBand band)) x in
            subst Answered
            (sym (in_band table c band n ∙ on_band_holds table c table.general band (off b e) ∙ ap (off_sixty table c band) kind))
            (data_20 band (first_in table segments (Holds c.guarded)) y z)
        go None e x y z = absurd (false≢true x)

-- ---- the call

in_force_of : (p : Policy) → eqb (policy_code p) (policy_code Rules) ≡ true → p ≡ Rules
in_force_of Unset e = absurd (false≢true e)
in_force_of NoProfile e = absurd (false≢true e)
in_force_of Rules e = refl
in_force_of Broken e = absurd (false≢true e)

accepted_of : (c : Checked) (d : Decision) → (unless_refused c d).refusal ≡ Ok tt → c ≡ Ok tt
unfolding refused_of
accepted_of (Ok tt) d e = refl
accepted_of (Err n) d e = e

module _ (r : StationRecord) (e : Edges) (l : List ℕ) (dial : Float) (A : Answering r e l dial) where
  abbrev table : Table
  table = table_of l

  abbrev s : Situation
  s = situation_of r

  abbrev audio : Range
  audio = audio_of table (edges_read e)

  abbrev c : Case
  c = robot_case table s audio dial A.met

  abbrev decided : Policy → Option Float → Decision
  decided p d = decide_of table s p d Data RespondToAutomatic (edges_read e)

  judged : evaluate_of r 0 3 e l ≡ judge table c
  unfolding evaluate_of decide_of
  judged =
      ap (λ (x : Checked). unless_refused x (decided s.policy s.dial))
      (accepted_of (refusal_of (evaluate_tests r 0 3 e l)) (decided s.policy s.dial) A.not_refused)
      ∙ ap (λ (p : Policy). decided p s.dial) (in_force_of s.policy A.in_force_holds)
      ∙ ap (λ (d : Option Float). decided Rules d) A.own_dial
      ∙ ruling table s RespondToAutomatic audio dial A.met

  under_automatic : c.automatic ≡ true
  unfolding case_of
  under_automatic = ap (λ (k : ControlMode). applies_of k RespondToAutomatic) A.control

  new_value : c.direction ≡ RespondToAutomatic
  unfolding case_of
  new_value = refl

  data_sent : c.kind ≡ Data
  unfolding case_of
  data_sent = refl

  -- document 02, 3
  pub answering_blocked : Answered (evaluate_of r 0 3 e l)
  answering_blocked =
      subst Answered (sym judged)
      (judge_20 table c new_value under_automatic data_sent A.outside A.elsewhere
      (off_channels table s RespondToAutomatic audio dial A.met A.off_channels) A.passes)
