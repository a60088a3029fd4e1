-- What holds of every answer that judging makes: it is no refusal, and the index of its guidance is that of a plan record, so below 256.
use Rattle.std.specs.Prelude.{ℕ, suc, ◌/◌, ◌<◌, ◌≤◌, Bool, cond, ◌&&◌, List, ◌≡◌, eqb, length, Float, Option, Some, None, Result, Ok, Err}
use Rattle.codes.specs.declared.Refusal.{Refusal}
use Rattle.codes.specs.Refusal.{Checked, refusal_of}
use Rattle.table.specs.declared.Elsewhere.{Elsewhere}
use Rattle.std.proofs.Math.Bool.{true, false, not}
use Rattle.std.proofs.Math.Path.{refl, ap}
use Rattle.std.proofs.Common.{sym, subst}
use native.Mathlib.Omega.{arith}
use Rattle.std.proofs.Math.Decide.{dec_le}
use Rattle.std.specs.Float.Ieee.{lt}
use Rattle.codes.specs.Read.{direction_valid, kind_of, direction_of}
use Rattle.codes.specs.declared.Policy.{Policy}
use Rattle.codes.specs.declared.Policy.TheVariants.{Unset, NoProfile as NoneApply, Rules, Broken}
use Rattle.codes.specs.declared.ControlMode.{ControlMode}
use Rattle.codes.specs.declared.LicenseClass.{LicenseClass}
use Rattle.codes.specs.declared.Sideband.{Sideband}
use Rattle.codes.specs.declared.EmissionKind.{EmissionKind}
use Rattle.codes.specs.declared.EmissionKind.TheVariants.{Data, Cw, Test as TestKind, Nothing as NoEmission}
use Rattle.codes.specs.declared.Direction.{Direction}
use Rattle.codes.specs.Code.{kind_code, bit_of}
use Rattle.profile.specs.Range.{range, holds_of, channel_range_of}
use Rattle.profile.specs.declared.Range.{Range}
use Rattle.occupancy.specs.Edges.{range_of}
use Rattle.occupancy.specs.declared.Edges.{Edges}
use Rattle.scan.specs.First.{on_found}
use Rattle.scan.specs.Laws.{first_at}
use Rattle.station.specs.Station.{situation_of}
use Rattle.station.specs.declared.StationRecord.{StationRecord}
use Rattle.station.specs.declared.Situation.{Situation}
use Rattle.layout.specs.Form.{Whole}
use Rattle.layout.specs.Layout.{bands, segments, channels, automatic, excluded, plan_data, plan_avoid, general_of, count_of}
use Rattle.table.specs.Table.{Table, record_in, table_of}
use Rattle.table.specs.Parts.{reading_of, elsewhere_of, sixty_of, channels_of}
use Rattle.table.specs.declared.Segment.{Segment as SegmentRecord}
use Rattle.table.specs.declared.Channels.{Channels}
use Rattle.find.specs.Question.{asks, first_in}
use Rattle.find.specs.declared.Question.TheVariants.{Holds, Overlaps, OfBand, BandHolds, ChannelOverlaps}
use Rattle.entry.specs.Entry.{entry_tests, edges_read}
use Rattle.decision.specs.Decision.{no_advice, finish_of, simple_of, absent_of, refused_of}
use Rattle.decision.specs.declared.Verdict.{Verdict}
use Rattle.decision.specs.Number.{no_rule, §97-301, §97-109}
use Rattle.decision.specs.declared.Code.{Code}
use Rattle.decision.specs.Reason.{Region, NoControl, NoLicense, NoSideband, NoDial}
use Rattle.decision.specs.declared.Overshoot.{Overshoot}
use Rattle.decision.specs.declared.Guidance.TheVariants.{Avoid, Inside, Outside}
use Rattle.decision.specs.declared.SixtyNotes.{SixtyNotes}
use Rattle.decision.specs.declared.Draft.{Draft}
use Rattle.decision.specs.declared.Decision.{Decision}
use Rattle.part97.specs.Part97.{plan_says, wants_plan, guidance_of, advice_of, advised, under_privilege, automatic_elsewhere}
use Rattle.part97.specs.Part97.{automatic_data, on_nearest, outside_segments, inside_segment, judge_data}
use Rattle.automatic_97_221.specs.Automatic.{responds}
use Rattle.part97.specs.Part97.{general_limit, privileged_of, some_privilege, on_channel, is_data, limit_for, nearest_up_to}
use Rattle.part97.specs.Part97.{off_sixty, allowed_on_sixty, sixty_channel, sixty_segment}
use Rattle.part97.specs.Part97.{in_sixty_segment, sixty_overlap, sixty_place, sixty_emission, sixty_kind, sixty, judge_on_band, judge_in_band, judge}
use Rattle.part97.specs.declared.Case.{Case}
use Rattle.part97.specs.declared.Privileged.{Privileged}
use Rattle.part97.specs.declared.Privileged.TheVariants.{Granted, Forbidden, Unheld}
use Rattle.verdict.specs.declared.Missing.{Missing}
use Rattle.verdict.specs.Verdict.{missing, required, signal_of, ready_of, judged_of, under_rules_of}
use Rattle.verdict.specs.Verdict.{unruled_of, decide_of, beside_valid, edge_tests, evaluate_tests, unless_refused, evaluate_of, unmeasured_of}
use Rattle.verdict.specs.Laws.{rules_whole}
use Rattle.ceiling.specs.Ceiling.{limit_of, limit_or, judge_by, climbed, ceiling_unless_refused, ceiling_of}
use Rattle.rungs.specs.Rungs.{rung_tests, ceiling_tests}
use Rattle.ceiling.specs.Run.{Run, judging, bursts, ceiling_run}
use Rattle.ceiling.specs.declared.CeilingAnswer.{CeilingAnswer}
use Rattle.flat.specs.Flat.{guidance_index_of}
use Rattle.flat.specs.Fits.{Indexed}

-- an answer that judging makes
record Settled (d : Decision) : Type 0 where
  few : Indexed d
  judged : d.refusal ≡ Ok tt

-- ---- answers put together from others

by_test : (b : Bool) {d e : Decision} → Settled d → Settled e → Settled (cond b d e)
by_test true p q = p
by_test false p q = q

by_found : (f : Option ℕ) {g : ℕ → Decision} {d : Decision} → ((i : ℕ) → Settled (g i)) → Settled d → Settled (on_found f g d)
by_found (Some i) p q = p i
by_found None p q = q

by_nearest : (f : Option (ℕ × Float)) {g : ℕ → Decision} {d : Decision} → ((i : ℕ) → Settled (g i)) → Settled d → Settled (on_nearest f g d)
by_nearest (Some (i, by)) p q = p i
by_nearest None p q = q

simple : (t : Draft) (v : Verdict) (k : Option Code) (n : ℕ) → Settled (simple_of t v k n)
unfolding simple_of finish_of no_advice
simple t v k n = record { few = omega arith; judged = refl }

by_privilege : (p : Privileged) (t : Draft) {d : Decision} → Settled d → Settled (under_privilege p t d)
by_privilege Granted t q = q
by_privilege Forbidden t q = simple t _ _ _
by_privilege Unheld t q = simple t _ _ _

outside : (t : Draft) (v : Verdict) (k : Option Code) (n : ℕ) (o : Option Overshoot) → Settled (finish_of t v k n o no_advice)
unfolding finish_of no_advice
outside t v k n o = record { few = omega arith; judged = refl }

on_sixty_holds : (t : Draft) (b : Bool) (k : Option Code) (n : ℕ) (marks : SixtyNotes) → Settled (allowed_on_sixty t b k n marks)
unfolding allowed_on_sixty finish_of
on_sixty_holds t b k n marks = record { few = omega arith; judged = refl }

pub absent : (x : Checked) → Indexed (absent_of x)
unfolding no_advice
absent x = omega arith

pub refused : (n : Refusal) → Indexed (refused_of n)
unfolding refused_of
refused n = absent (Err n)

-- ---- what Part 97 answers, by a whole table

module _ (l : List ℕ) (w : Whole l) (c : Case) where
  abbrev table : Table
  table = table_of l

  plan_says_holds : (r : Range) → guidance_index_of (Some (plan_says table r)) < 256
  unfolding plan_says
  plan_says_holds r = go (first_in table plan_avoid (Overlaps r)) refl (first_in table plan_data (Holds r)) refl
    where
      go :
          (f : Option ℕ) → first_in table plan_avoid (Overlaps r) ≡ f → (g : Option ℕ) → first_in table plan_data (Holds r) ≡ g
          → guidance_index_of (Some (on_found f Avoid (on_found g Inside Outside))) < 256
      go (Some i) p g q =
          let h = first_at (λ k. asks (Overlaps r) (record_in l plan_avoid k)) (table.count plan_avoid) i p in
          let n : count_of l plan_avoid ≤ 256 = w.few plan_avoid (omega arith) in
          omega (arith, h.below)
      go None p (Some i) q =
          let h = first_at (λ k. asks (Holds r) (record_in l plan_data k)) (table.count plan_data) i q in
          let n : count_of l plan_data ≤ 256 = w.few plan_data (omega arith) in
          omega (arith, h.below)
      go None p None q = omega arith

  told : (r : Range) → guidance_index_of (guidance_of table c r) < 256
  unfolding guidance_of
  told r = go (wants_plan table c)
    where
      go : (b : Bool) → guidance_index_of (cond b (Some (plan_says table r)) None) < 256
      go true = plan_says_holds r
      go false = omega arith

  with_advice : (r : Range) (t : Draft) (k : Option Code) (n : ℕ) → Settled (advised table c r t k n)
  unfolding advised finish_of advice_of
  with_advice r t k n = record { few = told r; judged = refl }

  elsewhere : (t : Draft) (e : Option Elsewhere) → Settled (automatic_elsewhere table c t e)
  unfolding automatic_elsewhere
  elsewhere t (Some e) =
      by_test (lt e.max_bandwidth_hz c.width) (simple t _ _ _)
      (by_test (e.requires_response && not (responds c.direction)) (simple t _ _ _) (with_advice _ t _ _))
  elsewhere t None = simple t _ _ _

  automatic_data_holds : (band : ℕ) (segment : Range) (rule : ℕ) → Settled (automatic_data table c band segment rule)
  unfolding automatic_data
  automatic_data_holds band segment rule =
      by_found (first_in table automatic (Holds c.guarded)) (λ a. with_advice _ _ _ _) (elsewhere _ (elsewhere_of table.general))

  inside : (band : ℕ) (s : SegmentRecord) → Settled (inside_segment table c band s)
  unfolding inside_segment
  inside band s = by_privilege (privileged_of table c Data) _ (by_test c.automatic (automatic_data_holds band _ _) (with_advice _ _ _ _))

  outside_all : (band : ℕ) → Settled (outside_segments table c band)
  unfolding outside_segments
  outside_all band = by_nearest (nearest_up_to table c (table.count segments)) (λ i. outside _ _ _ _ _) (simple _ _ _ _)

  data_judged : (band : ℕ) (found : Option ℕ) → Settled (judge_data table c band found)
  unfolding judge_data
  data_judged band found =
      by_test (lt (limit_for table found).max_bandwidth_hz c.width) (simple _ _ _ _) (by_found found (λ i. inside band _) (outside_all band))

  off_sixty_holds : (band : ℕ) (kind : EmissionKind) → Settled (off_sixty table c band kind)
  off_sixty_holds band Data = data_judged band (first_in table segments (Holds c.guarded))
  off_sixty_holds band Cw = by_privilege (privileged_of table c Cw) _ (simple _ _ _ _)
  off_sixty_holds band TestKind = by_privilege (privileged_of table c TestKind) _ (simple _ _ _ _)
  off_sixty_holds band NoEmission = by_test (some_privilege table c (range c.dial_hz c.dial_hz)) (simple _ _ _ _) (simple _ _ _ _)

  channel : (ch : Channels) (centre : Float) → Settled (sixty_channel table c ch centre)
  unfolding sixty_channel
  channel ch centre = by_test (on_channel c ch centre c.kind) (on_sixty_holds _ _ _ _ _) (simple _ _ _ _)

  segment : (band : ℕ) (s : SegmentRecord) → Settled (sixty_segment table c band s)
  unfolding sixty_segment
  segment band s =
      by_test (is_data c.kind && lt (general_limit table).max_bandwidth_hz c.width) (simple _ _ _ _) (on_sixty_holds _ _ _ _ _)

  in_segment_holds : (ch : Channels) {otherwise : Decision} → Settled otherwise → Settled (in_sixty_segment table c ch otherwise)
  in_segment_holds ch s = by_found (first_in table segments (BandHolds ch.band c.guarded)) (λ i. segment _ _) s

  overlap : (ch : Channels) (centre : Float) → Settled (sixty_overlap table c ch centre)
  unfolding sixty_overlap
  overlap ch centre = by_test (holds_of (channel_range_of ch.width_hz centre) c.guarded) (channel ch centre) (in_segment_holds ch (channel ch centre))

  sixty_place_holds : (ch : Channels) → Settled (sixty_place table c ch)
  unfolding sixty_place
  sixty_place_holds ch =
      by_found (first_in table channels (ChannelOverlaps ch.width_hz c.guarded)) (λ i. overlap ch _) (in_segment_holds ch (simple _ _ _ _))

  sixty_emission_holds : (ch : Channels) (e : Option (ℕ × ℕ)) → Settled (sixty_emission table c ch e)
  unfolding sixty_emission
  sixty_emission_holds ch (Some (bits, rule)) = by_test (bit_of bits (kind_code c.kind)) (sixty_place_holds ch) (simple _ _ _ _)
  sixty_emission_holds ch None = sixty_place_holds ch

  sixty_kind_holds : (ch : Channels) (kind : EmissionKind) → Settled (sixty_kind table c ch kind)
  unfolding sixty_kind
  sixty_kind_holds ch Data = sixty_emission_holds ch (sixty_of table.general)
  sixty_kind_holds ch Cw = sixty_emission_holds ch (sixty_of table.general)
  sixty_kind_holds ch TestKind = sixty_emission_holds ch (sixty_of table.general)
  sixty_kind_holds ch NoEmission = simple _ _ _ _

  on_band_holds : (band : ℕ) (b : Option Channels) → Settled (judge_on_band table c band b)
  unfolding judge_on_band sixty
  on_band_holds band (Some ch) =
      by_test (eqb ch.band band) (by_test (some_privilege table c c.air) (sixty_kind_holds ch c.kind) (simple _ _ _ _)) (off_sixty_holds band c.kind)
  on_band_holds band None = off_sixty_holds band c.kind

  in_band : (band : ℕ) → Settled (judge_in_band table c band)
  unfolding judge_in_band
  in_band band =
      by_test c.automatic (by_found (first_in table excluded (OfBand band)) (λ x. simple _ _ _ _) (on_band_holds band (channels_of table.general)))
      (on_band_holds band (channels_of table.general))

  judged : Settled (judge table c)
  unfolding judge
  judged = by_found (first_in table bands (Holds c.guarded)) (λ b. in_band _) (simple _ _ _ _)

-- ---- the verdict

-- what the prerequisites leave, judged
record Prepared (table : Table) (r : Result Case Missing) : Type 0 where
  settled : (signal : Draft) → Settled (judged_of table signal r)

unmet : {table : Table} (m : Missing) → Prepared table (Err m)
unmet m = record { settled = λ signal. simple signal _ _ _ }

by_region : (b : Bool) {table : Table} {r : Result Case Missing} → Prepared table r → Prepared table (cond b r (Err (missing Region §97-301)))
by_region true p = p
by_region false p = unmet _

by_required :
    {A : Type 0} (x : Option A) (m : Missing) {table : Table} {f : A → Result Case Missing} → ((k : A) → Prepared table (f k))
    → Prepared table (required x m f)
by_required (Some k) m q = q k
by_required None m q = unmet m

under_rules_holds :
    (l : List ℕ) → Whole l → (s : Situation) (dial : Option Float) (kind : EmissionKind) (direction : Direction) (audio : Range)
    → Settled (under_rules_of (table_of l) s dial kind direction audio)
unfolding under_rules_of ready_of
under_rules_holds l w s dial kind direction audio =
    (by_region (eqb s.itu_region (general_of l).region)
    (by_required s.control (missing NoControl §97-109)
    (λ m. by_required s.license (missing NoLicense §97-301)
    (λ k. by_required s.sideband (missing NoSideband no_rule)
    (λ b. by_required dial (missing NoDial no_rule) (λ hz. record { settled = λ signal. judged l w _ })))))
    ).settled (signal_of dial s.sideband audio)

unruled : (s : Situation) (dial : Option Float) (e : Edges) (v : Verdict) (k : Option Code) → Settled (unruled_of s dial e v k)
unfolding unruled_of
unruled s dial e v k = simple _ _ _ _

decided :
    (l : List ℕ) (s : Situation) (p : Policy) (dial : Option Float) (kind : EmissionKind) (direction : Direction) (e : Edges)
    → (p ≡ Rules → Whole l) → Settled (decide_of (table_of l) s p dial kind direction e)
unfolding decide_of
decided l s Unset dial kind direction e h = unruled s dial e _ _
decided l s NoneApply dial kind direction e h = unruled s dial e _ _
decided l s Rules dial kind direction e h = under_rules_holds l (h refl) s dial kind direction (range_of e (reading_of (general_of l)))
decided l s Broken dial kind direction e h = unruled s dial e _ _

unless_refused_holds : (x : Checked) (d : Decision) → (x ≡ Ok tt → Settled d) → Indexed (unless_refused x d)
unless_refused_holds (Ok tt) d h = (h refl).few
unless_refused_holds (Err n) d h = refused n

module _ (r : StationRecord) (kind direction : ℕ) (e : Edges) (l : List ℕ) where
  -- the decision of a call that nothing refuses
  abbrev pub decision : Decision
  decision = decide_of (table_of l) (situation_of r) (situation_of r).policy (situation_of r).dial (kind_of kind) (direction_of direction) (edges_read e)

  decision_settled : refusal_of (evaluate_tests r kind direction e l) ≡ Ok tt → Settled decision
  decision_settled a =
      decided l (situation_of r) (situation_of r).policy _ _ _ _ (rules_whole r (beside_valid kind direction) l (edge_tests e) a)

  pub evaluate_indexed : Indexed (evaluate_of r kind direction e l)
  unfolding evaluate_of
  evaluate_indexed = unless_refused_holds (refusal_of (evaluate_tests r kind direction e l)) decision decision_settled

  -- The answer's refusal is what the tests say.
  pub evaluate_refusal : (evaluate_of r kind direction e l).refusal ≡ refusal_of (evaluate_tests r kind direction e l)
  unfolding evaluate_of refused_of
  evaluate_refusal = go (refusal_of (evaluate_tests r kind direction e l)) refl
    where
      go : (x : Checked) → refusal_of (evaluate_tests r kind direction e l) ≡ x → (unless_refused x decision).refusal ≡ x
      go (Ok tt) a = (decision_settled a).judged
      go (Err n) a = refl

pub unmeasured_indexed : (r : StationRecord) (l : List ℕ) → Indexed (unmeasured_of r l)
unfolding unmeasured_of
unmeasured_indexed r l = unless_refused_holds (refusal_of (entry_tests r true l)) _ (λ a. simple _ _ _ _)

-- ---- the limit of a ceiling

module _ (r : StationRecord) (direction : ℕ) (ordinary floor : Edges) (l : List ℕ) (rungs : List Float) (floors : List ℕ) where
  abbrev answer : CeilingAnswer
  answer = ceiling_of r direction ordinary floor l rungs floors

  refused_limit : (n : Refusal) → refusal_of (ceiling_tests r direction ordinary floor l rungs floors) ≡ Err n → limit_of answer ≡ absent_of (Err n)
  unfolding ceiling_of
  refused_limit n e = ap (λ (x : Checked). limit_of (ceiling_unless_refused x (climbed (judging r direction ordinary floor l rungs floors)
      (bursts r direction ordinary floor l rungs floors) (length rungs / 4)))) e

  pub judging_indexed :
      refusal_of (ceiling_tests r direction ordinary floor l rungs floors) ≡ Ok tt → (e : Edges)
      → Indexed (judging r direction ordinary floor l rungs floors e)
  unfolding judge_by
  judging_indexed a e =
      (decided l (situation_of r) (situation_of r).policy _ _ _ e
      (rules_whole r (direction_valid direction) l (rung_tests ordinary floor rungs floors) a)).few

  pub limit_indexed : Indexed (limit_of answer)
  limit_indexed = go (refusal_of (ceiling_tests r direction ordinary floor l rungs floors)) refl
    where
      go : (x : Checked) → refusal_of (ceiling_tests r direction ordinary floor l rungs floors) ≡ x → Indexed (limit_of answer)
      go (Err n) e = subst Indexed (sym (refused_limit n e)) (absent (Err n))
      go (Ok tt) e = by_run (dec_le (suc run.0) (length rungs / 4))
        where
          run : (j : ℕ) × Run (judging r direction ordinary floor l rungs floors) (bursts r direction ordinary floor l rungs floors)
              (length rungs / 4) answer.rung answer.limit j
          run = ceiling_run r direction ordinary floor l rungs floors e

          by_run : Dec (suc run.0 ≤ length rungs / 4) → Indexed (limit_of answer)
          by_run (yes h) = subst (λ (d : Option Decision). Indexed (limit_or answer.refusal d)) (sym (run.1.above h).1) (judging_indexed e _)
          by_run (no h) =
              let w : run.0 ≤ length rungs / 4 = run.1.within in
              subst (λ (d : Option Decision). Indexed (limit_or answer.refusal d)) (sym (run.1.all (omega arith))) (absent answer.refusal)
