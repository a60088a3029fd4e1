-- When the gate allows data off the channel band, test by test in Part97's order: the first band that holds the guarded signal is not
-- excluded, the first data segment that holds it is not too narrow, the first privilege that holds it allows data, and 97.221 is met.
use Rattle.std.specs.Prelude.{ℕ, Bool, ◌&&◌, ◌||◌, ◌≡◌, Float, Option, Some, None}
use Rattle.table.specs.declared.Elsewhere.{Elsewhere}
use Rattle.std.proofs.Math.Bool.{true, false, not, cond}
use Rattle.std.proofs.Common.{true≢false, ◌∙◌, eqb-true, eq-eqb}
use Rattle.std.proofs.lemmas.Bool.{false≢true}
use Rattle.std.proofs.Math.Path.{refl, sym, ap}
use Rattle.std.proofs.Math.Dec.{eqb}
use Rattle.std.specs.Float.Ieee.{lt, le}
use Rattle.codes.specs.Code.{bit_of}
use Rattle.codes.specs.declared.EmissionKind.{EmissionKind}
use Rattle.codes.specs.declared.EmissionKind.TheVariants.{Data}
use Rattle.profile.specs.declared.Range.{Range}
use Rattle.scan.specs.First.{is_at, on_found}
use Rattle.layout.specs.Layout.{bands, segments, automatic, excluded}
use Rattle.layout.specs.declared.General.{General}
use Rattle.table.specs.Table.{Table}
use Rattle.table.specs.Parts.{span_of, excluded_of, elsewhere_of, channels_of}
use Rattle.table.specs.declared.Segment.{Segment}
use Rattle.table.specs.declared.Channels.{Channels}
use Rattle.find.specs.Question.{first_in, some_in}
use Rattle.find.specs.declared.Question.TheVariants.{Holds, OfBand}
use Rattle.automatic_97_221.specs.Automatic.{responds, elsewhere_allows}
use Rattle.decision.specs.Number.{§97-301, §97-305c, §97-307f9}
use Rattle.decision.specs.Decision.{no_advice, finish_of, simple_of}
use Rattle.decision.specs.declared.Verdict.TheVariants.{Blocked}
use Rattle.decision.specs.declared.Code.{Code}
use Rattle.decision.specs.Reason.{OutOfBand, AutomaticExcluded, TooWide, OutsideDataSegment, NoDataHere, Privilege}
use Rattle.decision.specs.Reason.{Permitted, AutomaticSegment, AutomaticBandwidth, AutomaticOriginate, AutomaticResponse}
use Rattle.decision.specs.declared.Draft.{Draft}
use Rattle.decision.specs.declared.Decision.{Decision}
use Rattle.part97.specs.Part97.{band_at, segment_at, limit_for, blocked_too_wide, warned, advice_warns, automatic_rule_of, draft_of, draft_inside, draft_automatic}
use Rattle.part97.specs.Part97.{privileged_of, under_privilege, advised, advised_automatic, automatic_elsewhere, automatic_data, nearest_up_to, on_nearest}
use Rattle.part97.specs.Part97.{outside_segments, overshoot_of, inside_segment, judge_data, off_sixty, sixty, judge_on_band, judge_in_band, touching, judge}
use Rattle.part97.specs.declared.Case.{Case}
use Rattle.part97.specs.declared.Privileged.{Privileged}
use Rattle.part97.specs.declared.Privileged.TheVariants.{Granted, Forbidden, Unheld}
use Rattle.distance.specs.Distance.{is_outside}
use Rattle.demand_3.specs.Words.{sent, allows}

-- ---- the answers' verdicts

simple_blocked : (d : Draft) (code : Option Code) (rule : ℕ) → allows (simple_of d Blocked code rule) ≡ false
unfolding simple_of finish_of
simple_blocked d code rule = refl

advised_sent : (table : Table) (c : Case) (r : Range) (d : Draft) (code : Option Code) (rule : ℕ) → allows (advised table c r d code rule) ≡ true
unfolding advised finish_of
advised_sent table c r d code rule = go (advice_warns table c r)
  where
    go : (b : Bool) → sent (warned b) ≡ true
    go true = refl
    go false = refl

-- The channels that a table has are of the channel band.
pub by_channels :
    (g : General) (P : Option Channels → Type 0) → ((c : Channels) → is_outside g.flags g.channel_band c.band ≡ false → P (Some c))
    → P None → P (channels_of g)
unfolding is_outside
by_channels g P on none = go (bit_of g.flags 2) _ refl refl
  where
    go : (b : Bool) (here : Channels) → bit_of g.flags 2 ≡ b → here.band ≡ g.channel_band → P (cond b (Some here) None)
    go true here e f = on here (rw e (rw (eq-eqb here.band g.channel_band f)))
    go false here e f = none

-- the limit of 97.221(c) compares with a width both ways
abbrev pub Comparable : Option Elsewhere → Float → Type 0
Comparable (Some e) width = le width e.max_bandwidth_hz ≡ not (lt e.max_bandwidth_hz width)
Comparable None width = Unit

module _ (table : Table) (c : Case) where
  -- ---- 97.221

  elsewhere_allows_holds :
      (draft : Draft) (w : Option Elsewhere) → Comparable w c.width
      → allows (automatic_elsewhere table c draft w) ≡ elsewhere_allows w c.width c.direction
  unfolding automatic_elsewhere
  elsewhere_allows_holds draft (Some e) k =
      rw k (go (lt e.max_bandwidth_hz c.width) e.requires_response (responds c.direction))
    where
      go :
          (a b r : Bool)
          → allows
          (cond a (simple_of draft Blocked AutomaticBandwidth e.rule)
          (cond (b && not r) (simple_of draft Blocked AutomaticOriginate e.rule)
          (advised_automatic table c draft AutomaticResponse e.rule)))
          ≡ (not a && (r || not b))
      go true b r = simple_blocked draft _ e.rule
      go false true true = advised_sent table c c.advised draft AutomaticResponse e.rule
      go false true false = simple_blocked draft _ e.rule
      go false false true = advised_sent table c c.advised draft AutomaticResponse e.rule
      go false false false = advised_sent table c c.advised draft AutomaticResponse e.rule
  elsewhere_allows_holds draft None k = simple_blocked draft _ (automatic_rule_of table)

  -- 97.221(b), or (c)
  abbrev pub automatic_met : Bool
  automatic_met =
      some_in table automatic (Holds c.guarded) || elsewhere_allows (elsewhere_of table.general) c.width c.direction

  automatic_allows :
      (band : ℕ) (segment : Range) (rule : ℕ) → Comparable (elsewhere_of table.general) c.width
      → allows (automatic_data table c band segment rule) ≡ automatic_met
  unfolding automatic_data
  automatic_allows band segment rule k = go (first_in table automatic (Holds c.guarded))
    where
      go :
          (f : Option ℕ)
          → allows
          (on_found f
          (λ a.
          advised_automatic table c (draft_automatic c band segment rule (span_of (table.at automatic a))) AutomaticSegment (automatic_rule_of table))
          (automatic_elsewhere table c (draft_inside c band segment rule) (elsewhere_of table.general)))
          ≡ (is_at f || elsewhere_allows (elsewhere_of table.general) c.width c.direction)
      go (Some a) =
          advised_sent table c c.advised (draft_automatic c band segment rule (span_of (table.at automatic a))) AutomaticSegment
          (automatic_rule_of table)
      go None = elsewhere_allows_holds (draft_inside c band segment rule) (elsewhere_of table.general) k

  -- ---- inside a segment

  -- what makes data lawful inside a segment
  pub record Inside : Type 0 where
    pub granted : privileged_of table c Data ≡ Granted
    pub met : c.automatic ≡ true → automatic_met ≡ true

  module _ (K : Comparable (elsewhere_of table.general) c.width) (band : ℕ) (s : Segment) where
    abbrev controlled : Bool → Decision
    controlled b =
        cond b (automatic_data table c band s.range s.rule)
        (advised table c c.air (draft_inside c band s.range s.rule) Permitted s.rule)

    controlled_in : (b : Bool) → (b ≡ true → automatic_met ≡ true) → allows (controlled b) ≡ true
    controlled_in true h = automatic_allows band s.range s.rule K ∙ h refl
    controlled_in false h = advised_sent table c c.air (draft_inside c band s.range s.rule) Permitted s.rule

    controlled_of : (b : Bool) → allows (controlled b) ≡ true → b ≡ true → automatic_met ≡ true
    controlled_of true e h = sym (automatic_allows band s.range s.rule K) ∙ e
    controlled_of false e h = absurd (false≢true h)

    inside_in : Inside → allows (inside_segment table c band s) ≡ true
    unfolding inside_segment
    inside_in w =
        ap (λ (x : Privileged). allows (under_privilege x (draft_inside c band s.range s.rule) (controlled c.automatic))) w.granted
        ∙ controlled_in c.automatic w.met

    inside_of : allows (inside_segment table c band s) ≡ true → Inside
    unfolding inside_segment
    inside_of e = go (privileged_of table c Data) refl e
      where
        go :
            (x : Privileged) → privileged_of table c Data ≡ x
            → allows (under_privilege x (draft_inside c band s.range s.rule) (controlled c.automatic)) ≡ true → Inside
        go Granted p q = record { granted = p; met = controlled_of c.automatic q }
        go Forbidden p q = absurd (false≢true (sym (simple_blocked (draft_inside c band s.range s.rule) Privilege §97-307f9) ∙ q))
        go Unheld p q = absurd (false≢true (sym (simple_blocked (draft_inside c band s.range s.rule) Privilege §97-301) ∙ q))

  -- ---- the segment

  outside_blocked : (band : ℕ) → allows (outside_segments table c band) ≡ false
  unfolding outside_segments finish_of
  outside_blocked band = go (nearest_up_to table c (table.count segments))
    where
      go :
          (n : Option (ℕ × Float))
          → allows
          (on_nearest n
          (λ i.
          finish_of (draft_inside c band (segment_at table i).range (segment_at table i).rule) Blocked OutsideDataSegment (segment_at table i).rule
          (Some (overshoot_of (segment_at table i).range c.air)) no_advice)
          (simple_of (draft_of c (Some band)) Blocked NoDataHere §97-305c))
          ≡ false
      go (Some (i, by)) = refl
      go None = simple_blocked (draft_of c (Some band)) NoDataHere §97-305c

  -- what makes data lawful off the channel band, in a band
  pub record Placed : Type 0 where
    pub segment : ℕ
    pub found : first_in table segments (Holds c.guarded) ≡ Some segment
    pub narrow : lt (limit_for table (Some segment)).max_bandwidth_hz c.width ≡ false
    pub inside : Inside

  module _ (K : Comparable (elsewhere_of table.general) c.width) (band : ℕ) where
    abbrev placed : Option ℕ → Bool → Decision
    placed f b =
        cond b (blocked_too_wide c band (limit_for table f))
        (on_found f (λ i. inside_segment table c band (segment_at table i)) (outside_segments table c band))

    data_in : Placed → allows (off_sixty table c band Data) ≡ true
    unfolding judge_data
    data_in w =
        ap (λ (f : Option ℕ). allows (placed f (lt (limit_for table f).max_bandwidth_hz c.width))) w.found
        ∙ ap (λ (b : Bool). allows (placed (Some w.segment) b)) w.narrow
        ∙ inside_in K band (segment_at table w.segment) w.inside

    data_of_holds : allows (off_sixty table c band Data) ≡ true → Placed
    unfolding judge_data
    data_of_holds e = go (first_in table segments (Holds c.guarded)) refl e
      where
        wide : (f : Option ℕ) (b : Bool) → allows (placed f b) ≡ true → b ≡ false
        wide f true q = sym q ∙ simple_blocked (draft_of c (Some band)) TooWide (limit_for table f).rule
        wide f false q = refl

        go :
            (f : Option ℕ) → first_in table segments (Holds c.guarded) ≡ f
            → allows (placed f (lt (limit_for table f).max_bandwidth_hz c.width)) ≡ true → Placed
        go (Some i) p q =
            let n = wide (Some i) (lt (limit_for table (Some i)).max_bandwidth_hz c.width) q in
            record {
              segment = i;
              found = p;
              narrow = n;
              inside =
                  inside_of K band (segment_at table i) (sym (ap (λ (b : Bool). allows (placed (Some i) b)) n) ∙ q);
            }
        go None p q =
            let n = wide None (lt (limit_for table None).max_bandwidth_hz c.width) q in
            absurd
            (false≢true
            (sym (outside_blocked band) ∙ sym (ap (λ (b : Bool). allows (placed None b)) n) ∙ q))

  -- ---- the band

  -- off the channel band
  pub on_band_holds :
      (g : General) (band : ℕ) → is_outside g.flags g.channel_band band ≡ true
      → judge_on_band table c band (channels_of g) ≡ off_sixty table c band c.kind
  unfolding judge_on_band
  on_band_holds g band o =
      by_channels g (λ x. judge_on_band table c band x ≡ off_sixty table c band c.kind) (λ ch own. go ch own (eqb ch.band band) refl) refl
    where
      go :
          (ch : Channels) → is_outside g.flags g.channel_band ch.band ≡ false → (b : Bool) → eqb ch.band band ≡ b
          → cond b (sixty table c ch) (off_sixty table c band c.kind) ≡ off_sixty table c band c.kind
      go ch own true e = absurd (false≢true (sym own ∙ ap (is_outside g.flags g.channel_band) (eqb-true ch.band band e) ∙ o))
      go ch own false e = refl

  abbrev pub excluded_here : ℕ → Bool
  excluded_here band = c.automatic && some_in table excluded (OfBand band)

  abbrev banded : ℕ → Bool → Option ℕ → Decision
  banded band a f =
      cond a
      (on_found f (λ x. simple_of (draft_of c (Some band)) Blocked AutomaticExcluded (excluded_of (table.at excluded x)).rule)
      (judge_on_band table c band (channels_of table.general)))
      (judge_on_band table c band (channels_of table.general))

  pub in_band : (band : ℕ) → excluded_here band ≡ false → judge_in_band table c band ≡ judge_on_band table c band (channels_of table.general)
  unfolding judge_in_band
  in_band band e = go c.automatic (first_in table excluded (OfBand band)) e
    where
      go : (a : Bool) (f : Option ℕ) → (a && is_at f) ≡ false → banded band a f ≡ judge_on_band table c band (channels_of table.general)
      go true (Some i) e = absurd (true≢false e)
      go true None e = refl
      go false f e = refl

  in_band_of : (band : ℕ) → allows (judge_in_band table c band) ≡ true → excluded_here band ≡ false
  unfolding judge_in_band
  in_band_of band e = go c.automatic (first_in table excluded (OfBand band)) e
    where
      go : (a : Bool) (f : Option ℕ) → allows (banded band a f) ≡ true → (a && is_at f) ≡ false
      go true (Some i) e =
          absurd (false≢true (sym (simple_blocked (draft_of c (Some band)) AutomaticExcluded (excluded_of (table.at excluded i)).rule) ∙ e))
      go true None e = refl
      go false f e = refl

  -- what makes data lawful
  pub record Judged : Type 0 where
    pub band : ℕ
    pub found : first_in table bands (Holds c.guarded) ≡ Some band
    pub not_excluded : excluded_here (band_at table band).band ≡ false
    pub place : Placed

  -- the first band that holds the signal is none of the channel band's
  abbrev pub OffChannels : Type 0
  OffChannels =
      (b : ℕ) → first_in table bands (Holds c.guarded) ≡ Some b
      → is_outside table.general.flags table.general.channel_band (band_at table b).band ≡ true

  module _ (K : Comparable (elsewhere_of table.general) c.width) (off : OffChannels) (kind : c.kind ≡ Data) where
    abbrev judged_at : Option ℕ → Decision
    judged_at f =
        on_found f (λ b. judge_in_band table c (band_at table b).band) (simple_of (draft_of c (touching table c)) Blocked OutOfBand §97-301)

    off_band :
        (b : ℕ) → first_in table bands (Holds c.guarded) ≡ Some b → excluded_here (band_at table b).band ≡ false
        → judge_in_band table c (band_at table b).band ≡ off_sixty table c (band_at table b).band Data
    off_band b f x =
        in_band (band_at table b).band x ∙ on_band_holds table.general (band_at table b).band (off b f)
        ∙ ap (λ (k : EmissionKind). off_sixty table c (band_at table b).band k) kind

    pub judged_in : Judged → allows (judge table c) ≡ true
    unfolding judge
    judged_in w =
        ap (λ (f : Option ℕ). allows (judged_at f)) w.found
        ∙ ap allows (off_band w.band w.found w.not_excluded)
        ∙ data_in K (band_at table w.band).band w.place

    pub judged_of_holds : allows (judge table c) ≡ true → Judged
    unfolding judge
    judged_of_holds e = go (first_in table bands (Holds c.guarded)) refl e
      where
        go : (f : Option ℕ) → first_in table bands (Holds c.guarded) ≡ f → allows (judged_at f) ≡ true → Judged
        go (Some b) p q =
            let x = in_band_of (band_at table b).band q in
            record {
              band = b;
              found = p;
              not_excluded = x;
              place = data_of_holds K (band_at table b).band (sym (ap allows (off_band b p x)) ∙ q);
            }
        go None p q = absurd (false≢true (sym (simple_blocked (draft_of c (touching table c)) OutOfBand §97-301) ∙ q))
