-- "Answers that change: blocked 24 becomes legal 25 or its warning, or too_wide; 24, legal or its warning, for a CW carrier on centre whose
-- guarded range the channel doesn't hold becomes 25 or its warning, or too_wide." (document 02, 4) No other answer changes; and too_wide is
-- met by data alone, never by the second change.
use Rattle.std.specs.Prelude.{ℕ, Bool, cond, ◌&&◌, ◌⊎◌, ◌≡◌, eqb, Float, Option, Some, None}
use Rattle.std.proofs.Math.Bool.{true, false}
use Rattle.std.proofs.lemmas.Bool.{false≢true}
use Rattle.std.proofs.Common.{true≢false, sym, ◌∙◌}
use Rattle.std.proofs.Math.Logic.{inl, inr}
use Rattle.std.proofs.Math.Path.{refl}
use Rattle.std.specs.Float.{binary64}
use Rattle.std.specs.Float.Ieee.{le, sub}
use Rattle.figures.specs.Figure.{abs_of}
use Rattle.codes.specs.Code.{kind_code, bit_of}
use Rattle.codes.specs.declared.EmissionKind.{EmissionKind}
use Rattle.codes.specs.declared.EmissionKind.TheVariants.{Data, Cw, Test, Nothing as NoEmission}
use Rattle.profile.specs.Range.{holds_of, channel_range_of}
use Rattle.scan.specs.First.{on_found}
use Rattle.layout.specs.Layout.{bands, segments, channels, excluded}
use Rattle.table.specs.Table.{Table}
use Rattle.table.specs.Parts.{centre_of, channels_of, excluded_of, sixty_of}
use Rattle.table.specs.declared.Channels.{Channels}
use Rattle.table.specs.declared.Segment.{Segment}
use Rattle.find.specs.Question.{first_in}
use Rattle.find.specs.declared.Question.TheVariants.{Holds, OfBand, BandHolds, ChannelOverlaps}
use Rattle.decision.specs.Decision.{simple_of, finish_of}
use Rattle.decision.specs.Number.{§97-301}
use Rattle.decision.specs.declared.Decision.{Decision}
use Rattle.decision.specs.declared.Verdict.{Verdict}
use Rattle.decision.specs.declared.Verdict.TheVariants.{Legal, Warning, Blocked}
use Rattle.decision.specs.Reason.{OutOfBand, AutomaticExcluded, TooWide, SixtyOffChannel, SixtyChannel, SixtySegment}
use Rattle.part97.specs.Part97.{band_at, segment_at, draft_of, draft_inside, some_privilege, general_limit, exceeds, channel_watts_of, segment_watts_of, is_data}
use Rattle.part97.specs.Part97.{cw_on_channel, same_sideband, data_on_channel, on_channel, allowed_on_sixty, warned, sixty_channel, sixty_segment}
use Rattle.part97.specs.Part97.{in_sixty_segment, sixty_overlap, sixty_place}
use Rattle.part97.specs.Part97.{sixty_emission, sixty_kind, sixty, judge_on_band, judge_in_band, touching, judge}
use Rattle.part97.specs.declared.Case.{Case}
use Rattle.air.specs.Air.{wider}
use Rattle.choice_97_303.specs.Before.{place_before, emission_before, kind_before, sixty_before, on_band_before, in_band_before, judge_before}

-- a verdict that isn't Blocked
abbrev pub sent : Verdict → Bool
sent Legal = true
sent Warning = true
sent Blocked = false

-- an answer that changed, from what to what: the first overlapping channel does not hold the guarded range, a segment of the band does
pub record Changed (table : Table) (c : Case) (old new : Decision) : Type 0 where
  pub ch : Channels
  pub channel : ℕ
  pub overlaps : first_in table channels (ChannelOverlaps ch.width_hz c.guarded) ≡ Some channel
  pub not_held : holds_of (channel_range_of ch.width_hz (centre_of (table.at channels channel))) c.guarded ≡ false
  pub segment : ℕ
  pub held : first_in table segments (BandHolds ch.band c.guarded) ≡ Some segment
  -- it was 24, and legal or a warning only for a CW carrier on centre
  pub was : old.code ≡ SixtyChannel
  pub was_allowed : sent old.verdict ≡ true → (c.kind ≡ Cw) × (cw_on_channel c ch (centre_of (table.at channels channel)) ≡ true)
  -- it is 25, legal or a warning, or data is too wide
  pub is : ((new.code ≡ SixtySegment) × (sent new.verdict ≡ true)) ⊎ ((c.kind ≡ Data) × (new.code ≡ TooWide) × (new.verdict ≡ Blocked))

abbrev pub Differs : Table → Case → Decision → Decision → Type 0
Differs table c old new = (new ≡ old) ⊎ Changed table c old new

-- ---- the two judgements

module _ (table : Table) (c : Case) (ch : Channels) (centre : Float) where
  abbrev on_it : Bool → Decision
  on_it b =
      cond b
      (allowed_on_sixty (draft_inside c ch.band (channel_range_of ch.width_hz centre) ch.rule) (exceeds c.power (channel_watts_of table)) SixtyChannel
      ch.rule (record { channel_power = exceeds c.power (channel_watts_of table); shared = true; segment_power = false }))
      (simple_of (draft_inside c ch.band (channel_range_of ch.width_hz centre) ch.rule) Blocked SixtyChannel ch.rule)

  channel_24 : (sixty_channel table c ch centre).code ≡ SixtyChannel
  unfolding sixty_channel allowed_on_sixty simple_of finish_of
  channel_24 = go (on_channel c ch centre c.kind)
    where
      go : (b : Bool) → (on_it b).code ≡ SixtyChannel
      go true = refl
      go false = refl

  sent_on : sent (sixty_channel table c ch centre).verdict ≡ true → on_channel c ch centre c.kind ≡ true
  unfolding sixty_channel simple_of finish_of
  sent_on = go (on_channel c ch centre c.kind)
    where
      go : (b : Bool) → sent (on_it b).verdict ≡ true → b ≡ true
      go true e = refl
      go false e = absurd (false≢true e)

  module _ (h : holds_of (channel_range_of ch.width_hz centre) c.guarded ≡ false) where
    none : (a b : Bool) → (a && (b && holds_of (channel_range_of ch.width_hz centre) c.guarded)) ≡ true → ⊥
    none true true e = true≢false (sym e ∙ h)
    none true false e = false≢true e
    none false b e = false≢true e

    not_data : data_on_channel c ch centre ≡ true → ⊥
    not_data e =
        none (same_sideband c.sideband ch.sideband)
        (le (abs_of (sub binary64 c.dial_hz (sub binary64 centre ch.carrier_offset_hz))) ch.carrier_tolerance_hz) e

    only_cw : (kind : EmissionKind) → on_channel c ch centre kind ≡ true → (kind ≡ Cw) × (cw_on_channel c ch centre ≡ true)
    only_cw Data e = absurd (not_data e)
    only_cw Cw e = (refl, e)
    only_cw Test e = absurd (not_data e)
    only_cw NoEmission e = absurd (not_data e)

module _ (table : Table) (c : Case) (band : ℕ) (s : Segment) where
  abbrev in_it : Bool → Decision
  in_it b =
      cond b (simple_of (draft_inside c band s.range s.rule) Blocked TooWide (general_limit table).rule)
      (allowed_on_sixty (draft_inside c band s.range s.rule) (exceeds c.power (segment_watts_of table)) SixtySegment s.rule
      (record { channel_power = false; shared = false; segment_power = exceeds c.power (segment_watts_of table) }))

  allowed_sent : (b : Bool) → sent (warned b) ≡ true
  allowed_sent true = refl
  allowed_sent false = refl

  data_only : (kind : EmissionKind) (b : Bool) → (is_data kind && b) ≡ true → kind ≡ Data
  data_only Data b e = refl
  data_only Cw b e = absurd (false≢true e)
  data_only Test b e = absurd (false≢true e)
  data_only NoEmission b e = absurd (false≢true e)

  segment_25 :
      (((sixty_segment table c band s).code ≡ SixtySegment) × (sent (sixty_segment table c band s).verdict ≡ true))
      ⊎ ((c.kind ≡ Data) × ((sixty_segment table c band s).code ≡ TooWide) × ((sixty_segment table c band s).verdict ≡ Blocked))
  unfolding sixty_segment allowed_on_sixty simple_of finish_of
  segment_25 = go (is_data c.kind && wider c.width (general_limit table).max_bandwidth_hz) refl
    where
      go :
          (b : Bool) → (is_data c.kind && wider c.width (general_limit table).max_bandwidth_hz) ≡ b
          → (((in_it b).code ≡ SixtySegment) × (sent (in_it b).verdict ≡ true))
          ⊎ ((c.kind ≡ Data) × ((in_it b).code ≡ TooWide) × ((in_it b).verdict ≡ Blocked))
      go true e = inr (data_only c.kind (wider c.width (general_limit table).max_bandwidth_hz) e, refl, refl)
      go false e = inl (refl, allowed_sent (exceeds c.power (segment_watts_of table)))

-- ---- the place

module _ (table : Table) (c : Case) where
  place_differs : (ch : Channels) → Differs table c (place_before table c ch) (sixty_place table c ch)
  unfolding place_before sixty_place sixty_overlap
  place_differs ch = go (first_in table channels (ChannelOverlaps ch.width_hz c.guarded)) refl
    where
      off : Decision
      off = in_sixty_segment table c ch (simple_of (draft_of c (Some ch.band)) Blocked SixtyOffChannel ch.rule)

      over : Float → Bool → Option ℕ → Decision
      over centre b f =
          cond b (sixty_channel table c ch centre) (on_found f (λ i. sixty_segment table c ch.band (segment_at table i)) (sixty_channel table c ch centre))

      at : (i : ℕ) → first_in table channels (ChannelOverlaps ch.width_hz c.guarded) ≡ Some i
          → (b : Bool) → holds_of (channel_range_of ch.width_hz (centre_of (table.at channels i))) c.guarded ≡ b
          → (f : Option ℕ) → first_in table segments (BandHolds ch.band c.guarded) ≡ f
          → Differs table c (sixty_channel table c ch (centre_of (table.at channels i))) (over (centre_of (table.at channels i)) b f)
      at i o true h f g = inl refl
      at i o false h None g = inl refl
      at i o false h (Some k) g =
          inr
          (record {
            ch = ch;
            channel = i;
            overlaps = o;
            not_held = h;
            segment = k;
            held = g;
            was = channel_24 table c ch (centre_of (table.at channels i));
            was_allowed =
                λ e. only_cw table c ch (centre_of (table.at channels i)) h c.kind (sent_on table c ch (centre_of (table.at channels i)) e);
            is = segment_25 table c ch.band (segment_at table k);
          })

      go :
          (f : Option ℕ) → first_in table channels (ChannelOverlaps ch.width_hz c.guarded) ≡ f
          → Differs table c (on_found f (λ i. sixty_channel table c ch (centre_of (table.at channels i))) off)
          (on_found f
          (λ i.
          over (centre_of (table.at channels i)) (holds_of (channel_range_of ch.width_hz (centre_of (table.at channels i))) c.guarded)
          (first_in table segments (BandHolds ch.band c.guarded))) off)
      go (Some i) e = at i e _ refl _ refl
      go None e = inl refl

  -- ---- what stands around it

  on_test : (b : Bool) {old new : Decision} (d : Decision) → Differs table c old new → Differs table c (cond b old d) (cond b new d)
  on_test true d p = p
  on_test false d p = inl refl

  emission_differs : (ch : Channels) (x : Option (ℕ × ℕ)) → Differs table c (emission_before table c ch x) (sixty_emission table c ch x)
  unfolding emission_before sixty_emission
  emission_differs ch (Some (bits, rule)) = on_test (bit_of bits (kind_code c.kind)) _ (place_differs ch)
  emission_differs ch None = place_differs ch

  kind_differs : (ch : Channels) (kind : EmissionKind) → Differs table c (kind_before table c ch kind) (sixty_kind table c ch kind)
  unfolding kind_before sixty_kind
  kind_differs ch Data = emission_differs ch (sixty_of table.general)
  kind_differs ch Cw = emission_differs ch (sixty_of table.general)
  kind_differs ch Test = emission_differs ch (sixty_of table.general)
  kind_differs ch NoEmission = inl refl

  sixty_differs : (ch : Channels) → Differs table c (sixty_before table c ch) (sixty table c ch)
  unfolding sixty_before sixty
  sixty_differs ch = on_test (some_privilege table c c.air) _ (kind_differs ch c.kind)

  on_band_differs : (band : ℕ) (x : Option Channels) → Differs table c (on_band_before table c band x) (judge_on_band table c band x)
  unfolding on_band_before judge_on_band
  on_band_differs band (Some ch) = on_test (eqb ch.band band) _ (sixty_differs ch)
  on_band_differs band None = inl refl

  in_band_differs : (band : ℕ) → Differs table c (in_band_before table c band) (judge_in_band table c band)
  unfolding in_band_before judge_in_band
  in_band_differs band =
      go c.automatic (first_in table excluded (OfBand band)) (on_band_differs band (channels_of table.general))
    where
      go :
          {old new : Decision} (a : Bool) (f : Option ℕ) → Differs table c old new
          → Differs table c
          (cond a (on_found f (λ x. simple_of (draft_of c (Some band)) Blocked AutomaticExcluded (excluded_of (table.at excluded x)).rule) old) old)
          (cond a (on_found f (λ x. simple_of (draft_of c (Some band)) Blocked AutomaticExcluded (excluded_of (table.at excluded x)).rule) new) new)
      go true (Some i) p = inl refl
      go true None p = p
      go false f p = p

  -- Of every case under every table: the answer is the former one, or it changed as document 02 says.
  pub judge_differs : Differs table c (judge_before table c) (judge table c)
  unfolding judge_before judge
  judge_differs = go (first_in table bands (Holds c.guarded))
    where
      go :
          (f : Option ℕ)
          → Differs table c
          (on_found f (λ b. in_band_before table c (band_at table b).band) (simple_of (draft_of c (touching table c)) Blocked OutOfBand §97-301))
          (on_found f (λ b. judge_in_band table c (band_at table b).band) (simple_of (draft_of c (touching table c)) Blocked OutOfBand §97-301))
      go (Some b) = in_band_differs (band_at table b).band
      go None = inl refl
