-- What holds of every decision that Part 97 makes: it has a code, and is no refusal. So what judging finds has a code.
use Rattle.std.specs.Prelude.{ℕ, Bool, true, false, cond, ◌&&◌, ◌≡◌, eqb, Float, Option, Some, None, IsSome, Ok}
use Rattle.table.specs.declared.Elsewhere.{Elsewhere}
use Rattle.std.proofs.Math.Bool.{not}
use Rattle.std.proofs.Common.{true≢false, sym, ◌∙◌}
use Rattle.std.proofs.Math.Path.{refl, ap}
use Rattle.scan.specs.First.{on_found}
use Rattle.codes.specs.Code.{kind_code, bit_of}
use Rattle.codes.specs.declared.EmissionKind.{EmissionKind}
use Rattle.codes.specs.declared.EmissionKind.TheVariants.{Data, Cw, Test, Nothing as NoEmission}
use Rattle.profile.specs.Range.{range, holds_of, channel_range_of}
use Rattle.profile.specs.declared.Range.{Range}
use Rattle.air.specs.Air.{wider}
use Rattle.layout.specs.Layout.{segments, channels, automatic, excluded, bands}
use Rattle.table.specs.Table.{Table}
use Rattle.table.specs.Parts.{channels_of, sixty_of, elsewhere_of, centre_of}
use Rattle.table.specs.declared.Segment.{Segment}
use Rattle.table.specs.declared.Channels.{Channels}
use Rattle.find.specs.Question.{first_in}
use Rattle.find.specs.declared.Question.TheVariants.{Holds, OfBand, BandHolds, ChannelOverlaps}
use Rattle.automatic_97_221.specs.Automatic.{responds}
use Rattle.decision.specs.Decision.{finish_of, simple_of}
use Rattle.decision.specs.declared.Code.{Code}
use Rattle.decision.specs.declared.Draft.{Draft}
use Rattle.decision.specs.declared.Decision.{Decision}
use Rattle.part97.specs.Part97.{segment_at, general_limit, limit_for, band_at, on_channel, is_data, some_privilege, privileged_of, under_privilege, draft_of, draft_inside}
use Rattle.part97.specs.Part97.{advised, automatic_elsewhere, automatic_data, nearest_up_to, on_nearest, outside_segments, inside_segment}
use Rattle.part97.specs.Part97.{judge_data, allowed_on_sixty, sixty_channel, sixty_segment, in_sixty_segment, sixty_overlap, sixty_place}
use Rattle.part97.specs.Part97.{sixty_emission, sixty_kind, sixty, emitted, keyed, off_sixty, judge_on_band, judge_in_band, judge}
use Rattle.part97.specs.Finding.{concluded_over, concluded}
use Rattle.part97.specs.declared.Case.{Case}
use Rattle.part97.specs.declared.Finding.{Finding}
use Rattle.part97.specs.declared.Privileged.{Privileged}
use Rattle.part97.specs.declared.Privileged.TheVariants.{Granted, Forbidden, Unheld}
use Rattle.decision.specs.Number.{code_number}

-- a decision that has a code and is no refusal
pub record Judged (d : Decision) : Type 0 where
  pub coded : eqb (code_number d.code) 0 ≡ false
  pub unrefused : d.refusal ≡ Ok tt

-- it goes through a branch, through a scan's answer and through a privilege
on_cond : (t : Bool) {a b : Decision} → Judged a → Judged b → Judged (cond t a b)
on_cond true p q = p
on_cond false p q = q

on_found_holds : (f : Option ℕ) {g : ℕ → Decision} {a : Decision} → ((i : ℕ) → Judged (g i)) → Judged a → Judged (on_found f g a)
on_found_holds (Some i) p q = p i
on_found_holds None p q = q

on_nearest_holds : (x : Option (ℕ × Float)) {g : ℕ → Decision} {a : Decision} → ((i : ℕ) → Judged (g i)) → Judged a → Judged (on_nearest x g a)
on_nearest_holds (Some (i, by)) p q = p i
on_nearest_holds None p q = q

on_privilege : (x : Privileged) (d : Draft) {a : Decision} → Judged a → Judged (under_privilege x d a)
unfolding simple_of finish_of
on_privilege Granted d p = p
on_privilege Forbidden d p = record { coded = refl; unrefused = refl }
on_privilege Unheld d p = record { coded = refl; unrefused = refl }

module _ (table : Table) (c : Case) where
  elsewhere_judged : (d : Draft) (e : Option Elsewhere) → Judged (automatic_elsewhere table c d e)
  unfolding automatic_elsewhere simple_of finish_of advised allowed_on_sixty
  elsewhere_judged d (Some e) =
      on_cond (wider c.width e.max_bandwidth_hz) (record { coded = refl; unrefused = refl })
      (on_cond (e.requires_response && not (responds c.direction)) (record { coded = refl; unrefused = refl }) (record { coded = refl; unrefused = refl }))
  elsewhere_judged d None = record { coded = refl; unrefused = refl }

  pub automatic_judged : (band : ℕ) (r : Range) (rule : ℕ) → Judged (automatic_data table c band r rule)
  unfolding automatic_data simple_of finish_of advised allowed_on_sixty
  automatic_judged band r rule =
      on_found_holds (first_in table automatic (Holds c.guarded)) (λ i. record { coded = refl; unrefused = refl })
      (elsewhere_judged (draft_inside c band r rule) (elsewhere_of table.general))

  outside_judged : (band : ℕ) → Judged (outside_segments table c band)
  unfolding outside_segments simple_of finish_of advised allowed_on_sixty
  outside_judged band = on_nearest_holds (nearest_up_to table c (table.count segments)) (λ i. record { coded = refl; unrefused = refl }) (record { coded = refl; unrefused = refl })

  inside_judged : (band : ℕ) (s : Segment) → Judged (inside_segment table c band s)
  unfolding inside_segment simple_of finish_of advised allowed_on_sixty
  inside_judged band s =
      on_privilege (privileged_of table c Data) (draft_inside c band s.range s.rule)
      (on_cond c.automatic (automatic_judged band s.range s.rule) (record { coded = refl; unrefused = refl }))

  pub data_judged : (band : ℕ) (f : Option ℕ) → Judged (judge_data table c band f)
  unfolding judge_data simple_of finish_of advised allowed_on_sixty
  data_judged band f =
      on_cond (wider c.width (limit_for table f).max_bandwidth_hz) (record { coded = refl; unrefused = refl })
      (on_found_holds f (λ i. inside_judged band (segment_at table i)) (outside_judged band))

  pub emitted_judged : (band : ℕ) (kind : EmissionKind) → Judged (emitted table c band kind)
  unfolding simple_of finish_of
  emitted_judged band kind = on_privilege (privileged_of table c kind) (draft_of c (Some band)) (record { coded = refl; unrefused = refl })

  pub keyed_judged : (band : ℕ) → Judged (keyed table c band)
  unfolding simple_of finish_of
  keyed_judged band = on_cond (some_privilege table c (range c.dial_hz c.dial_hz)) (record { coded = refl; unrefused = refl }) (record { coded = refl; unrefused = refl })

  off_judged : (band : ℕ) (kind : EmissionKind) → Judged (off_sixty table c band kind)
  off_judged band Data = data_judged band (first_in table segments (Holds c.guarded))
  off_judged band Cw = emitted_judged band Cw
  off_judged band Test = emitted_judged band Test
  off_judged band NoEmission = keyed_judged band

  channel_judged : (ch : Channels) (centre : Float) → Judged (sixty_channel table c ch centre)
  unfolding sixty_channel simple_of finish_of advised allowed_on_sixty
  channel_judged ch centre = on_cond (on_channel c ch centre c.kind) (record { coded = refl; unrefused = refl }) (record { coded = refl; unrefused = refl })

  segment_judged : (band : ℕ) (s : Segment) → Judged (sixty_segment table c band s)
  unfolding sixty_segment simple_of finish_of advised allowed_on_sixty
  segment_judged band s = on_cond (is_data c.kind && wider c.width (general_limit table).max_bandwidth_hz) (record { coded = refl; unrefused = refl })
      (record { coded = refl; unrefused = refl })

  in_segment_judged : (ch : Channels) {a : Decision} → Judged a → Judged (in_sixty_segment table c ch a)
  in_segment_judged ch s =
      on_found_holds (first_in table segments (BandHolds ch.band c.guarded)) (λ i. segment_judged ch.band (segment_at table i)) s

  overlap_judged : (ch : Channels) (centre : Float) → Judged (sixty_overlap table c ch centre)
  unfolding sixty_overlap
  overlap_judged ch centre =
      on_cond (holds_of (channel_range_of ch.width_hz centre) c.guarded) (channel_judged ch centre) (in_segment_judged ch (channel_judged ch centre))

  place_judged : (ch : Channels) → Judged (sixty_place table c ch)
  unfolding sixty_place simple_of finish_of advised allowed_on_sixty
  place_judged ch =
      on_found_holds (first_in table channels (ChannelOverlaps ch.width_hz c.guarded)) (λ i. overlap_judged ch (centre_of (table.at channels i)))
      (in_segment_judged ch (record { coded = refl; unrefused = refl }))

  emission_judged : (ch : Channels) (x : Option (ℕ × ℕ)) → Judged (sixty_emission table c ch x)
  unfolding sixty_emission simple_of finish_of advised allowed_on_sixty
  emission_judged ch (Some (bits, rule)) = on_cond (bit_of bits (kind_code c.kind)) (place_judged ch) (record { coded = refl; unrefused = refl })
  emission_judged ch None = place_judged ch

  kind_judged : (ch : Channels) (kind : EmissionKind) → Judged (sixty_kind table c ch kind)
  unfolding sixty_kind simple_of finish_of advised allowed_on_sixty
  kind_judged ch Data = emission_judged ch (sixty_of table.general)
  kind_judged ch Cw = emission_judged ch (sixty_of table.general)
  kind_judged ch Test = emission_judged ch (sixty_of table.general)
  kind_judged ch NoEmission = record { coded = refl; unrefused = refl }

  pub sixty_judged : (ch : Channels) → Judged (sixty table c ch)
  unfolding sixty simple_of finish_of advised allowed_on_sixty
  sixty_judged ch = on_cond (some_privilege table c c.air) (kind_judged ch c.kind) (record { coded = refl; unrefused = refl })

  on_band_judged : (band : ℕ) (x : Option Channels) → Judged (judge_on_band table c band x)
  unfolding judge_on_band
  on_band_judged band (Some ch) = on_cond (eqb ch.band band) (sixty_judged ch) (off_judged band c.kind)
  on_band_judged band None = off_judged band c.kind

  in_band_judged : (band : ℕ) → Judged (judge_in_band table c band)
  unfolding judge_in_band simple_of finish_of advised allowed_on_sixty
  in_band_judged band =
      on_cond c.automatic
      (on_found_holds (first_in table excluded (OfBand band)) (λ x. record { coded = refl; unrefused = refl }) (on_band_judged band (channels_of table.general)))
      (on_band_judged band (channels_of table.general))

  pub judge_judged : Judged (judge table c)
  unfolding judge simple_of finish_of advised allowed_on_sixty
  judge_judged =
      on_found_holds (first_in table bands (Holds c.guarded)) (λ b. in_band_judged (band_at table b).band) (record { coded = refl; unrefused = refl })

-- ---- what judging finds

coded_some : (code : Option Code) → eqb (code_number code) 0 ≡ false → IsSome code
coded_some (Some c) e = refl
coded_some None e = absurd (true≢false e)

-- A finding has the code of the decision that it leads to: so one by which Part 97 decides has a code.
module _ (table : Table) (c : Case) (f : Finding) where
  concluded_code : (x : Option Range) → (concluded_over table c f x).code ≡ f.code
  unfolding concluded_over finish_of advised
  concluded_code (Some r) = refl
  concluded_code None = refl

  pub finding_coded : (d : Decision) → concluded table c f ≡ d → Judged d → IsSome f.code
  unfolding concluded
  finding_coded d e j =
      coded_some f.code (ap (λ (x : Option Code). eqb (code_number x) 0) (sym (concluded_code f.over) ∙ ap (λ (x : Decision). x.code) e) ∙ j.coded)
