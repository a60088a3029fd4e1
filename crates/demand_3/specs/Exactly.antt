-- The list and the verdict agree at every dial: a dial lies in a listed row outside the channel band exactly if the gate allows data there.
-- It is said of a table, a station as it is read, an audio range and a dial, whatever these were read from.
use Rattle.std.specs.Prelude.{Bool, true, false, not, ◌&&◌, List, ◌≡◌, eqb, Float, Option, Some, None}
use Rattle.std.proofs.Common.{true≢false, sym, ◌∙◌}
use Rattle.std.proofs.lemmas.Bool.{false≢true}
use Rattle.std.proofs.Math.Path.{refl, ap}
use Rattle.codes.specs.Code.{bit_of}
use Rattle.codes.specs.declared.ControlMode.{ControlMode}
use Rattle.codes.specs.declared.LicenseClass.{LicenseClass}
use Rattle.codes.specs.declared.Sideband.{Sideband}
use Rattle.codes.specs.declared.Direction.{Direction}
use Rattle.codes.specs.declared.EmissionKind.TheVariants.{Data}
use Rattle.profile.specs.Range.{holds_of, lengthy}
use Rattle.profile.specs.declared.Range.{Range}
use Rattle.air.specs.Air.{rf_range_of, guarded_of}
use Rattle.scan.specs.Laws.{first_at, some_true, and_true}
use Rattle.station.specs.declared.Situation.{Situation}
use Rattle.layout.specs.Layout.{bands}
use Rattle.table.specs.Table.{Table}
use Rattle.table.specs.Parts.{span_of, elsewhere_of}
use Rattle.find.specs.Question.{asks, some_in}
use Rattle.find.specs.declared.Question.TheVariants.{Holds, BandHolds}
use Rattle.rows.specs.Order.{any_row}
use Rattle.rows.specs.declared.SafeDial.{SafeDial}
use Rattle.dial_rows.specs.Dials.{request_of, data_rows, rows_of}
use Rattle.dial_rows.specs.declared.Request.{Request}
use Rattle.dials.specs.List.{rows_with_sideband, rows_with_license, rows_with_control}
use Rattle.part97.specs.Part97.{band_at, judge}
use Rattle.part97.specs.declared.Case.{Case}
use Rattle.verdict.specs.Verdict.{case_of, under_rules_of}
use Rattle.verdict.specs.Laws.{ready_met, under_met}
use Rattle.distance.specs.Distance.{is_outside}
use Rattle.eighths.specs.Grid.{Figure}
use Rattle.exact.specs.Air.{MarginFigures}
use Rattle.demand_3.specs.Words.{has_control, has_license, has_sideband, has_dial, prerequisites_met, positive_width}
use Rattle.demand_3.specs.Words.{channel_band_holds, channels_hold, on_channel_band, table_met, allows}
use Rattle.demand_3.specs.Tests.{and_both, same}
use Rattle.demand_3.specs.Order.{Figures}
use Rattle.demand_3.specs.Dial.{guarded_lengthy}
use Rattle.demand_3.specs.Listed.{guarded_at, lies, data_in, data_of_holds}
use Rattle.demand_3.specs.Rows.{rows_listed}
use Rattle.demand_3.specs.Judged.{Comparable, OffChannels, judged_in, judged_of_holds}
use Rattle.demand_3.specs.Same.{Match, lawful_judged, judged_lawful}
use Rattle.demand_3.specs.Grounds.{spans, tidied_of, comparable}

-- the rows for a station and an audio range, before they are sorted
abbrev pub rows_known : Table → Situation → Direction → Range → Sideband → LicenseClass → ControlMode → List SafeDial
rows_known table s direction audio sideband class control =
    rows_of table (request_of table.general class sideband control direction s.margin audio)

abbrev pub rows_for : Table → Situation → Direction → Range → List SafeDial
rows_for table s direction audio =
    rows_with_sideband s.sideband
    (λ sideband. rows_with_license s.license (λ class. rows_with_control s.control (rows_known table s direction audio sideband class)))

-- a dial lies in one of them, outside the channel band
abbrev pub listed_at : Table → Situation → Direction → Range → Float → Bool
listed_at table s direction audio dial =
    any_row (lies table.general.flags table.general.channel_band dial) (rows_for table s direction audio)

-- the gate allows data at a dial, under the table
abbrev pub allowed_at : Table → Situation → Direction → Range → Float → Bool
allowed_at table s direction audio dial = allows (under_rules_of table s (Some dial) Data direction audio)

-- ---- the prerequisites taken apart

pub record Prerequisites (table : Table) (s : Situation) : Type 0 where
  pub region : eqb s.itu_region table.general.region ≡ true
  pub control : ControlMode
  pub class : LicenseClass
  pub sideband : Sideband
  pub has_control_holds : s.control ≡ Some control
  pub has_license_holds : s.license ≡ Some class
  pub has_sideband_holds : s.sideband ≡ Some sideband

pub prerequisites : (table : Table) (s : Situation) → prerequisites_met table s ≡ true → Prerequisites table s
unfolding prerequisites_met
prerequisites table s e = go s.control s.license s.sideband refl refl refl e
  where
    here : Bool
    here = eqb s.itu_region table.general.region

    go :
        (x : Option ControlMode) (y : Option LicenseClass) (z : Option Sideband) → s.control ≡ x → s.license ≡ y → s.sideband ≡ z
        → (here && (has_control x && (has_license y && (has_sideband z && has_dial s.dial)))) ≡ true → Prerequisites table s
    go (Some k) (Some c) (Some b) p q r e =
        record {
          region = (and_true here (has_dial s.dial) e).0;
          control = k;
          class = c;
          sideband = b;
          has_control_holds = p;
          has_license_holds = q;
          has_sideband_holds = r;
        }
    go (Some k) (Some c) None p q r e = absurd (false≢true (and_true here false e).1)
    go (Some k) None z p q r e = absurd (false≢true (and_true here false e).1)
    go None y z p q r e = absurd (false≢true (and_true here false e).1)

-- ---- one list and one verdict

module _ (table : Table) (s : Situation) (direction : Direction) (audio : Range) (dial : Float) (P : Prerequisites table s) where
  abbrev pub requested : Request
  requested = request_of table.general P.class P.sideband P.control direction s.margin audio

  abbrev pub judged_case : Case
  judged_case = case_of s P.control P.class P.sideband dial Data direction audio

  matched : Match table requested judged_case dial
  unfolding request_of case_of
  matched = record { class = refl; guarded = refl; width = refl; automatic = refl; elsewhere = refl; general = λ i. refl }

  pub rows_are : rows_for table s direction audio ≡ rows_of table requested
  rows_are =
      ap
      (λ (x : Option Sideband).
      rows_with_sideband x (λ sb. rows_with_license s.license (λ cl. rows_with_control s.control (rows_known table s direction audio sb cl))))
      P.has_sideband_holds
      ∙ ap (λ (x : Option LicenseClass). rows_with_license x (λ cl. rows_with_control s.control (rows_known table s direction audio P.sideband cl))) P.has_license_holds
      ∙ ap (λ (x : Option ControlMode). rows_with_control x (rows_known table s direction audio P.sideband P.class)) P.has_control_holds

  pub ruling : under_rules_of table s (Some dial) Data direction audio ≡ judge table judged_case
  ruling =
      sym
      (under_met table s (Some dial) Data direction audio judged_case
      (sym
      (ready_met table.general s (Some dial) Data direction audio P.region P.control P.has_control_holds P.class P.has_license_holds P.sideband
      P.has_sideband_holds dial refl)))

  kind_data : judged_case.kind ≡ Data
  unfolding case_of
  kind_data = refl

  -- the channel band does not hold the guarded signal, so the first band that does is none of it
  pub off_channels : on_channel_band table s audio dial ≡ false → OffChannels table judged_case
  unfolding on_channel_band case_of channel_band_holds is_outside asks
  off_channels off b found = go (bit_of table.general.flags 2) (eqb (band_at table b).band table.general.channel_band) refl refl
    where
      signal : Range
      signal = guarded_of s.margin (rf_range_of dial P.sideband audio)

      not_held : channel_band_holds table signal ≡ false
      not_held = sym (ap (channels_hold table audio s.margin dial) P.has_sideband_holds) ∙ off

      go :
          (x y : Bool) → bit_of table.general.flags 2 ≡ x → eqb (band_at table b).band table.general.channel_band ≡ y → not (x && y) ≡ true
      go true true p n =
          let h = first_at (λ k. asks (Holds signal) (table.at bands k)) (table.count bands) b found in
          absurd
          (true≢false
          (sym
          (and_both (bit_of table.general.flags 2) (some_in table bands (BandHolds table.general.channel_band signal)) p
          (some_true (λ k. asks (BandHolds table.general.channel_band signal) (table.at bands k)) (table.count bands) b h.below
          (and_both (eqb (table.at bands b).band table.general.channel_band) (holds_of (span_of (table.at bands b)) signal) n h.passes)))
          ∙ not_held))
      go true false p n = refl
      go false y p n = refl

  module _
      (T : table_met table ≡ true) (D : Figure dial) (M : MarginFigures s.margin) (A : Figures audio) (W : positive_width s audio ≡ true)
      (off : on_channel_band table s audio dial ≡ false)
    where
      long : lengthy (guarded_at requested dial) ≡ true
      unfolding request_of positive_width
      long = guarded_lengthy dial s.margin audio D M A P.sideband W

      limit_compares : Comparable (elsewhere_of table.general) judged_case.width
      unfolding case_of
      limit_compares = comparable table T audio A

      exactly : listed_at table s direction audio dial ≡ allowed_at table s direction audio dial
      unfolding request_of
      exactly =
          let flags = table.general.flags in
          let channel = table.general.channel_band in
          ap (any_row (lies flags channel dial)) rows_are ∙ rows_listed table requested dial
          ∙ same (any_row (lies flags channel dial) (data_rows table requested)) (allows (judge table judged_case))
          (λ h.
          judged_in table judged_case limit_compares (off_channels off) kind_data
          (lawful_judged table requested judged_case dial D M A (spans table T) long (tidied_of table T) matched (off_channels off)
          (data_of_holds flags channel requested dial D M A table (spans table T) long h)))
          (λ h.
          data_in flags channel requested dial D M A table (spans table T) long
          (judged_lawful table requested judged_case dial D M A (spans table T) long (tidied_of table T) matched (off_channels off)
          (judged_of_holds table judged_case limit_compares (off_channels off) kind_data h)))
          ∙ ap allows (sym ruling)

-- For a tidy table in force, in eighths, a station with its prerequisites, a positive guarded width, and a dial off the channel band; margins,
-- audio range and dial are in eighths and at most 2^40 in size.
pub listed_exactly :
    (table : Table) (s : Situation) (direction : Direction) (audio : Range) (dial : Float)
    → table_met table ≡ true → prerequisites_met table s ≡ true → MarginFigures s.margin → Figures audio → Figure dial
    → positive_width s audio ≡ true → on_channel_band table s audio dial ≡ false
    → listed_at table s direction audio dial ≡ allowed_at table s direction audio dial
listed_exactly table s direction audio dial T P M A D W off = exactly table s direction audio dial (prerequisites table s P) T D M A W off
