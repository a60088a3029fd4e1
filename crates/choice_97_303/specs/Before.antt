-- Judging with the choice that stood before document 02, 4: for the theorem beside this page, and for nothing else.
use Rattle.std.specs.Prelude.{ℕ, cond, eqb, Option, Some, None}
use Rattle.codes.specs.Code.{kind_code, bit_of}
use Rattle.codes.specs.declared.EmissionKind.{EmissionKind}
use Rattle.codes.specs.declared.EmissionKind.TheVariants.{Data, Cw, Test, Nothing as NoEmission}
use Rattle.scan.specs.First.{on_found}
use Rattle.layout.specs.Layout.{bands, channels, excluded}
use Rattle.table.specs.Table.{Table}
use Rattle.table.specs.Parts.{centre_of, channels_of, excluded_of, sixty_of}
use Rattle.table.specs.declared.Channels.{Channels}
use Rattle.find.specs.Question.{first_in}
use Rattle.find.specs.declared.Question.TheVariants.{Holds, OfBand, ChannelOverlaps}
use Rattle.decision.specs.Decision.{simple_of}
use Rattle.decision.specs.Number.{§97-301}
use Rattle.decision.specs.declared.Verdict.TheVariants.{Legal, Blocked}
use Rattle.decision.specs.Reason.{Permitted, Privilege, OutOfBand, AutomaticExcluded, SixtyEmission, SixtyOffChannel}
use Rattle.decision.specs.declared.Decision.{Decision}
use Rattle.part97.specs.Part97.{band_at, draft_of, some_privilege, off_sixty, sixty_channel, in_sixty_segment, touching}
use Rattle.part97.specs.declared.Case.{Case}

-- "An overlapping channel comes before the segment." (document 01)
unfoldable pub place_before : Table → Case → Channels → Decision
place_before table c ch =
    on_found (first_in table channels (ChannelOverlaps ch.width_hz c.guarded))
    (λ i. sixty_channel table c ch (centre_of (table.at channels i)))
    (in_sixty_segment table c ch (simple_of (draft_of c (Some ch.band)) Blocked SixtyOffChannel ch.rule))

-- what stands around it, as Part97 has it around `sixty_place`
unfoldable pub emission_before : Table → Case → Channels → Option (ℕ × ℕ) → Decision
emission_before table c ch (Some (bits, rule)) =
    cond (bit_of bits (kind_code c.kind)) (place_before table c ch) (simple_of (draft_of c (Some ch.band)) Blocked SixtyEmission rule)
emission_before table c ch None = place_before table c ch

unfoldable pub kind_before : Table → Case → Channels → EmissionKind → Decision
kind_before table c ch Data = emission_before table c ch (sixty_of table.general)
kind_before table c ch Cw = emission_before table c ch (sixty_of table.general)
kind_before table c ch Test = emission_before table c ch (sixty_of table.general)
kind_before table c ch NoEmission = simple_of (draft_of c (Some ch.band)) Legal Permitted §97-301

unfoldable pub sixty_before : Table → Case → Channels → Decision
sixty_before table c ch =
    cond (some_privilege table c c.air) (kind_before table c ch c.kind)
    (simple_of (draft_of c (Some ch.band)) Blocked Privilege §97-301)

unfoldable pub on_band_before : Table → Case → ℕ → Option Channels → Decision
on_band_before table c band (Some ch) = cond (eqb ch.band band) (sixty_before table c ch) (off_sixty table c band c.kind)
on_band_before table c band None = off_sixty table c band c.kind

unfoldable pub in_band_before : Table → Case → ℕ → Decision
in_band_before table c band =
    cond c.automatic
    (on_found (first_in table excluded (OfBand band))
    (λ x. simple_of (draft_of c (Some band)) Blocked AutomaticExcluded (excluded_of (table.at excluded x)).rule)
    (on_band_before table c band (channels_of table.general)))
    (on_band_before table c band (channels_of table.general))

unfoldable pub judge_before : Table → Case → Decision
judge_before table c =
    on_found (first_in table bands (Holds c.guarded)) (λ b. in_band_before table c (band_at table b).band)
    (simple_of (draft_of c (touching table c)) Blocked OutOfBand §97-301)
