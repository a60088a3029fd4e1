-- The way a band is judged: closed to the station, on 60 m, or off it; each asked once.
use Rattle.std.specs.Prelude.{ℕ, Bool, true, false, cond, ◌≡◌, refl, eqb, Option, Some, None}
use Rattle.layout.specs.Layout.{excluded}
use Rattle.table.specs.Parts.{excluded_of, channels_of}
use Rattle.table.specs.Table.{Table}
use Rattle.table.specs.declared.Channels.{Channels}
use Rattle.find.specs.Question.{first_in}
use Rattle.find.specs.declared.Question.TheVariants.{OfBand}
use Rattle.decision.specs.Decision.{simple_of}
use Rattle.decision.specs.declared.Decision.{Decision}
use Rattle.decision.specs.declared.Verdict.TheVariants.{Blocked}
use Rattle.decision.specs.Reason.{AutomaticExcluded}
use Rattle.part97.specs.declared.Case.{Case}
use Rattle.part97.specs.Part97.{draft_of, off_sixty, sixty, judge_on_band, judge_in_band}

-- 60 m is the band that has the channels' number
unfoldable pub sixty_here : ℕ → Option Channels → Option Channels
sixty_here band (Some ch) = cond (eqb ch.band band) (Some ch) None
sixty_here band None = None

-- the rule of an excluded band
abbrev pub excluded_by : Table → Option ℕ → Option ℕ
excluded_by table (Some x) = Some (excluded_of (table.at excluded x)).rule
excluded_by table None = None

-- an excluded band, for a station to which 97.221 applies
unfoldable pub closed_by : Table → Case → ℕ → Option ℕ
closed_by table c band = cond c.automatic (excluded_by table (first_in table excluded (OfBand band))) None

module _ (table : Table) (c : Case) (band : ℕ) where
  -- judging goes on by what the band is
  abbrev pub on_band_by : Option Channels → Decision
  on_band_by (Some ch) = sixty table c ch
  on_band_by None = off_sixty table c band c.kind

  pub on_band_by_holds : (channels : Option Channels) → judge_on_band table c band channels ≡ on_band_by (sixty_here band channels)
  unfolding judge_on_band sixty_here
  on_band_by_holds (Some ch) = go (eqb ch.band band)
    where
      go : (b : Bool) → cond b (sixty table c ch) (off_sixty table c band c.kind) ≡ on_band_by (cond b (Some ch) None)
      go true = refl
      go false = refl
  on_band_by_holds None = refl

  -- and by whether it is closed
  abbrev pub in_band_by : Option ℕ → Decision
  in_band_by (Some rule) = simple_of (draft_of c (Some band)) Blocked AutomaticExcluded rule
  in_band_by None = judge_on_band table c band (channels_of table.general)

  in_band_when :
      (b : Bool) → c.automatic ≡ b → (f : Option ℕ) → first_in table excluded (OfBand band) ≡ f
      → judge_in_band table c band ≡ in_band_by (closed_by table c band)
  unfolding judge_in_band closed_by
  in_band_when true a (Some x) e = rw a (rw e)
  in_band_when true a None e = rw a (rw e)
  in_band_when false a f e = rw a

  pub in_band_by_holds : judge_in_band table c band ≡ in_band_by (closed_by table c band)
  in_band_by_holds = in_band_when c.automatic refl (first_in table excluded (OfBand band)) refl
