-- What judging finds, and the decision that follows from it. A finding is small: the climb over the rungs asks no more of it
-- than whether it blocks.
use Rattle.std.specs.Prelude.{ℕ, Bool, ◌≡◌, Option, Some, None}
use Rattle.std.proofs.Math.Path.{refl}
use Rattle.profile.specs.declared.Range.{Range}
use Rattle.table.specs.Table.{Table}
use Rattle.decision.specs.Decision.{no_notes, no_marks, no_advice, finish_of, simple_of}
use Rattle.decision.specs.declared.Verdict.{Verdict}
use Rattle.decision.specs.declared.Verdict.TheVariants.{Legal, Blocked}
use Rattle.decision.specs.declared.Code.{Code}
use Rattle.decision.specs.Reason.{OutsideDataSegment}
use Rattle.decision.specs.declared.Overshoot.{Overshoot}
use Rattle.decision.specs.declared.SixtyNotes.{SixtyNotes}
use Rattle.decision.specs.declared.Draft.{Draft}
use Rattle.decision.specs.declared.Advice.{Advice}
use Rattle.decision.specs.declared.Decision.{Decision}
use Rattle.part97.specs.declared.Case.{Case}
use Rattle.part97.specs.declared.Finding.{Finding}
use Rattle.part97.specs.Part97.{draft_of, draft_inside, draft_automatic, advised, warned, allowed_on_sixty}

-- ---- the findings

-- on a band or on none, against no segment
unfoldable pub on_band : Option ℕ → Verdict → Option Code → ℕ → Finding
on_band band verdict code rule =
    record {
      band = band;
      segment = None;
      automatic_segment = None;
      verdict = verdict;
      code = code;
      rule = rule;
      overshoot = None;
      sixty = no_marks;
      over = None;
    }

-- blocked, against a segment that has a rule
unfoldable pub in_segment : ℕ → Range → ℕ → Option Code → ℕ → Finding
in_segment band segment own code rule =
    record {
      band = Some band;
      segment = Some (segment, own);
      automatic_segment = None;
      verdict = Blocked;
      code = code;
      rule = rule;
      overshoot = None;
      sixty = no_marks;
      over = None;
    }

-- outside the nearest segment
unfoldable pub beyond_segment : ℕ → Range → ℕ → Option Overshoot → Finding
beyond_segment band segment own overshoot =
    record {
      band = Some band;
      segment = Some (segment, own);
      automatic_segment = None;
      verdict = Blocked;
      code = OutsideDataSegment;
      rule = own;
      overshoot = overshoot;
      sixty = no_marks;
      over = None;
    }

-- lawful data in a segment, and perhaps in one for automatic control: power limits and the plan are asked over a range
unfoldable pub lawful_in : ℕ → Range → ℕ → Option Range → Range → Option Code → ℕ → Finding
lawful_in band segment own inside r code rule =
    record {
      band = Some band;
      segment = Some (segment, own);
      automatic_segment = inside;
      verdict = Legal;
      code = code;
      rule = rule;
      overshoot = None;
      sixty = no_marks;
      over = Some r;
    }

-- allowed on 60 m, with its notes
unfoldable pub on_sixty : ℕ → Range → Bool → Option Code → ℕ → SixtyNotes → Finding
on_sixty band segment warn code own marks =
    record {
      band = Some band;
      segment = Some (segment, own);
      automatic_segment = None;
      verdict = warned warn;
      code = code;
      rule = own;
      overshoot = None;
      sixty = marks;
      over = None;
    }

-- ---- the decision

unfoldable pub draft_at : Case → Finding → Draft
draft_at c f =
    record {
      audio = c.audio;
      width = c.width;
      air = Some c.air;
      band = f.band;
      segment = f.segment;
      automatic_segment = f.automatic_segment;
    }

abbrev pub marked_of : SixtyNotes → Advice
marked_of sixty = record { guidance = None; notes = no_notes; sixty = sixty }

unfoldable pub concluded_over : Table → Case → Finding → Option Range → Decision
concluded_over table c f (Some r) = advised table c r (draft_at c f) f.code f.rule
concluded_over table c f None = finish_of (draft_at c f) f.verdict f.code f.rule f.overshoot (marked_of f.sixty)

unfoldable pub concluded : Table → Case → Finding → Decision
concluded table c f = concluded_over table c f f.over

-- ---- each finding, concluded

module _ (table : Table) (c : Case) where
  pub on_band_holds : (band : Option ℕ) (verdict : Verdict) (code : Option Code) (rule : ℕ)
      → concluded table c (on_band band verdict code rule) ≡ simple_of (draft_of c band) verdict code rule
  unfolding concluded concluded_over draft_at on_band draft_of simple_of no_advice
  on_band_holds band verdict code rule = refl

  pub in_segment_holds : (band : ℕ) (segment : Range) (own : ℕ) (code : Option Code) (rule : ℕ)
      → concluded table c (in_segment band segment own code rule) ≡ simple_of (draft_inside c band segment own) Blocked code rule
  unfolding concluded concluded_over draft_at in_segment draft_inside simple_of no_advice
  in_segment_holds band segment own code rule = refl

  pub beyond_segment_holds : (band : ℕ) (segment : Range) (own : ℕ) (overshoot : Option Overshoot)
      → concluded table c (beyond_segment band segment own overshoot)
      ≡ finish_of (draft_inside c band segment own) Blocked OutsideDataSegment own overshoot no_advice
  unfolding concluded concluded_over draft_at beyond_segment draft_inside no_advice
  beyond_segment_holds band segment own over = refl

  pub lawful_in_holds : (band : ℕ) (segment : Range) (own : ℕ) (r : Range) (code : Option Code) (rule : ℕ)
      → concluded table c (lawful_in band segment own None r code rule) ≡ advised table c r (draft_inside c band segment own) code rule
  unfolding concluded concluded_over draft_at lawful_in draft_inside
  lawful_in_holds band segment own r code rule = refl

  pub lawful_automatic : (band : ℕ) (segment : Range) (own : ℕ) (inside r : Range) (code : Option Code) (rule : ℕ)
      → concluded table c (lawful_in band segment own (Some inside) r code rule)
      ≡ advised table c r (draft_automatic c band segment own inside) code rule
  unfolding concluded concluded_over draft_at lawful_in draft_automatic
  lawful_automatic band segment own inside r code rule = refl

  pub on_sixty_holds : (band : ℕ) (segment : Range) (warn : Bool) (code : Option Code) (own : ℕ) (marks : SixtyNotes)
      → concluded table c (on_sixty band segment warn code own marks) ≡ allowed_on_sixty (draft_inside c band segment own) warn code own marks
  unfolding concluded concluded_over draft_at on_sixty draft_inside allowed_on_sixty
  on_sixty_holds band segment warn code own marks = refl
