-- How an answer is put together from its parts.
use Rattle.std.specs.Prelude.{ℕ, Bool, true, false, List, replicate, Option, Some, None, Ok, Err}
use Rattle.codes.specs.Refusal.{Checked}
use Rattle.codes.specs.declared.Refusal.{Refusal}
use Rattle.decision.specs.declared.Verdict.{Verdict}
use Rattle.decision.specs.declared.Verdict.TheVariants.{Legal, Warning, Blocked}
use Rattle.decision.specs.declared.Code.{Code}
use Rattle.decision.specs.declared.Overshoot.{Overshoot}
use Rattle.decision.specs.declared.SixtyNotes.{SixtyNotes}
use Rattle.decision.specs.declared.Draft.{Draft}
use Rattle.decision.specs.declared.Advice.{Advice}
use Rattle.decision.specs.declared.Decision.{Decision}

abbrev pub no_marks : SixtyNotes
no_marks = record { channel_power = false; shared = false; segment_power = false }

-- "notes, one mark for each of up to 256 power records": none of them
abbrev pub no_notes : List ℕ
no_notes = replicate 256 0

unfoldable pub no_advice : Advice
no_advice = record { guidance = None; notes = no_notes; sixty = no_marks }

-- not permitted: nothing is sent
abbrev pub is_blocked : Verdict → Bool
is_blocked Legal = false
is_blocked Warning = false
is_blocked Blocked = true

-- a decision from its draft
unfoldable pub finish_of : Draft → Verdict → Option Code → ℕ → Option Overshoot → Advice → Decision
finish_of d verdict code rule overshoot advice =
    record {
      refusal = Ok tt;
      verdict = verdict;
      code = code;
      rule = Some rule;
      band = d.band;
      segment = d.segment;
      automatic_segment = d.automatic_segment;
      audio = Some d.audio;
      width = Some d.width;
      air = d.air;
      overshoot = overshoot;
      advice = advice;
    }

-- with no overshoot and nothing to say besides
unfoldable pub simple_of : Draft → Verdict → Option Code → ℕ → Decision
unfolding finish_of no_advice
simple_of d verdict code rule = finish_of d verdict code rule None no_advice

-- no decision: Blocked, all else absent, so that nobody may take it for a permission
abbrev pub absent_of : Checked → Decision
absent_of refusal =
    record {
      refusal = refusal;
      verdict = Blocked;
      code = None;
      rule = None;
      band = None;
      segment = None;
      automatic_segment = None;
      audio = None;
      width = None;
      air = None;
      overshoot = None;
      advice = no_advice;
    }

-- "A refusal gives its number, Blocked, all else absent"
unfoldable pub refused_of : Refusal → Decision
refused_of n = absent_of (Err n)
