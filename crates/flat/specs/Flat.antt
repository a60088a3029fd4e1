-- The records of the boundary: the station record and the edges as they arrive, and an answer as it leaves, field by field.
-- Whoever forgets to look at a mark ends on the safe side: an absent part is all zero where zero permits nothing; an absent limit is
-- blocked, an absent rung is -1, and a distance from nothing is infinite.
use Rattle.std.specs.Prelude.{ℕ, Bool, cond, Float, Option, Some, None}
use Rattle.profile.specs.declared.Range.{Range}
use Rattle.figures.specs.Figure.{zero_hz}
use Rattle.profile.specs.Range.{range}
use Rattle.air.specs.Air.{margins}
use Rattle.occupancy.specs.declared.Edges.{Edges}
use Rattle.station.specs.declared.StationRecord.{StationRecord}
use Rattle.decision.specs.Number.{verdict_number, code_number, edge_number, overshoot_number, guidance_number}
use Rattle.decision.specs.declared.Overshoot.{Overshoot}
use Rattle.decision.specs.declared.Overshoot.TheVariants.{Beyond, TooClose}
use Rattle.decision.specs.declared.Guidance.{Guidance}
use Rattle.decision.specs.declared.Guidance.TheVariants.{Avoid, Inside, Outside}
use Rattle.decision.specs.declared.Decision.{Decision}
use Rattle.numbers.specs.Refusal.{refusal_number}
use Rattle.ceiling.specs.Ceiling.{rung_number, limited, limit_of}
use Rattle.ceiling.specs.declared.CeilingAnswer.{CeilingAnswer}
use Rattle.walk.specs.declared.WalkState.{WalkState}
use Rattle.walk.specs.declared.WalkAnswer.{WalkAnswer}
use Rattle.walk_step.specs.declared.StepAnswer.{StepAnswer}
use Rattle.flat.specs.declared.FlatStation.{FlatStation}
use Rattle.flat.specs.declared.FlatEdges.{FlatEdges}
use Rattle.flat.specs.declared.FlatWalk.{FlatWalk}
use Rattle.flat.specs.declared.FlatWalkAnswer.{FlatWalkAnswer}
use Rattle.flat.specs.declared.FlatStep.{FlatStep}
use Rattle.flat.specs.declared.FlatRange.{FlatRange}
use Rattle.flat.specs.declared.FlatSegment.{FlatSegment}
use Rattle.flat.specs.declared.FlatOvershoot.{FlatOvershoot}
use Rattle.flat.specs.declared.FlatGuidance.{FlatGuidance}
use Rattle.flat.specs.declared.FlatRule.{FlatRule}
use Rattle.flat.specs.declared.FlatBand.{FlatBand}
use Rattle.flat.specs.declared.FlatDecision.{FlatDecision}
use Rattle.flat.specs.declared.FlatCeiling.{FlatCeiling}

-- the station record that arrives, and one that leaves
unfoldable pub station_record_of : FlatStation → StationRecord
station_record_of s =
    record {
      policy = s.policy;
      control = s.control;
      license = s.license;
      sideband = s.sideband;
      itu_region = s.itu_region;
      band_plan = s.band_plan;
      dial_known = s.dial_known;
      power_known = s.power_known;
      margin = margins s.margin_lower_hz s.margin_upper_hz;
      dial_hz = s.dial_hz;
      power_w = s.power_w;
    }

unfoldable pub station_of : StationRecord → FlatStation
station_of s =
    record {
      margin_lower_hz = s.margin.lower_hz;
      margin_upper_hz = s.margin.upper_hz;
      dial_hz = s.dial_hz;
      power_w = s.power_w;
      policy = s.policy;
      control = s.control;
      license = s.license;
      sideband = s.sideband;
      itu_region = s.itu_region;
      band_plan = s.band_plan;
      dial_known = s.dial_known;
      power_known = s.power_known;
    }

-- the edges that arrive
unfoldable pub edges_of : FlatEdges → Edges
edges_of e = record { power = range e.power_low e.power_high; spectral = range e.spectral_low e.spectral_high }

-- and as they leave
unfoldable pub edges_flat : Edges → FlatEdges
edges_flat e =
    record {
      power_low = e.power.low_hz;
      power_high = e.power.high_hz;
      spectral_low = e.spectral.low_hz;
      spectral_high = e.spectral.high_hz;
    }

-- the state of a walk, that arrives and that leaves
unfoldable pub walk_of : FlatWalk → WalkState
walk_of w = record { occupied = edges_of w.occupied; place = w.place; image = w.image; waiting = w.waiting; walking = w.walking }

unfoldable pub walk_flat : WalkState → FlatWalk
walk_flat w = record { occupied = edges_flat w.occupied; place = w.place; image = w.image; waiting = w.waiting; walking = w.walking }

-- the parts of an answer
abbrev pub range_flat : Option Range → FlatRange
range_flat (Some a) = record { low = a.low_hz; high = a.high_hz; known = 1 }
range_flat None = record { low = zero_hz; high = zero_hz; known = 0 }

abbrev pub segment_flat : Option (Range × ℕ) → FlatSegment
segment_flat (Some (a, rule)) = record { low = a.low_hz; high = a.high_hz; rule = rule; known = 1 }
segment_flat None = record { low = zero_hz; high = zero_hz; rule = 0; known = 0 }

-- how far beyond an edge, and which edge
abbrev pub beyond_by : Option Overshoot → Float
beyond_by (Some (Beyond by edge)) = by
beyond_by (Some (TooClose edge)) = zero_hz
beyond_by None = zero_hz

abbrev pub beyond_edge : Option Overshoot → ℕ
beyond_edge (Some (Beyond by edge)) = edge_number edge
beyond_edge (Some (TooClose edge)) = edge_number edge
beyond_edge None = 0

abbrev pub overshoot_flat : Option Overshoot → FlatOvershoot
overshoot_flat o = record { beyond_hz = beyond_by o; edge = beyond_edge o; number = overshoot_number o }

-- a plan record's index is below 256 (Guided)
abbrev pub guidance_index_of : Option Guidance → ℕ
guidance_index_of (Some (Avoid i)) = i
guidance_index_of (Some (Inside i)) = i
guidance_index_of (Some Outside) = 0
guidance_index_of None = 0

abbrev pub guidance_flat : Option Guidance → FlatGuidance
guidance_flat g = record { index = guidance_index_of g; number = guidance_number g }

-- rule 0, "empty", is not absent
abbrev pub rule_flat : Option ℕ → FlatRule
rule_flat (Some rule) = record { rule = rule; known = 1 }
rule_flat None = record { rule = 0; known = 0 }

abbrev pub band_flat : Option ℕ → FlatBand
band_flat (Some band) = record { band = band; known = 1 }
band_flat None = record { band = 0; known = 0 }

abbrev pub width_flat : Option Float → Float
width_flat (Some x) = x
width_flat None = zero_hz

abbrev pub mark_of : Bool → ℕ
mark_of b = cond b 1 0

-- an answer
unfoldable pub flat_of : Decision → FlatDecision
flat_of d =
    record {
      segment_low = (segment_flat d.segment).low;
      segment_high = (segment_flat d.segment).high;
      automatic_low = (range_flat d.automatic_segment).low;
      automatic_high = (range_flat d.automatic_segment).high;
      audio_low = (range_flat d.audio).low;
      audio_high = (range_flat d.audio).high;
      width = width_flat d.width;
      air_low = (range_flat d.air).low;
      air_high = (range_flat d.air).high;
      beyond_hz = (overshoot_flat d.overshoot).beyond_hz;
      rule = (rule_flat d.rule).rule;
      segment_rule = (segment_flat d.segment).rule;
      guidance_index = (guidance_flat d.advice.guidance).index;
      refusal = refusal_number d.refusal;
      verdict = verdict_number d.verdict;
      code = code_number d.code;
      rule_known = (rule_flat d.rule).known;
      band_known = (band_flat d.band).known;
      band = (band_flat d.band).band;
      segment_known = (segment_flat d.segment).known;
      automatic_known = (range_flat d.automatic_segment).known;
      audio_known = (range_flat d.audio).known;
      air_known = (range_flat d.air).known;
      overshoot = (overshoot_flat d.overshoot).number;
      edge = (overshoot_flat d.overshoot).edge;
      guidance = (guidance_flat d.advice.guidance).number;
      note_channel_power = mark_of d.advice.sixty.channel_power;
      note_shared = mark_of d.advice.sixty.shared;
      note_segment_power = mark_of d.advice.sixty.segment_power;
      notes = d.advice.notes;
    }

-- a ceiling, beside it what stands for its limit, known or not: a rung is below 256 (Fits)
unfoldable pub ceiling_beside : CeilingAnswer → Decision → FlatCeiling
ceiling_beside a limit =
    record {
      limit = flat_of limit;
      rung = rung_number a.rung;
      limit_known = mark_of (limited a.limit);
      refusal = refusal_number a.refusal;
    }

-- a ceiling: its limit is blocked where it is absent or refused too (Laws, limit-blocked of Rattle.ceiling)
unfoldable pub ceiling_flat : CeilingAnswer → FlatCeiling
ceiling_flat a = ceiling_beside a (limit_of a)

-- a swap's and an opening's answer, and a step's: over is 1 where the walk is
abbrev pub walk_answer_flat : WalkAnswer → FlatWalkAnswer
walk_answer_flat a = record { state = walk_flat a.state; refusal = refusal_number a.refusal }

unfoldable pub step_beside : StepAnswer → Decision → FlatStep
step_beside a limit = record { ceiling = ceiling_beside a.ceiling limit; state = walk_flat a.state; over = mark_of a.over }

unfoldable pub step_flat : StepAnswer → FlatStep
step_flat a = step_beside a (limit_of a.ceiling)

-- the boundary's version, 0.14.0: 10,000 times the first number, 100 times the second, and the third
abbrev pub version_number : ℕ
version_number = 1400
