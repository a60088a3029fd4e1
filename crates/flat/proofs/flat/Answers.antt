-- Each part by its function.
use Rattle.flat.specs.Flat.{flat_of}
use Rattle.flat.proofs.flat.Goals as goal

pub returns : goal.returns
unfolding flat_of
returns c =
    rw c.mark-3.ensures
    (rw c.mark-2.ensures
    (rw c.mark.ensures
    (rw c.code_number.ensures
    (rw c.verdict_number.ensures
    (rw c.refusal_number.ensures
    (rw c.width_flat.ensures
    (rw c.guidance_flat-guidance.ensures
    (rw c.overshoot_flat-overshoot.ensures
    (rw c.range_flat-air.ensures
    (rw c.range_flat-audio.ensures
    (rw c.range_flat-automatic.ensures
    (rw c.segment_flat-segment.ensures
    (rw c.band_flat-numbered.ensures
    (rw c.rule_flat-named.ensures))))))))))))))
