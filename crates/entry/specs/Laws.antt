-- Laws of the front of a judging call: its answer by its parts.
use Rattle.std.specs.Prelude.{ℕ, Bool, true, false, cond, List, [], ◌≡◌, Ok, Err}
use Rattle.std.proofs.Common.{subst, sym, ap, ◌∙◌}
use Rattle.codes.specs.declared.Refusal.{Refusal}
use Rattle.codes.specs.Refusal.{refusal_of}
use Rattle.codes.specs.Laws.{refusal_both, refusal_next, refusal_stays}
use Rattle.station.specs.Station.{under_rules, station_tests}
use Rattle.station.specs.declared.StationRecord.{StationRecord}
use Rattle.layout.specs.Form.{Whole}
use Rattle.image.specs.Check.{check_tests, check_of}
use Rattle.image.specs.Laws.{accepted_whole}
use Rattle.entry.specs.Entry.{image_tests, entry_of}

-- Accepted under Rules: the image is whole, and accepted by the check.
pub entry_accepted : (r : StationRecord) (beside : Bool) (l : List ℕ) → entry_of r beside l ≡ Ok tt → under_rules r ≡ true → check_of l ≡ Ok tt
unfolding entry_of check_of
entry_accepted r beside l e u =
    subst (λ (b : Bool). refusal_of (cond b (check_tests l) []) ≡ Ok tt) u (refusal_both (station_tests r beside l) (image_tests r l) e).1

pub entry_whole : (r : StationRecord) (beside : Bool) (l : List ℕ) → entry_of r beside l ≡ Ok tt → under_rules r ≡ true → Whole l
entry_whole r beside l e u = accepted_whole l (entry_accepted r beside l e u)

-- The answer by its parts: what the station's tests say, and then, under Rules, the check.
pub entry_stays :
    (r : StationRecord) (beside : Bool) (l : List ℕ) (n : Refusal) → refusal_of (station_tests r beside l) ≡ Err n → Err n ≡ entry_of r beside l
unfolding entry_of
entry_stays r beside l n e = sym (refusal_stays (station_tests r beside l) (image_tests r l) n e)

pub entry_check :
    (r : StationRecord) (beside : Bool) (l : List ℕ) → refusal_of (station_tests r beside l) ≡ Ok tt → under_rules r ≡ true
    → check_of l ≡ entry_of r beside l
unfolding entry_of check_of
entry_check r beside l e u =
    sym (refusal_next (station_tests r beside l) (image_tests r l) e ∙ ap (λ (b : Bool). refusal_of (cond b (check_tests l) [])) u)

pub entry_free :
    (r : StationRecord) (beside : Bool) (l : List ℕ) → refusal_of (station_tests r beside l) ≡ Ok tt → under_rules r ≡ false
    → Ok tt ≡ entry_of r beside l
unfolding entry_of
entry_free r beside l e u =
    sym (refusal_next (station_tests r beside l) (image_tests r l) e ∙ ap (λ (b : Bool). refusal_of (cond b (check_tests l) [])) u)
