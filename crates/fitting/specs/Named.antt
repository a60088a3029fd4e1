-- The tests of each call, of a walk's steps too, are of refusals that have a name: no call answers a number beside these (`Other`), which
-- only a caller can hand over. `refusal_named` says it of what refuses.
use Rattle.std.specs.Prelude.{ℕ, ℤ, ◌<◌, Bool, true, false, cond, List, [], ◌++◌, ◌≡◌, refl, Float, Ok, Err}
use Rattle.std.proofs.Common.{true≢false, sym, arith}
use Rattle.codes.specs.declared.Refusal.{Refusal}
use Rattle.codes.specs.declared.Refusal.TheVariants as refusal
use Rattle.codes.specs.Refusal.{Checked, number_of, is_named}
use Rattle.codes.specs.Laws.{all_named, all_named_both}
use Rattle.occupancy.specs.declared.Edges.{Edges}
use Rattle.station.specs.Station.{under_rules, station_tests}
use Rattle.station.specs.declared.StationRecord.{StationRecord}
use Rattle.layout.specs.Form.{form_tests}
use Rattle.layout.specs.declared.General.{General}
use Rattle.table.specs.Table.{Table}
use Rattle.image.specs.Check.{content_tests, check_tests}
use Rattle.entry.specs.Entry.{image_tests, entry_tests}
use Rattle.codes.specs.Read.{direction_valid}
use Rattle.verdict.specs.Verdict.{beside_valid, edge_tests, evaluate_tests}
use Rattle.rungs.specs.Rungs.{rung_tests, ceiling_tests}
use Rattle.dials.specs.List.{list_tests}
use Rattle.distance.specs.Distance.{distance_tests}
use Rattle.nearest.specs.Nearest.{nearest_tests}
use Rattle.number_texts.specs.Text.{text_tests}
use Rattle.report.specs.Report.{report_tests}
use Rattle.census.specs.Census.{undialled, stretch_tests, census_tests}
use Rattle.airtime.specs.Airtime.{airtime_tests}
use Rattle.given.specs.declared.Fields.{Fields}
use Rattle.given.specs.Given.{Runs}
use Rattle.given.specs.Tests.{given_tests}
use Rattle.writer.specs.Write.{room_test, write_tests}
use Rattle.convert.specs.Convert.{raise_tests, lower_tests, raised_of, lowered_of}
use Rattle.amend.specs.Amend.{amend_tests}
use Rattle.walk.specs.declared.WalkState.{WalkState}
use Rattle.walk.specs.Walk.{state_tests, swap_tests, open_tests}
use Rattle.walk_step.specs.Step.{step_tests}
use Rattle.numbers.specs.Refusal.{refusal_number}

pub check_named : (l : List ℕ) → all_named (check_tests l) ≡ true
check_named l = refl

pub entry_named : (r : StationRecord) (beside : Bool) (l : List ℕ) → all_named (entry_tests r beside l) ≡ true
entry_named r beside l = all_named_both (station_tests r beside l) (image_tests r l) refl (go (under_rules r))
  where
    go : (b : Bool) → all_named (cond b (check_tests l) []) ≡ true
    go true = refl
    go false = refl

pub evaluate_named : (r : StationRecord) (kind direction : ℕ) (e : Edges) (l : List ℕ) → all_named (evaluate_tests r kind direction e l) ≡ true
evaluate_named r kind direction e l = all_named_both (entry_tests r (beside_valid kind direction) l) (edge_tests e) (entry_named r (beside_valid kind direction) l) refl

pub ceiling_named :
    (r : StationRecord) (direction : ℕ) (ordinary floor : Edges) (l : List ℕ) (rungs : List Float) (floors : List ℕ)
    → all_named (ceiling_tests r direction ordinary floor l rungs floors) ≡ true
ceiling_named r direction ordinary floor l rungs floors =
    all_named_both (entry_tests r (direction_valid direction) l) (rung_tests ordinary floor rungs floors) (entry_named r (direction_valid direction) l) refl

pub swap_named : (w : WalkState) → all_named (swap_tests w) ≡ true
swap_named w = refl

pub open_named : (w : WalkState) → all_named (open_tests w) ≡ true
open_named w = refl

pub step_named : (w : WalkState) → all_named (step_tests w) ≡ true
step_named w = refl

pub list_named : (r : StationRecord) (direction : ℕ) (e : Edges) (l lent : List ℕ) → all_named (list_tests r direction e l lent) ≡ true
list_named r direction e l lent = all_named_both (entry_tests r (direction_valid direction) l) _ (entry_named r (direction_valid direction) l) refl

pub distance_named : (dial : Float) (count : ℕ) (rows : List ℕ) → all_named (distance_tests dial count rows) ≡ true
distance_named dial count rows = refl

pub nearest_named : (r : StationRecord) (direction : ℕ) (e : Edges) (l : List ℕ) → all_named (nearest_tests r direction e l) ≡ true
nearest_named r direction e l = evaluate_named r 0 direction e l

pub census_named :
    (r : StationRecord) (kind direction : ℕ) (e : Edges) (l : List ℕ) (first last : ℤ)
    → all_named (census_tests r kind direction e l first last) ≡ true
census_named r kind direction e l first last =
    all_named_both (evaluate_tests (undialled r) kind direction e l) (stretch_tests first last) (evaluate_named (undialled r) kind direction e l) refl

pub report_named : (l : List ℕ) (class : ℕ) (lent : List ℕ) → all_named (report_tests l class lent) ≡ true
report_named l class lent = refl

pub write_named : (f : Fields) (n : List ℕ) (r : Runs) (lent : List ℕ) → all_named (write_tests f n r lent) ≡ true
write_named f n r lent = refl

pub raise_named : (l lent : List ℕ) → all_named (raise_tests l ++ room_test (raised_of l) lent) ≡ true
raise_named l lent = refl

pub lower_named : (l lent : List ℕ) → all_named (lower_tests l ++ room_test (lowered_of l) lent) ≡ true
lower_named l lent = refl

pub amend_named : (l a : List ℕ) (day : ℕ) (lent : List ℕ) → all_named (amend_tests l a day lent) ≡ true
amend_named l a day lent = refl

pub text_named : (hz : Float) (text lent : List ℕ) → all_named (text_tests hz text lent) ≡ true
text_named hz text lent = refl

pub airtime_named : (starts bands seconds lent : List ℕ) → all_named (airtime_tests starts bands seconds lent) ≡ true
airtime_named starts bands seconds lent = refl

pub station_named : (r : StationRecord) (beside : Bool) (l : List ℕ) → all_named (station_tests r beside l) ≡ true
station_named r beside l = refl

pub form_named : (l : List ℕ) → all_named (form_tests l) ≡ true
form_named l = refl

pub content_named : (table : Table) → all_named (content_tests table) ≡ true
content_named table = refl

pub given_named : (edition : ℕ) (g : General) (n : List ℕ) (r : Runs) → all_named (given_tests edition g n r) ≡ true
given_named edition g n r = refl

pub state_named : (w : WalkState) (ruled_out : Bool) (n : Refusal) → is_named n ≡ true → all_named (state_tests w ruled_out n) ≡ true
state_named w ruled_out n p = rw p refl

-- The number of a refusal with a name is at least 1. So of an answer whose refusal has a name 0 says that nothing was refused.
pub number_above : (r : Refusal) → is_named r ≡ true → 0 < number_of r
number_above refusal.ImageLength named = omega arith
number_above refusal.Letters named = omega arith
number_above refusal.Edition named = omega arith
number_above refusal.Counts named = omega arith
number_above refusal.CodedByte named = omega arith
number_above refusal.ImageFigure named = omega arith
number_above refusal.BandRange named = omega arith
number_above refusal.SegmentRange named = omega arith
number_above refusal.AutomaticRange named = omega arith
number_above refusal.PrivilegeRange named = omega arith
number_above refusal.EmptyTable named = omega arith
number_above refusal.SegmentOutside named = omega arith
number_above refusal.OwnLimit named = omega arith
number_above refusal.GeneralLimit named = omega arith
number_above refusal.SignalEdge named = omega arith
number_above refusal.Rungs named = omega arith
number_above refusal.StationCode named = omega arith
number_above refusal.StationFigure named = omega arith
number_above refusal.NoImage named = omega arith
number_above refusal.Rows named = omega arith
number_above refusal.Text named = omega arith
number_above refusal.Report named = omega arith
number_above refusal.Watts named = omega arith
number_above refusal.Amendments named = omega arith
number_above refusal.AmendedRoom named = omega arith
number_above refusal.SecondSwap named = omega arith
number_above refusal.Walk named = omega arith
number_above refusal.Starts named = omega arith
number_above refusal.Runs named = omega arith
number_above refusal.Stretch named = omega arith
number_above refusal.FarDial named = omega arith
number_above (refusal.Other k) named = absurd (true≢false (sym named))

pub nothing_refused : (c : Checked) → ((n : Refusal) → c ≡ Err n → is_named n ≡ true) → refusal_number c ≡ 0 → c ≡ Ok tt
nothing_refused (Ok tt) p e = refl
nothing_refused (Err n) p e = absurd (omega (arith, e, number_above n (p n refl)))
