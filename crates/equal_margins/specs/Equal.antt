-- "Equal margins give the former answers" (document 02, 9): with the same figure on both sides every call answers what it answered with that
-- figure as its one margin, whatever record, image, edges and lent bytes.
use Prim.Native.Nat.{ℕ, ◌/◌}
use Rattle.std.specs.Prelude.{Option, Some, None, Result, Bool, true, false, not, cond, ◌&&◌, ◌||◌, ◌≡◌, refl, eqb, length, Float}
use Rattle.codes.specs.declared.Refusal.TheVariants as refusal
use Rattle.codes.specs.declared.Refusal.{Refusal}
use Rattle.table.specs.declared.Channels.{Channels}
use mathlib.Core.List.{List, [], ◌∷◌, ◌++◌}
use Rattle.std.proofs.Common.{sym, ap₂, ◌∙◌, subst}
use Rattle.std.proofs.Math.Path.{ap, fun_ext}
use Rattle.figures.specs.Figure.{zero_hz, limit40, in_size, read_hz}
use Rattle.codes.specs.Read.{kind_of, direction_of, direction_valid}
use Rattle.codes.specs.Refusal.{Test, test, refusal_of}
use Rattle.codes.specs.declared.ControlMode.{ControlMode}
use Rattle.codes.specs.declared.Direction.{Direction}
use Rattle.codes.specs.declared.EmissionKind.{EmissionKind}
use Rattle.codes.specs.declared.EmissionKind.TheVariants.{Data}
use Rattle.codes.specs.declared.LicenseClass.{LicenseClass}
use Rattle.codes.specs.declared.Policy.{Policy}
use Rattle.codes.specs.declared.Policy.TheVariants.{Unset, NoProfile as NoneApply, Rules, Broken}
use Rattle.codes.specs.declared.Sideband.{Sideband}
use Rattle.codes.specs.declared.Sideband.TheVariants.{Usb, Lsb}
use Rattle.profile.specs.Range.{range}
use Rattle.profile.specs.declared.Range.{Range}
use Rattle.occupancy.specs.Edges.{range_of}
use Rattle.occupancy.specs.declared.Edges.{Edges}
use Rattle.air.specs.declared.Margins.{Margins}
use Rattle.air.specs.Air.{margins, guarded_of, unguarded_of, dial_ends_of, dials_between}
use Rattle.station.specs.Station.{codes_valid, figures_valid, situation_of, under_rules, fresh_margin, fresh_of}
use Rattle.station.specs.declared.Situation.{Situation}
use Rattle.station.specs.declared.StationRecord.{StationRecord}
use Rattle.table.specs.Parts.{channels_of, reading_of}
use Rattle.table.specs.Table.{Table, table_of}
use Rattle.entry.specs.Entry.{image_tests, entry_tests, edges_valid, edges_read}
use Rattle.decision.specs.declared.Decision.{Decision}
use Rattle.decision.specs.Decision.{simple_of}
use Rattle.decision.specs.Number.{no_rule}
use Rattle.decision.specs.Reason.{Unmeasured}
use Rattle.decision.specs.declared.Verdict.TheVariants.{Blocked}
use Rattle.verdict.specs.Verdict.{signal_of, case_of, ready_of, under_rules_of, unruled_of, decide_of, unless_refused, beside_valid, edge_tests, evaluate_of, unmeasured_of}
use Rattle.ceiling.specs.Ceiling.{judge_by, climbed, ceiling_unless_refused, ceiling_of}
use Rattle.rungs.specs.Rungs.{burst_of, rung_tests}
use Rattle.rows.specs.declared.SafeDial.{SafeDial}
use Rattle.dial_rows.specs.Dials.{request_of, dial_rows, piece_rows, automatic_rows, cut_rows, privilege_rows, privileges_rows, segment_rows, data_rows}
use Rattle.dial_rows.specs.Dials.{channel_found, channel_holds, channel_row, channel_rows, open_rows, band_rows, rows_of}
use Rattle.dial_rows.specs.declared.Request.{Request}
use Rattle.dials.specs.List.{rows_with_sideband, rows_with_license, rows_with_control, situation_rows, list_rows, lent_tests, Listed, SafeDials}
use Rattle.equal_margins.specs.Before.{guarded_before, unguarded_before, dial_ends_before, figures_before, entry_before, case_before, ready_before}
use Rattle.equal_margins.specs.Before.{decide_before, evaluate_before, unmeasured_before, ceiling_before, channels_with, rows_with}
use Rattle.equal_margins.specs.Before.{piece_before, rows_before, list_before, SafeDialsBefore}

-- a station record, and a station as it is read, with the same margin on both sides
abbrev pub equal : StationRecord → Float → StationRecord
equal r margin =
    record {
      policy = r.policy;
      control = r.control;
      license = r.license;
      sideband = r.sideband;
      itu_region = r.itu_region;
      band_plan = r.band_plan;
      dial_known = r.dial_known;
      power_known = r.power_known;
      margin = margins margin margin;
      dial_hz = r.dial_hz;
      power_w = r.power_w;
    }

abbrev equal_read : Situation → Float → Situation
equal_read s margin =
    record {
      policy = s.policy;
      control = s.control;
      license = s.license;
      sideband = s.sideband;
      itu_region = s.itu_region;
      margin = margins margin margin;
      band_plan = s.band_plan;
      dial = s.dial;
      power = s.power;
    }

-- ---- ranges

pub guarded_equal : (margin : Float) (r : Range) → guarded_of (margins margin margin) r ≡ guarded_before margin r
guarded_equal margin r = refl

pub unguarded_equal : (margin : Float) (r : Range) → unguarded_of (margins margin margin) r ≡ unguarded_before margin r
unguarded_equal margin r = refl

pub dial_ends_equal :
    (piece : Range) (sideband : Sideband) (audio : Range) (margin : Float)
    → dial_ends_of piece sideband audio (margins margin margin) ≡ dial_ends_before piece sideband audio margin
dial_ends_equal piece Usb audio margin = refl
dial_ends_equal piece Lsb audio margin = refl

-- ---- refusals: both margins pass 21 exactly if the one did

both_pass : (b c : Bool) → ((b && b) && c) ≡ (b && c)
both_pass true c = refl
both_pass false c = refl

figures_equal : (r : StationRecord) (margin : Float) → figures_valid (equal r margin) ≡ figures_before r margin
unfolding figures_valid figures_before
figures_equal r margin = both_pass (in_size limit40 margin) _

-- 20 to 22, and 1 to 14, by whether the figures pass
abbrev entry_by : StationRecord → Bool → Bool → List ℕ → List Test
entry_by r figures beside l =
    (test refusal.StationCode (not (codes_valid r) || not beside) ∷ test refusal.StationFigure (not figures) ∷ test refusal.NoImage (under_rules r && eqb (length l) 0) ∷ []) ++ image_tests r l

entry_equal : (r : StationRecord) (margin : Float) (beside : Bool) (l : List ℕ) → entry_tests (equal r margin) beside l ≡ entry_before r margin beside l
unfolding codes_valid
entry_equal r margin beside l = ap (λ (b : Bool). entry_by r b beside l) (figures_equal r margin)

-- ---- the verdict

decide_equal :
    (table : Table) (s : Situation) (margin : Float) (policy : Policy) (dial : Option Float) (kind : EmissionKind) (direction : Direction) (e : Edges)
    → decide_of table (equal_read s margin) policy dial kind direction e ≡ decide_before table s margin policy dial kind direction e
unfolding decide_of decide_before unruled_of under_rules_of ready_of ready_before case_of case_before
decide_equal table s margin Unset dial kind direction e = refl
decide_equal table s margin NoneApply dial kind direction e = refl
decide_equal table s margin Rules dial kind direction e = refl
decide_equal table s margin Broken dial kind direction e = refl

pub evaluate_equal :
    (r : StationRecord) (margin : Float) (kind direction : ℕ) (e : Edges) (l : List ℕ)
    → evaluate_of (equal r margin) kind direction e l ≡ evaluate_before r margin kind direction e l
unfolding evaluate_of evaluate_before situation_of
evaluate_equal r margin kind direction e l =
    ap₂ (λ (tests : List Test) (d : Decision). unless_refused (refusal_of (tests ++ edge_tests e)) d)
    (entry_equal r margin (beside_valid kind direction) l)
    (decide_equal (table_of l) (situation_of r) (read_hz margin) (situation_of r).policy (situation_of r).dial (kind_of kind) (direction_of direction)
    (edges_read e))

pub unmeasured_equal :
    (r : StationRecord) (margin : Float) (l : List ℕ) → unmeasured_of (equal r margin) l ≡ unmeasured_before r margin l
unfolding unmeasured_of unmeasured_before situation_of
unmeasured_equal r margin l =
    let s = situation_of r in
    ap
    (λ (tests : List Test).
    unless_refused (refusal_of tests) (simple_of (signal_of s.dial s.sideband (range zero_hz zero_hz)) Blocked Unmeasured no_rule))
    (entry_equal r margin true l)

-- ---- the ceiling

pub ceiling_equal :
    (r : StationRecord) (margin : Float) (direction : ℕ) (ordinary floor : Edges) (l : List ℕ) (rungs : List Float) (floors : List ℕ)
    → ceiling_of (equal r margin) direction ordinary floor l rungs floors ≡ ceiling_before r margin direction ordinary floor l rungs floors
unfolding ceiling_of ceiling_before judge_by situation_of
ceiling_equal r margin direction ordinary floor l rungs floors =
    ap₂
    (λ (tests : List Test) (judge : Edges → Decision).
    ceiling_unless_refused (refusal_of (tests ++ rung_tests ordinary floor rungs floors))
    (climbed judge (burst_of (edges_read ordinary) (edges_read floor) rungs floors) (length rungs / 4)))
    (entry_equal r margin (direction_valid direction) l)
    (fun_ext
    (λ e. decide_equal (table_of l) (situation_of r) (read_hz margin) (situation_of r).policy (situation_of r).dial Data (direction_of direction) e))

-- ---- the dial list

channels_with_holds : (table : Table) (q : Request) (b : Option Channels) → band_rows table q b ≡ channels_with table q (piece_rows q) (channel_holds q) b
unfolding open_rows channel_rows channel_row
channels_with_holds table q (Some c) = refl
channels_with_holds table q None = refl

rows_with_holds : (table : Table) (q : Request) → rows_of table q ≡ rows_with table q (piece_rows q) (channel_holds q)
unfolding rows_of rows_with data_rows segment_rows privileges_rows privilege_rows cut_rows automatic_rows
rows_with_holds table q = ap (λ (xs : List SafeDial). data_rows table q ++ xs) (channels_with_holds table q (channels_of table.general))

module _
    (table : Table) (license : LicenseClass) (sideband : Sideband) (control : ControlMode) (direction : Direction) (own : Margins) (margin : Float)
    (audio : Range)
  where
    abbrev request : Margins → Request
    request = λ m. request_of table.general license sideband control direction m audio

    pieces_equal : piece_rows (request (margins margin margin)) ≡ piece_before (request own) margin
    unfolding piece_rows piece_before request_of
    pieces_equal =
        fun_ext
        (λ band.
        fun_ext
        (λ rule.
        fun_ext
        (λ piece. ap (λ (ends : Range). dial_rows band rule piece (dials_between ends)) (dial_ends_equal piece sideband audio margin))))

    rows_equal : rows_of table (request (margins margin margin)) ≡ rows_before table (request own) margin
    unfolding request_of rows_with channel_found
    rows_equal =
        let q = request (margins margin margin) in
        rows_with_holds table q ∙ ap (λ (rows : ℕ → ℕ → Range → List SafeDial). rows_with table q rows (channel_holds q)) pieces_equal

pub rows_listed_equal :
    (r : StationRecord) (margin : Float) (direction : ℕ) (e : Edges) (l : List ℕ)
    → list_rows (equal r margin) direction e l ≡ list_before r margin direction e l
unfolding list_rows list_before situation_rows situation_of
rows_listed_equal r margin direction e l =
    let table = table_of l in
    let s = situation_of r in
    ap (λ (xs : List SafeDial). cond (under_rules r) xs [])
    (ap (rows_with_sideband s.sideband)
    (fun_ext
    (λ sideband.
    ap (rows_with_license s.license)
    (fun_ext
    (λ license.
    ap (rows_with_control s.control)
    (fun_ext
    (λ control.
    rows_equal table license sideband control (direction_of direction) s.margin (read_hz margin)
    (range_of (edges_read e) (reading_of table.general)))))))))

-- what the list call promises, with every lent byte
module _ (r : StationRecord) (margin : Float) (direction : ℕ) (e : Edges) (l lent left : List ℕ) (answer : Result ℕ Refusal) where
  abbrev promised : List Test → List SafeDial → Type 0
  promised tests xs = Listed (refusal_of (tests ++ (test refusal.SignalEdge (not (edges_valid e)) ∷ lent_tests xs lent))) xs lent left answer

  same_promise : SafeDials (equal r margin) direction e l lent left answer ≡ SafeDialsBefore r margin direction e l lent left answer
  same_promise = ap₂ promised (entry_equal r margin (direction_valid direction) l) (rows_listed_equal r margin direction e l)

  pub list_equal : SafeDials (equal r margin) direction e l lent left answer → SafeDialsBefore r margin direction e l lent left answer
  list_equal p = subst (λ (X : Type 0). X) same_promise p

  pub list_equal_back : SafeDialsBefore r margin direction e l lent left answer → SafeDials (equal r margin) direction e l lent left answer
  list_equal_back p = subst (λ (X : Type 0). X) (sym same_promise) p

-- ---- the fresh record

-- "A fresh record has 50 in each": it is the former one with its margin on both sides.
pub fresh_equal : fresh_of ≡ equal fresh_of fresh_margin
fresh_equal = refl
