-- A census of a band (document 02, 14): "Trustees compare draft tables by how many dials each verdict code gets."
use Rattle.std.specs.Prelude.{ℕ, zero, suc, ◌+◌, cond, not, ◌||◌, List, [], ◌∷◌, ◌++◌, replicate, ℤ, pos, negsuc, ◌+ℤ◌, ◌-ℤ◌, ◌==◌, nat_lt, unsigned_abs, Float}
use Rattle.std.specs.Prelude.{Some, Ok, Err}
use Rattle.codes.specs.declared.Refusal.TheVariants as refusal
use Rattle.codes.specs.Refusal.{Checked, Test, test, refusal_of}
use Rattle.std.specs.Float.{binary64}
use Rattle.std.specs.Float.Ieee.{of_int}
use Rattle.codes.specs.Read.{kind_of, direction_of}
use Rattle.codes.specs.declared.EmissionKind.{EmissionKind}
use Rattle.codes.specs.declared.Direction.{Direction}
use Rattle.occupancy.specs.declared.Edges.{Edges}
use Rattle.station.specs.Station.{mark_valid, situation_of}
use Rattle.station.specs.declared.StationRecord.{StationRecord}
use Rattle.station.specs.declared.Situation.{Situation}
use Rattle.table.specs.Table.{Table, table_of}
use Rattle.transmission.specs.declared.Transmission.{Transmission}
use Rattle.entry.specs.Entry.{edges_read}
use Rattle.decision.specs.Number.{code_number}
use Rattle.verdict.specs.Verdict.{decide_of, evaluate_tests}
use Rattle.census.specs.declared.Census.{Census}

-- ---- the dials: "whole-hertz dials from a first to a last, at most 1,000,000 of them"

abbrev pub most : ℕ
most = 1000000

-- 2^40, "above 2^40 in size"
abbrev pub farthest : ℕ
farthest = 1099511627776

-- how many there are by the difference of the two: last − first + 1, and none with "a first above the last"
abbrev pub dials_by : ℤ → ℕ
dials_by (pos d) = suc d
dials_by (negsuc d) = 0

abbrev pub dials_of : ℤ → ℤ → ℕ
dials_of first last = dials_by (last -ℤ first)

-- dial k of a stretch; every whole number up to 2^53 in size is a double
abbrev pub dial_at : ℤ → ℕ → Float
dial_at first k = of_int binary64 (first +ℤ pos k)

-- "each taken as the station record's present dial": the number of its code, by the verdict's own definition
unfoldable pub code_at : Table → Situation → EmissionKind → Direction → Edges → Float → ℕ
code_at table s kind direction e hz = code_number (decide_of table s s.policy (Some hz) kind direction e).code

-- of a transmission, whatever its own dial
abbrev pub code_on : Transmission → Float → ℕ
code_on x hz = code_at (table_of x.station.now.lent.now) x.station.now.situation x.kind x.direction x.edges hz

-- ---- the counts

-- how many of the indices below n have a code
unfoldable pub many : (ℕ → ℕ) → ℕ → ℕ → ℕ
many code c zero = 0
many code c (suc n) = many code c n + cond (code n == c) 1 0

-- what n numbers from c on give
unfoldable pub listed : ℕ → ℕ → (ℕ → ℕ) → List ℕ
listed zero c f = []
listed (suc n) c f = f c ∷ listed n (suc c) f

-- "give 25 counts: each is the number of dials in that stretch whose code is that one", code 1 first
unfoldable pub counts_of : (ℕ → ℕ) → ℕ → List ℕ
counts_of code n = listed 25 1 (λ c. many code c n)

-- ---- the call

-- a record with another dial: its presence byte and its figure
unfoldable pub dialled : ℕ → Float → StationRecord → StationRecord
dialled known hz r =
    record {
      policy = r.policy;
      control = r.control;
      license = r.license;
      sideband = r.sideband;
      itu_region = r.itu_region;
      band_plan = r.band_plan;
      dial_known = known;
      power_known = r.power_known;
      margin = r.margin;
      dial_hz = hz;
      power_w = r.power_w;
    }

-- "the figure of its own isn't looked at": as if it were absent
abbrev pub undialled : StationRecord → StationRecord
undialled r = dialled 0 r.dial_hz r

-- "(33, after 15) a first above the last or more dials than that, and (34, next) a first or last above 2^40 in size"
abbrev pub stretch_tests : ℤ → ℤ → List Test
stretch_tests first last =
    test refusal.Stretch (dials_of first last == 0 || nat_lt most (dials_of first last))
    ∷ test refusal.FarDial (nat_lt farthest (unsigned_abs first) || nat_lt farthest (unsigned_abs last)) ∷ []

-- Before these the verdict's own; the dial's presence byte is a code of the record all the same.
abbrev pub census_tests : StationRecord → ℕ → ℕ → Edges → List ℕ → ℤ → ℤ → List Test
census_tests r kind direction e l first last =
    test refusal.StationCode (not (mark_valid r.dial_known)) ∷ (evaluate_tests (undialled r) kind direction e l ++ stretch_tests first last)

-- those before the stretch's
abbrev pub front_tests : StationRecord → ℕ → ℕ → Edges → List ℕ → List Test
front_tests r kind direction e l = test refusal.StationCode (not (mark_valid r.dial_known)) ∷ evaluate_tests (undialled r) kind direction e l

abbrev pub counted : List ℕ → Census
counted counts = record { refusal = Ok tt; counts = counts }

-- a refusal's counts are noughts
abbrev pub unless_refused : Checked → List ℕ → Census
unless_refused (Ok tt) counts = counted counts
unless_refused (Err n) counts = record { refusal = Err n; counts = replicate 25 0 }

-- `census_of`
unfoldable pub census_of : StationRecord → ℕ → ℕ → Edges → List ℕ → ℤ → ℤ → Census
census_of r kind direction e l first last =
    unless_refused (refusal_of (census_tests r kind direction e l first last))
    (counts_of (λ k. code_at (table_of l) (situation_of r) (kind_of kind) (direction_of direction) (edges_read e) (dial_at first k)) (dials_of first last))
