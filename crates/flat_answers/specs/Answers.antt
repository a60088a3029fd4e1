-- The flat forms of the answers that hold no decision, and what their exports promise.
use Rattle.std.specs.Prelude.{ℕ, Bool, true, false, List, ◌++◌, ◌≡◌, length, Float, Option, Some, None, Result, Ok, Err}
use Rattle.codes.specs.Refusal.{Checked, number_of, refusal_of}
use Rattle.codes.specs.declared.Refusal.{Refusal}
use Rattle.std.specs.Float.{binary64}
use Rattle.std.specs.Float.Ieee.{of_bits}
use Rattle.occupancy.specs.declared.Edges.{Edges}
use Rattle.station.specs.declared.StationRecord.{StationRecord}
use Rattle.fault.specs.Number.{fault_number}
use Rattle.fault.specs.declared.Fault.{Fault}
use Rattle.fault.specs.declared.Fault.TheVariants.{InGeneral, InRecord}
use Rattle.fault.specs.declared.FaultAnswer.{FaultAnswer}
use Rattle.numbers.specs.Refusal.{refusal_number}
use Rattle.dials.specs.List.{list_rows, list_tests, answer_of, bytes_of}
use Rattle.number_texts.specs.Text.{text_tests, text_answer, text_bytes}
use Rattle.table.specs.Table.{table_of}
use Rattle.report.specs.Report.{report_rows, report_tests, answer_of as report_answer, bytes_of as report_bytes}
use Rattle.census.specs.declared.Census.{Census}
use Rattle.airtime.specs.Airtime.{airtime_tests, airtime_answer, airtime_left, totals_of}
use Rattle.flat_answers.specs.declared.FlatAirtime.{FlatAirtime}
use Rattle.given.specs.Given.{Runs}
use Rattle.given.specs.declared.Fields.{Fields}
use Rattle.writer.specs.Write.{room_test, image_answer, image_bytes, image_from, write_tests}
use Rattle.convert.specs.Convert.{raise_tests, lower_tests, raised_of, lowered_of}
use Rattle.amended.specs.Amended.{effective_of}
use Rattle.amend.specs.Amend.{amend_tests}
use Rattle.nearest.specs.declared.Nearest.{Nearest}
use Rattle.nearest.specs.declared.Nearest.TheVariants.{Dial, NoneAllowed, NotJudged}
use Rattle.flat_answers.specs.declared.FlatDistance.{FlatDistance}
use Rattle.flat_answers.specs.declared.FlatNearest.{FlatNearest}
use Rattle.flat_answers.specs.declared.FlatFields.{FlatFields}
use Rattle.flat_answers.specs.declared.FlatTidiness.{FlatTidiness}
use Rattle.flat_answers.specs.declared.FlatDials.{FlatDials}
use Rattle.flat_answers.specs.declared.FlatReport.{FlatReport}
use Rattle.flat_answers.specs.declared.FlatImage.{FlatImage}
use Rattle.flat_answers.specs.declared.FlatCensus.{FlatCensus}
use Rattle.flat_answers.specs.declared.FlatFault.{FlatFault}
use Rattle.flat_answers.specs.declared.FlatText.{FlatText}

-- the edition and the general block that arrive
unfoldable pub fields_of : FlatFields → Fields
fields_of f =
    record {
      edition = f.edition;
      data_limit = f.data_limit;
      elsewhere_limit = f.elsewhere_limit;
      channel_width = f.channel_width;
      carrier_offset = f.carrier_offset;
      carrier_tolerance = f.carrier_tolerance;
      channel_watts = f.channel_watts;
      segment_watts = f.segment_watts;
      region = f.region;
      reading = f.reading;
      flags = f.flags;
      channel_band = f.channel_band;
      sideband = f.sideband;
      emissions = f.emissions;
      data_rule = f.data_rule;
      elsewhere_rule = f.elsewhere_rule;
      automatic_rule = f.automatic_rule;
      channels_rule = f.channels_rule;
      emissions_rule = f.emissions_rule;
      privileges_rule = f.privileges_rule;
    }

-- the number of an answer that is one number, or 0; and the number of its refusal, or 0
abbrev pub told_of : Result ℕ Refusal → ℕ
told_of (Ok n) = n
told_of (Err r) = 0

abbrev pub refused_by : Result ℕ Refusal → ℕ
refused_by (Ok n) = 0
refused_by (Err r) = number_of r

-- the tidy question's answer: tidy is 1 only where the image is accepted too
abbrev pub tidiness_flat : Result Bool Refusal → FlatTidiness
tidiness_flat (Ok false) = record { tidy = 0; refusal = 0 }
tidiness_flat (Ok true) = record { tidy = 1; refusal = 0 }
tidiness_flat (Err n) = record { tidy = 0; refusal = number_of n }

-- where a table is wrong: a table is below 9 and a record below 256 (Fits); where there is none they are 255 and 65,535
abbrev pub fault_table : Option Fault → ℕ
fault_table (Some (InRecord t i)) = t
fault_table (Some InGeneral) = 255
fault_table None = 255

abbrev pub fault_record : Option Fault → ℕ
fault_record (Some (InRecord t i)) = i
fault_record (Some InGeneral) = 65535
fault_record None = 65535

abbrev pub fault_flat : FaultAnswer → FlatFault
fault_flat a =
    record {
      «record» = fault_record a.fault;
      table = fault_table a.fault;
      place = fault_number a.fault;
      refusal = refusal_number a.refusal;
    }

-- a dial list: "A refusal gives its number, … count 0"; a count is at most 16,777,472 (Fits)
abbrev pub dials_flat : Result ℕ Refusal → FlatDials
dials_flat (Ok n) = record { count = n; refusal = 0 }
dials_flat (Err n) = record { count = 0; refusal = number_of n }

-- what the exported list promises: the flat form of the answer, and every byte of the rows lent
pub record FlatDialed (r : StationRecord) (direction : ℕ) (e : Edges) (l lent left : List ℕ) (answer : FlatDials) : Type 0 where
  pub answered : answer ≡ dials_flat (answer_of (refusal_of (list_tests r direction e l lent)) (list_rows r direction e l))
  pub bytes : left ≡ bytes_of (refusal_of (list_tests r direction e l lent)) (list_rows r direction e l) lent

-- a table report: its count of rows, at most 262,400 (Fits), or a refusal's number and count 0
abbrev pub report_flat : Result ℕ Refusal → FlatReport
report_flat (Ok n) = record { count = n; refusal = 0 }
report_flat (Err n) = record { count = 0; refusal = number_of n }

-- what the exported report promises: the flat form of the answer, and every byte of the rows lent
pub record FlatReported (l : List ℕ) (class : ℕ) (lent left : List ℕ) (answer : FlatReport) : Type 0 where
  pub answered : answer ≡ report_flat (report_answer (refusal_of (report_tests l class lent)) (report_rows (table_of l) class))
  pub bytes : left ≡ report_bytes (refusal_of (report_tests l class lent)) (report_rows (table_of l) class) lent

-- an image that was written: its length, at most 65,552, or a refusal's number and length 0
abbrev pub image_flat : Result ℕ Refusal → FlatImage
image_flat (Ok n) = record { length = n; refusal = 0 }
image_flat (Err n) = record { length = 0; refusal = number_of n }

-- what an export that writes an image promises: the flat form of the answer, and every byte lent
pub record FlatLeft (c : Checked) (image lent left : List ℕ) (answer : FlatImage) : Type 0 where
  pub answered : answer ≡ image_flat (image_answer c image)
  pub bytes : left ≡ image_bytes c image lent

abbrev pub FlatWritten : FlatFields → Runs → List ℕ → List ℕ → FlatImage → Type 0
FlatWritten f r lent left answer =
    FlatLeft (refusal_of (write_tests (fields_of f) f.counts r lent)) (image_from (fields_of f) f.counts r) lent left answer

abbrev pub FlatRaised : List ℕ → List ℕ → List ℕ → FlatImage → Type 0
FlatRaised l lent left answer = FlatLeft (refusal_of (raise_tests l ++ room_test (raised_of l) lent)) (raised_of l) lent left answer

abbrev pub FlatLowered : List ℕ → List ℕ → List ℕ → FlatImage → Type 0
FlatLowered l lent left answer = FlatLeft (refusal_of (lower_tests l ++ room_test (lowered_of l) lent)) (lowered_of l) lent left answer

abbrev pub FlatAmended : List ℕ → List ℕ → ℕ → List ℕ → List ℕ → FlatImage → Type 0
FlatAmended l a day lent left answer = FlatLeft (refusal_of (amend_tests l a day lent)) (effective_of l a day) lent left answer

-- a census: its counts, or a refusal's number and noughts
abbrev pub census_flat : Census → FlatCensus
census_flat c = record { counts = c.counts; refusal = refusal_number c.refusal }

-- how far a dial stands from no row: infinitely, so never nought
abbrev pub infinity_hz : Float
infinity_hz = of_bits binary64 0x7ff0_0000_0000_0000

-- a distance: listed is 1 where there is one
abbrev pub distance_flat : Result (Option Float) Refusal → FlatDistance
distance_flat (Ok (Some x)) = record { distance_hz = x; listed = 1; refusal = 0 }
distance_flat (Ok None) = record { distance_hz = infinity_hz; listed = 0; refusal = 0 }
distance_flat (Err n) = record { distance_hz = infinity_hz; listed = 0; refusal = number_of n }

-- the nearest dial: answer is 1 where there is one, 2 where there is none, 3 where that was not judged, and 0 with a refusal
abbrev pub nearest_flat : Result Nearest Refusal → FlatNearest
nearest_flat (Ok (Dial x)) = record { dial_hz = x; answer = 1; refusal = 0 }
nearest_flat (Ok NoneAllowed) = record { dial_hz = infinity_hz; answer = 2; refusal = 0 }
nearest_flat (Ok NotJudged) = record { dial_hz = infinity_hz; answer = 3; refusal = 0 }
nearest_flat (Err n) = record { dial_hz = infinity_hz; answer = 0; refusal = number_of n }

-- a text: its length, or a refusal's number and length 0
abbrev pub text_flat : Result ℕ Refusal → FlatText
text_flat (Ok n) = record { length = n; refusal = 0 }
text_flat (Err n) = record { length = 0; refusal = number_of n }

-- what the exported texts promise: the flat form of the answer, and every byte lent
pub record FlatTexted (hz : Float) (text lent left : List ℕ) (answer : FlatText) : Type 0 where
  pub answered : answer ≡ text_flat (text_answer (refusal_of (text_tests hz text lent)) text)
  pub bytes : left ≡ text_bytes (refusal_of (text_tests hz text lent)) text lent

-- time on the air: how many totals there are, or a refusal's number and count 0
abbrev pub airtime_flat : Result ℕ Refusal → FlatAirtime
airtime_flat (Ok n) = record { count = n; refusal = 0 }
airtime_flat (Err n) = record { count = 0; refusal = number_of n }

-- what the exported totals promise: the flat form of the answer, and every element lent
pub record FlatTotalled (starts bands seconds lent left : List ℕ) (answer : FlatAirtime) : Type 0 where
  pub answered : answer ≡ airtime_flat (airtime_answer (refusal_of (airtime_tests starts bands seconds lent)) (length starts))
  pub elements : left ≡ airtime_left (refusal_of (airtime_tests starts bands seconds lent)) (totals_of starts bands seconds) lent
