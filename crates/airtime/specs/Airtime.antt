-- Time on the air (document 02, 12), of a run of records: start seconds, bands and seconds on the air, each a run of numbers.
use Rattle.std.specs.Prelude.{ℕ, zero, suc, ◌+◌, ◌-◌, Bool, cond, not, ◌&&◌, List, [], ◌∷◌, ◌≡◌, eqb, leb, ltb, get_or, length, Result, Ok, Err}
use Rattle.codes.specs.declared.Refusal.TheVariants as refusal
use Rattle.codes.specs.Refusal.{Checked, Test, test, refusal_of}
use Rattle.codes.specs.declared.Refusal.{Refusal}
use Rattle.scan.specs.First.{some}
use Rattle.lists.specs.Each.{each}

-- ---- one record's total

-- the sum of what the indices below n give
unfoldable pub sum : ℕ → (ℕ → ℕ) → ℕ
sum zero f = 0
sum (suc n) f = sum n f + f n

-- record j starts "at most 599 seconds before" record i
abbrev pub recent : List ℕ → ℕ → ℕ → Bool
recent starts i j = leb (get_or starts i 0) (get_or starts j 0 + 599)

-- the seconds of record j, if it is of the band
abbrev pub of_band : List ℕ → List ℕ → ℕ → ℕ → ℕ
of_band bands seconds band j = cond (eqb (get_or bands j 0) band) (get_or seconds j 0) 0

-- "for each record the seconds of its band, summed in u64, over itself and the earlier records that start at most 599 seconds before it"
unfoldable pub total_of : List ℕ → List ℕ → List ℕ → ℕ → ℕ
total_of starts bands seconds i = sum (suc i) (λ j. cond (recent starts i j) (of_band bands seconds (get_or bands i 0) j) 0)

-- "the sum worked out afresh at every record"
unfoldable pub totals_of : List ℕ → List ℕ → List ℕ → List ℕ
totals_of starts bands seconds = each (length starts) (λ i. total_of starts bands seconds i ∷ [])

-- ---- the call

-- "a start below the one before"
unfoldable pub falls_of : List ℕ → Bool
falls_of starts = some (λ i. ltb (get_or starts (i + 1) 0) (get_or starts i 0)) (length starts - 1)

-- by their lengths, "runs of unequal length, the output's included, or of over 65,536 records" do not fit
abbrev pub runs_fit : ℕ → ℕ → ℕ → ℕ → Bool
runs_fit starts bands seconds lent = leb starts 65536 && (eqb bands starts && (eqb seconds starts && eqb lent starts))

-- "It refuses (31) .. and (32, next) .., output untouched."
abbrev pub airtime_tests : List ℕ → List ℕ → List ℕ → List ℕ → List Test
airtime_tests starts bands seconds lent =
    test refusal.Starts (falls_of starts) ∷ test refusal.Runs (not (runs_fit (length starts) (length bands) (length seconds) (length lent))) ∷ []

abbrev pub airtime_answer : Checked → ℕ → Result ℕ Refusal
airtime_answer (Ok tt) n = Ok n
airtime_answer (Err k) n = Err k

-- each element of the output is its record's total; with a refusal, what was lent
abbrev pub airtime_left : Checked → List ℕ → List ℕ → List ℕ
airtime_left (Ok tt) totals lent = totals
airtime_left (Err k) totals lent = lent

-- an answer and the elements that were left
pub record Left (c : Checked) (n : ℕ) (totals lent left : List ℕ) (answer : Result ℕ Refusal) : Type 0 where
  pub answered : answer ≡ airtime_answer c n
  pub elements : left ≡ airtime_left c totals lent

-- what the call promises
abbrev pub Totalled : List ℕ → List ℕ → List ℕ → List ℕ → List ℕ → Result ℕ Refusal → Type 0
Totalled starts bands seconds lent left answer =
    Left (refusal_of (airtime_tests starts bands seconds lent)) (length starts) (totals_of starts bands seconds) lent left answer
