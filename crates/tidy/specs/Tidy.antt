-- "A table is tidy if each data segment lies in a band of its number, and no two bands, no two segments, and no two privileges of one
-- class share a stretch of positive length."
use Rattle.std.specs.Prelude.{ℕ, Bool, true, false, not, cond, ◌&&◌, List, Result, Ok, Err}
use Rattle.codes.specs.Refusal.{Checked}
use Rattle.codes.specs.declared.Refusal.{Refusal}
use Rattle.scan.specs.First.{some}
use Rattle.layout.specs.Layout.{bands, segments, privileges}
use Rattle.layout.specs.declared.Record.{Record}
use Rattle.table.specs.Parts.{span_of}
use Rattle.table.specs.Table.{Table, table_of}
use Rattle.find.specs.Question.{asks, homeless_of}
use Rattle.find.specs.declared.Question.{Question}
use Rattle.find.specs.declared.Question.TheVariants.{Shares, ClassShares}
use Rattle.image.specs.Check.{check_of}

-- what a record is asked of another: that they share a stretch, and, where classes count, that they are of one class
abbrev pub pair_question : Bool → Record → Question
pair_question classes r = cond classes (ClassShares r.class (span_of r)) (Shares (span_of r))

-- record j shares a stretch with an earlier record of the table
abbrev pub shares_earlier : Table → ℕ → Bool → ℕ → Bool
shares_earlier table t classes j = some (λ i. asks (pair_question classes (table.at t j)) (table.at t i)) j

-- two records of table t share a stretch of positive length
unfoldable pub two_share : Table → ℕ → Bool → Bool
two_share table t classes = some (shares_earlier table t classes) (table.count t)

unfoldable pub tidy_table : Table → Bool
tidy_table table =
    not (homeless_of table true)
    && (not (two_share table bands false) && (not (two_share table segments false) && not (two_share table privileges true)))

-- the tidy question's answer on an image, after refusals 1 to 14
abbrev pub tidiness_of : Checked → Bool → Result Bool Refusal
tidiness_of (Err n) tidy = Err n
tidiness_of (Ok tt) tidy = Ok tidy

abbrev pub tidy_of : List ℕ → Result Bool Refusal
tidy_of l = tidiness_of (check_of l) (tidy_table (table_of l))
