-- A table as the rules speak of it: the general block, and for each of the nine tables how many records it has and which. Nothing lies past
-- them. What an image's bytes hold is such a table; two images in form that hold the same one are the same to every rule.
use Rattle.std.specs.Prelude.{ℕ, cond, List, ltb}
use Rattle.layout.specs.Layout.{tables, general_of, count_of, record_of}
use Rattle.layout.specs.declared.Record.{Record}
use Rattle.layout.specs.declared.General.{General}

pub record Table : Type 0 where
  pub general : General
  -- the records of table t, in the image's order of tables
  pub count : ℕ → ℕ
  -- record i of table t
  pub at : ℕ → ℕ → Record

-- what stands past the last record of a table
abbrev pub no_record : Record
no_record =
    record { low = 0; high = 0; figure = 0; band = 0; class = 0; emissions = 0; flags = 0; rule = 0; second_rule = 0 }

-- ---- the table that an image's bytes hold

abbrev pub count_in : List ℕ → ℕ → ℕ
count_in l t = cond (ltb t tables) (count_of l t) 0

unfoldable pub record_in : List ℕ → ℕ → ℕ → Record
record_in l t i = cond (ltb i (count_in l t)) (record_of l t i) no_record

abbrev pub table_of : List ℕ → Table
table_of l = record { general = general_of l; count = count_in l; at = record_in l }
