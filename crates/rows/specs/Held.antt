-- What the code does to the bytes of rows, and that it is what the definition says of the rows.
use Rattle.std.specs.Prelude.{ℕ, zero, suc, ◌+◌, ◌*◌, ◌-◌, ◌/◌, Bool, true, cond, List, length, take, drop, ltb, Float}
use Rattle.std.proofs.lemmas.List.Edits.{sets}
use Rattle.std.specs.Float.Ieee.{lt}
use Rattle.figures.specs.Figure.{total_less}
use Rattle.profile.specs.Range.{range}
use Rattle.rows.specs.Rows.{row_size, low_at, encode_row}
use Rattle.rows.specs.declared.SafeDial.{SafeDial}

-- the place of a lower dial among the first rows, looked for from the last one down: after the first that does not lie above it
unfoldable pub place_at : Float → ℕ → List ℕ → ℕ
place_at key zero l = 0
place_at key (suc n) l = cond (total_less key (low_at l (n * row_size))) (place_at key n l) (suc n)

-- the last row lies below a lower dial, or there is none
unfoldable pub follows_at : Float → ℕ → List ℕ → Bool
follows_at key zero l = true
follows_at key (suc n) l = lt (low_at l (n * row_size)) key

-- the bytes from a place up to the end of the first n rows, moved up by a row, and the row put into the gap
unfoldable pub insert_from : SafeDial → ℕ → ℕ → List ℕ → List ℕ
insert_from x at to l = sets (sets l (at + row_size) (take (to - at) (drop at l))) at (encode_row x)

unfoldable pub insert_at : SafeDial → ℕ → List ℕ → List ℕ
insert_at x n l = insert_from x (place_at x.dial_low_hz n l * row_size) (n * row_size) l

-- a row of its parts
abbrev pub row_of : ℕ → ℕ → Float → Float → Float → Float → SafeDial
row_of band rule low high dial_low dial_high =
    record {
      band = band;
      segment = range low high;
      rule = rule;
      dial_low_hz = dial_low;
      dial_high_hz = dial_high;
    }

-- where there is room for one row more
unfoldable pub offer_at : SafeDial → ℕ → List ℕ → List ℕ
offer_at x n l = cond (ltb n (length l / row_size)) (insert_at x n l) l
