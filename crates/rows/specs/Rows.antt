-- A dial list as a list of rows: its order, and its bytes. "A dial row is 36 bytes: segment low, high, dial low, high (f64), band byte,
-- zero byte, u16 rule." The row's offsets stand in this crate alone.
use Rattle.std.specs.Prelude.{ℕ, ◌+◌, cond, List, [], ◌∷◌, ◌++◌, Float}
use Rattle.figures.specs.Figure.{total_less, figure_of}
use Rattle.profile.specs.Range.{range}
use Rattle.layout.specs.Bytes.{byte_at, u16_at, u64_at}
use Rattle.byte_writes.specs.Bytes.{little, figure_bytes}
use Rattle.rows.specs.declared.SafeDial.{SafeDial}

abbrev pub row_size : ℕ
row_size = 36

-- "The dial list is stable by lower dial": a row goes before the first that lies above it, so after every row at its own lower dial.
unfoldable pub insert_row : SafeDial → List SafeDial → List SafeDial
insert_row x [] = x ∷ []
insert_row x (y ∷ ys) = cond (total_less x.dial_low_hz y.dial_low_hz) (x ∷ (y ∷ ys)) (y ∷ insert_row x ys)

-- rows put in one after the other
unfoldable pub insert_all : List SafeDial → List SafeDial → List SafeDial
insert_all held [] = held
insert_all held (x ∷ xs) = insert_all (insert_row x held) xs

-- rows in their order
abbrev pub sorted : List SafeDial → List SafeDial
sorted xs = insert_all [] xs

-- segment low, high, dial low, high
unfoldable pub figures_of : SafeDial → List ℕ
figures_of x =
    figure_bytes x.segment.low_hz ++ (figure_bytes x.segment.high_hz ++ (figure_bytes x.dial_low_hz
    ++ figure_bytes x.dial_high_hz))

unfoldable pub encode_row : SafeDial → List ℕ
encode_row x = figures_of x ++ (x.band ∷ 0 ∷ little 2 x.rule)

-- the bytes of a list
unfoldable pub encode_all : List SafeDial → List ℕ
encode_all [] = []
encode_all (x ∷ xs) = encode_row x ++ encode_all xs

-- ---- a row read back

-- the lower and the upper dial and the band of the row that begins at a place
abbrev pub low_at : List ℕ → ℕ → Float
low_at l at = figure_of (u64_at l (at + 16))

abbrev pub high_at : List ℕ → ℕ → Float
high_at l at = figure_of (u64_at l (at + 24))

abbrev pub row_band : List ℕ → ℕ → ℕ
row_band l at = byte_at l (at + 32)

unfoldable pub row_at : List ℕ → ℕ → SafeDial
row_at l at =
    record {
      band = row_band l at;
      segment = range (figure_of (u64_at l at)) (figure_of (u64_at l (at + 8)));
      rule = u16_at l (at + 34);
      dial_low_hz = low_at l at;
      dial_high_hz = high_at l at;
    }
