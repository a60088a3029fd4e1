-- Rows read back from their bytes.
use Rattle.std.specs.Prelude.{ℕ, zero, suc, ◌+◌, ◌*◌, ◌<◌, ◌≡◌, refl, T, length, drop, Float}
use mathlib.Core.List.{List, [], ◌∷◌, ◌++◌, append_assoc}
use Rattle.std.proofs.Math.Path.{sym, ap}
use Rattle.std.proofs.Common.{◌∙◌, length-append, drop_at, drop-drop, get_or-drop}
use native.Mathlib.Omega.{arith}
use Rattle.std.proofs.Math.ListN.{get_or}
use Rattle.std.specs.Float.{binary64}
use Rattle.std.specs.Float.Ieee.{fits}
use Rattle.figures.specs.Figure.{figure_of}
use Rattle.layout.specs.Bytes.{u16_at, u64_at}
use Rattle.byte_writes.specs.Bytes.{figure_bytes, little}
use Rattle.byte_writes.specs.Laws.{eight, figure_after, u16_drop, u64_drop}
use Rattle.lists.specs.Laws.{Every}
use Rattle.rows.specs.Rows.{row_size, encode_row, encode_all, low_at, high_at, row_band, row_at}
use Rattle.rows.specs.Turns.{length_row}
use Rattle.rows.specs.Back.{tail_of, parts, two_figures, opened, low_back}
use Rattle.rows.specs.declared.SafeDial.{SafeDial}

-- the four figures of a row are a double's, and its rule is of 16 bits
pub record Sound (x : SafeDial) : Type 0 where
  pub low : T (fits binary64 x.segment.low_hz)
  pub high : T (fits binary64 x.segment.high_hz)
  pub dial_low_holds : T (fits binary64 x.dial_low_hz)
  pub dial_high_holds : T (fits binary64 x.dial_high_hz)
  pub rule : x.rule < 65536

three_figures : (a b c : Float) → length (figure_bytes a ++ (figure_bytes b ++ figure_bytes c)) ≡ 24
three_figures a b c =
    let p : length (figure_bytes a) ≡ 8 = eight a in
    let q : length (figure_bytes b ++ figure_bytes c) ≡ 16 = two_figures b c in
    length-append (figure_bytes a) (figure_bytes b ++ figure_bytes c) ∙ omega arith

four_figures : (a b c d : Float) → length (figure_bytes a ++ (figure_bytes b ++ (figure_bytes c ++ figure_bytes d))) ≡ 32
four_figures a b c d =
    let p : length (figure_bytes a) ≡ 8 = eight a in
    let q : length (figure_bytes b ++ (figure_bytes c ++ figure_bytes d)) ≡ 24 = three_figures b c d in
    length-append (figure_bytes a) (figure_bytes b ++ (figure_bytes c ++ figure_bytes d)) ∙ omega arith

module _ (x : SafeDial) (t : List ℕ) where
  segment_low_back : T (fits binary64 x.segment.low_hz) → figure_of (u64_at (encode_row x ++ t) 0) ≡ x.segment.low_hz
  segment_low_back h = rw (parts x t) (figure_after x.segment.low_hz [] _ 0 refl h)

  segment_high_back : T (fits binary64 x.segment.high_hz) → figure_of (u64_at (encode_row x ++ t) 8) ≡ x.segment.high_hz
  segment_high_back h =
      rw (parts x t) (figure_after x.segment.high_hz (figure_bytes x.segment.low_hz) _ 8 (eight x.segment.low_hz) h)

  pub high_back : T (fits binary64 x.dial_high_hz) → high_at (encode_row x ++ t) 0 ≡ x.dial_high_hz
  high_back h =
      let a = figure_bytes x.segment.low_hz in
      let b = figure_bytes x.segment.high_hz in
      let c = figure_bytes x.dial_low_hz in
      let r = figure_bytes x.dial_high_hz ++ (tail_of x ++ t) in
      let e : encode_row x ++ t ≡ (a ++ (b ++ c)) ++ r = parts x t ∙ simp append_assoc in
      rw e (figure_after x.dial_high_hz (a ++ (b ++ c))
      (tail_of x ++ t) 24 (three_figures x.segment.low_hz x.segment.high_hz x.dial_low_hz) h)

  -- past the figures
  past : drop 32 (encode_row x ++ t) ≡ tail_of x ++ t
  past =
      let a = figure_bytes x.segment.low_hz in
      let b = figure_bytes x.segment.high_hz in
      let c = figure_bytes x.dial_low_hz in
      let d = figure_bytes x.dial_high_hz in
      let e : encode_row x ++ t ≡ (a ++ (b ++ (c ++ d))) ++ (tail_of x ++ t) = parts x t ∙ simp append_assoc in
      rw e
      (drop_at (a ++ (b ++ (c ++ d))) (tail_of x ++ t) 32
      (four_figures x.segment.low_hz x.segment.high_hz x.dial_low_hz x.dial_high_hz))

  pub band_back : row_band (encode_row x ++ t) 0 ≡ x.band
  unfolding tail_of
  band_back = sym (get_or-drop 32 (encode_row x ++ t) 0 0) ∙ ap (λ (m : List ℕ). get_or m 0 0) past

  rule_back : x.rule < 65536 → u16_at (encode_row x ++ t) 34 ≡ x.rule
  unfolding tail_of u16_at little
  rule_back h = sym (u16_drop (encode_row x ++ t) 32 2) ∙ ap (λ (m : List ℕ). u16_at m 2) past ∙ omega arith

  pub row_back : Sound x → row_at (encode_row x ++ t) 0 ≡ x
  unfolding row_at
  row_back s =
      rw (segment_low_back s.low)
      (rw (segment_high_back s.high)
      (rw (low_back x t s.dial_low_holds)
      (rw (high_back s.dial_high_holds)
      (rw band_back
      (rw (rule_back s.rule))))))

-- ---- the rows of a list

-- the bytes of the list from row i on begin with row i
pub row_in :
    (xs : List SafeDial) (rest : List ℕ) (i : ℕ) (d : SafeDial) → i < length xs
    → drop (i * row_size) (encode_all xs ++ rest) ≡ encode_row (get_or xs i d) ++ (encode_all (drop (i + 1) xs) ++ rest)
row_in [] rest i d h = absurd (omega arith)
row_in (x ∷ xs) rest zero d h = ap (λ (m : List ℕ). m ++ rest) (opened x xs) ∙ append_assoc (encode_row x) (encode_all xs) rest
row_in (x ∷ xs) rest (suc i) d h =
    let e : suc i * row_size ≡ row_size + i * row_size = omega arith in
    let f : suc i + 1 ≡ suc (i + 1) = omega arith in
    let b : encode_all (x ∷ xs) ++ rest ≡ encode_row x ++ (encode_all xs ++ rest) =
    ap (λ (m : List ℕ). m ++ rest) (opened x xs) ∙ append_assoc (encode_row x) (encode_all xs) rest in
    rw f
    (ap (λ (k : ℕ). drop k (encode_all (x ∷ xs) ++ rest)) e
    ∙ sym (drop-drop (i * row_size) row_size (encode_all (x ∷ xs) ++ rest))
    ∙ ap (λ (m : List ℕ). drop (i * row_size) m) (ap (λ (m : List ℕ). drop row_size m) b ∙ drop_at (encode_row x) (encode_all xs ++ rest) row_size (length_row x))
    ∙ row_in xs rest i d (omega arith))

-- a row read at its place
low_drop : (l : List ℕ) (m : ℕ) → low_at l m ≡ low_at (drop m l) 0
low_drop l m = ap figure_of (sym (u64_drop l m 16))

high_drop : (l : List ℕ) (m : ℕ) → high_at l m ≡ high_at (drop m l) 0
high_drop l m = ap figure_of (sym (u64_drop l m 24))

band_drop : (l : List ℕ) (m : ℕ) → row_band l m ≡ row_band (drop m l) 0
band_drop l m = sym (get_or-drop m l 32 0)

row_drop : (l : List ℕ) (m : ℕ) → row_at l m ≡ row_at (drop m l) 0
unfolding row_at
row_drop l m =
    let z : m + 0 ≡ m = omega arith in
    let a : u64_at (drop m l) 0 ≡ u64_at l m = u64_drop l m 0 ∙ ap (λ (k : ℕ). u64_at l k) z in
    rw (a, u64_drop l m 8, u64_drop l m 16, u64_drop l m 24, get_or-drop m l 32 0, u16_drop l m 34)

module _ (xs : List SafeDial) (rest : List ℕ) (i : ℕ) (d : SafeDial) (h : i < length xs) where
  pub low_of :
      T (fits binary64 (get_or xs i d).dial_low_hz) → low_at (encode_all xs ++ rest) (i * row_size) ≡ (get_or xs i d).dial_low_hz
  low_of f =
      low_drop (encode_all xs ++ rest) (i * row_size) ∙ ap (λ (m : List ℕ). low_at m 0) (row_in xs rest i d h)
      ∙ low_back (get_or xs i d) (encode_all (drop (i + 1) xs) ++ rest) f

  pub high_of_holds :
      T (fits binary64 (get_or xs i d).dial_high_hz) → high_at (encode_all xs ++ rest) (i * row_size) ≡ (get_or xs i d).dial_high_hz
  high_of_holds f =
      high_drop (encode_all xs ++ rest) (i * row_size) ∙ ap (λ (m : List ℕ). high_at m 0) (row_in xs rest i d h)
      ∙ high_back (get_or xs i d) (encode_all (drop (i + 1) xs) ++ rest) f

  pub band_of_holds : row_band (encode_all xs ++ rest) (i * row_size) ≡ (get_or xs i d).band
  band_of_holds =
      band_drop (encode_all xs ++ rest) (i * row_size) ∙ ap (λ (m : List ℕ). row_band m 0) (row_in xs rest i d h)
      ∙ band_back (get_or xs i d) (encode_all (drop (i + 1) xs) ++ rest)

  pub row_of : Sound (get_or xs i d) → row_at (encode_all xs ++ rest) (i * row_size) ≡ get_or xs i d
  row_of s =
      row_drop (encode_all xs ++ rest) (i * row_size) ∙ ap (λ (m : List ℕ). row_at m 0) (row_in xs rest i d h)
      ∙ row_back (get_or xs i d) (encode_all (drop (i + 1) xs) ++ rest) s

-- n rows, read from the first byte on
unfoldable pub decode_rows : ℕ → List ℕ → List SafeDial
decode_rows zero l = []
decode_rows (suc n) l = row_at l 0 ∷ decode_rows n (drop row_size l)

-- Decoding the bytes of a list gives the list back.
pub rows_back : (xs : List SafeDial) (rest : List ℕ) → Every Sound xs → decode_rows (length xs) (encode_all xs ++ rest) ≡ xs
unfolding decode_rows
rows_back [] rest s = refl
rows_back (x ∷ xs) rest s =
    let b : encode_all (x ∷ xs) ++ rest ≡ encode_row x ++ (encode_all xs ++ rest) =
    ap (λ (m : List ℕ). m ++ rest) (opened x xs) ∙ append_assoc (encode_row x) (encode_all xs) rest in
    rw b
    (rw (row_back x (encode_all xs ++ rest) s.0)
    (rw (drop_at (encode_row x) (encode_all xs ++ rest) row_size (length_row x))
    (rw (rows_back xs rest s.1))))
