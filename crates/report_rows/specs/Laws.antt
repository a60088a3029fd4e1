-- Field after field, a row is what its definition says; and rows that all have room stand one behind the other.
use Rattle.std.specs.Prelude.{ℕ, suc, ◌+◌, ◌*◌, ◌-◌, ◌/◌, ◌≤◌, List, [], ◌∷◌, ◌++◌, ◌≡◌, refl, length, drop}
use Rattle.std.proofs.Common.{append_assoc, sym, ap, ◌∙◌, arith, length-append, length-drop, drop-drop, take_at, lt-ltb}
use Rattle.std.proofs.lemmas.List.Edits.{sets, sets-eq}
use Rattle.std.proofs.Math.Seq.{drop-append-add}
use Rattle.byte_writes.specs.Bytes.{little, figure_bytes}
use Rattle.byte_writes.specs.Laws.{eight, length_little, sets_next}
use Rattle.lists.specs.Pour.{pour}
use Rattle.report_rows.specs.Rows.{row_size, kind_byte, class_byte, stretch_bytes, mark_bytes, encode_row, encode_all, offer_at}
use Rattle.report_rows.specs.declared.ReportRow.{ReportRow}

length_stretch : (x : ReportRow) → length (stretch_bytes x) ≡ 16
unfolding stretch_bytes
length_stretch x = simp (length-append, length_little)

length_marks : (x : ReportRow) → length (mark_bytes x) ≡ 8
unfolding mark_bytes
length_marks x = simp (length-append, length_little)

pub length_row : (x : ReportRow) → length (encode_row x) ≡ row_size
unfolding encode_row
length_row x = simp (length-append, length_stretch, length_marks)

pub length_all : (xs : List ReportRow) → length (encode_all xs) ≡ length xs * row_size
unfolding encode_all
length_all [] = refl
length_all (x ∷ xs) =
    let a : length (encode_row x ++ encode_all xs) ≡ length (encode_row x) + length (encode_all xs) = length-append (encode_row x) (encode_all xs) in
    let b : length (encode_row x) ≡ row_size = length_row x in
    let c : length (encode_all xs) ≡ length xs * row_size = length_all xs in
    omega arith

-- the fields of a row, one after the other
pub stretch_set :
    (x : ReportRow) (l : List ℕ) (at : ℕ)
    → sets (sets l at (figure_bytes x.stretch.low_hz)) (at + 8) (figure_bytes x.stretch.high_hz) ≡ sets l at (stretch_bytes x)
unfolding stretch_bytes
stretch_set x l at =
    let e = eight x.stretch.low_hz in
    sets_next (figure_bytes x.stretch.low_hz) (figure_bytes x.stretch.high_hz) l at (at + 8) (omega arith)

pub marks_set :
    (x : ReportRow) (l : List ℕ) (at : ℕ)
    → sets (sets (sets (sets (sets l at (little 1 (kind_byte x.kind))) (at + 1) (little 1 (class_byte x.class))) (at + 2) (little 2 x.first))
    (at + 4) (little 2 x.second)) (at + 6) (little 2 0)
    ≡ sets l at (mark_bytes x)
unfolding mark_bytes
marks_set x l at =
    let k = little 1 (kind_byte x.kind) in
    let c = little 1 (class_byte x.class) in
    let i = little 2 x.first in
    let j = little 2 x.second in
    let z = little 2 0 in
    let lk = length_little 1 (kind_byte x.kind) in
    let lc = length_little 1 (class_byte x.class) in
    let li = length_little 2 x.first in
    let lj = length_little 2 x.second in
    sets_next j z (sets (sets (sets l at k) (at + 1) c) (at + 2) i) (at + 4) (at + 6) (omega arith)
    ∙ sets_next i (j ++ z) (sets (sets l at k) (at + 1) c) (at + 2) (at + 4) (omega arith)
    ∙ sets_next c (i ++ (j ++ z)) (sets l at k) (at + 1) (at + 2) (omega arith)
    ∙ sets_next k (c ++ (i ++ (j ++ z))) l at (at + 1) (omega arith)

pub row_set : (x : ReportRow) (l : List ℕ) (at : ℕ) → sets (sets l at (stretch_bytes x)) (at + 16) (mark_bytes x) ≡ sets l at (encode_row x)
unfolding encode_row
row_set x l at = let e = length_stretch x in sets_next (stretch_bytes x) (mark_bytes x) l at (at + 16) (omega arith)

-- a row behind bytes that are whole rows
offer_behind :
    (x : ReportRow) (n : ℕ) (held rest : List ℕ) → length held ≡ n * row_size → row_size ≤ length rest
    → offer_at x n (held ++ rest) ≡ (held ++ encode_row x) ++ drop row_size rest
unfolding offer_at
offer_behind x n held rest e h =
    let a : length (held ++ rest) ≡ length held + length rest = length-append held rest in
    let b : length (encode_row x) ≡ row_size = length_row x in
    let f : n * row_size + length (encode_row x) ≤ length (held ++ rest) = omega arith in
    let d : n * row_size + length (encode_row x) ≡ length held + row_size = omega arith in
    rw (lt-ltb n (length (held ++ rest) / row_size) (omega arith))
    (sets-eq (encode_row x) (held ++ rest) (n * row_size) f
    ∙ ap (λ (m : List ℕ). m ++ encode_row x ++ drop (n * row_size + length (encode_row x)) (held ++ rest)) (take_at held rest (n * row_size) e)
    ∙ ap (λ (k : ℕ). held ++ encode_row x ++ drop k (held ++ rest)) d
    ∙ ap (λ (m : List ℕ). held ++ encode_row x ++ m) (drop-append-add held rest row_size))

pour_behind :
    (xs : List ReportRow) (n : ℕ) (held rest : List ℕ) → length held ≡ n * row_size → length xs * row_size ≤ length rest
    → pour offer_at (held ++ rest) n xs ≡ held ++ (encode_all xs ++ drop (length xs * row_size) rest)
unfolding pour encode_all
pour_behind [] n held rest e h = refl
pour_behind (x ∷ xs) n held rest e h =
    let a : length (held ++ encode_row x) ≡ length held + length (encode_row x) = length-append held (encode_row x) in
    let b : length (encode_row x) ≡ row_size = length_row x in
    let c : length (drop row_size rest) ≡ length rest - row_size = length-drop row_size rest in
    let d : suc (length xs) * row_size ≡ row_size + length xs * row_size = omega arith in
    ap (λ (m : List ℕ). pour offer_at m (suc n) xs) (offer_behind x n held rest e (omega arith))
    ∙ pour_behind xs (suc n) (held ++ encode_row x) (drop row_size rest) (omega arith) (omega arith)
    ∙ append_assoc held (encode_row x) (encode_all xs ++ drop (length xs * row_size) (drop row_size rest))
    ∙ ap (λ (m : List ℕ). held ++ (encode_row x ++ (encode_all xs ++ m)))
    (drop-drop (length xs * row_size) row_size rest ∙ ap (λ (k : ℕ). drop k rest) (sym d))
    ∙ ap (λ (m : List ℕ). held ++ m) (sym (append_assoc (encode_row x) (encode_all xs) (drop (suc (length xs) * row_size) rest)))

-- Rows that all have room: they stand first, one behind the other, and every byte after them is as it was.
pub pour_all :
    (l : List ℕ) (xs : List ReportRow) → length xs * row_size ≤ length l → pour offer_at l 0 xs ≡ encode_all xs ++ drop (length xs * row_size) l
pour_all l xs h = pour_behind xs 0 [] l refl h
