-- Laws of the converters: how their tests stand to the image check's, and that what is put is the other edition's image.
use Rattle.std.specs.Prelude.{ℕ, ◌+◌, ◌-◌, ◌≤◌, Bool, true, not, ltb, List, [], ◌++◌, ◌≡◌, refl, eqb, drop, Ok, Err}
use Rattle.codes.specs.declared.Refusal.TheVariants as refusal
use Rattle.codes.specs.Refusal.{Checked, refusal_of}
use Rattle.std.proofs.Math.Bool.{false, cond}
use Rattle.std.proofs.Common.{true≢false, append_assoc, append-nil, ◌∙◌, le_refl, eq-eqb, eqb-true, length-drop, take-append-drop, drop_of_length-le, drop-drop}
use Rattle.std.proofs.lemmas.Bool.{false≢true}
use Rattle.std.proofs.lemmas.Bool.{not-false}
use Rattle.std.proofs.Math.Path.{sym, ap}
use native.Mathlib.Omega.{arith}
use Rattle.std.proofs.Math.ListN.{length, take, length-append}
use Rattle.std.proofs.lemmas.List.Edits.{sets, sets-eq}
use Rattle.std.proofs.Math.Seq.{paste, length-take-le}
use borrow.Rule.Slice.PartMut.{put_mid}
use Rattle.codes.specs.Laws.{none_fails}
use Rattle.layout.specs.Layout.{general_size, watts_size, trailer_size, edition_of, trailer_of, tables_from, fixed_channel_watts, fixed_segment_watts}
use Rattle.layout.specs.Form.{size_wrong, letters_wrong, edition_wrong, counts_wrong, form_tests, Whole}
use Rattle.table.specs.Table.{table_of}
use Rattle.image.specs.Check.{content_tests, check_of}
use Rattle.image.specs.Laws.{accepted_whole}
use Rattle.byte_writes.specs.Laws.{sets_next}
use Rattle.given.specs.Tests.{neither_edition}
use Rattle.writer.specs.Image.{watts_bytes, end_bytes}
use Rattle.writer.specs.Laws.{watts_length, end_length}
use Rattle.convert.specs.Convert.{from_tests, moved_of, raised_of, lowered_of}

-- a refusal that comes before the edition is looked at
abbrev pub early : Checked → Bool
early (Err refusal.ImageLength) = true
early (Err refusal.Letters) = true
early (Err (refusal.Other n)) = ltb n 3
early _ = false

module _ (l : List ℕ) where
  abbrev formed : Bool → Bool → Bool → Bool → Checked
  formed s w e c = cond s (Err refusal.ImageLength) (cond w (Err refusal.Letters) (cond e (Err refusal.Edition) (cond c (Err refusal.Counts) (Ok tt))))

  -- past size and letters
  pub late : early (refusal_of (form_tests l)) ≡ false → (size_wrong l ≡ false) × (letters_wrong l ≡ false)
  late p = go (size_wrong l) (letters_wrong l) (edition_wrong l) (counts_wrong l) p
    where
      go : (s w e c : Bool) → early (formed s w e c) ≡ false → (s ≡ false) × (w ≡ false)
      go true w e c p = absurd (true≢false p)
      go false true e c p = absurd (true≢false p)
      go false false e c p = (refl, refl)

  pub from_early : (edition : ℕ) → early (refusal_of (form_tests l)) ≡ true → refusal_of (form_tests l) ≡ refusal_of (from_tests edition l)
  from_early edition p = go (size_wrong l) (letters_wrong l) (edition_wrong l) (counts_wrong l) _ p
    where
      go :
          (s w e c : Bool) (x : Checked) → early (formed s w e c) ≡ true
          → formed s w e c ≡ cond s (Err refusal.ImageLength) (cond w (Err refusal.Letters) x)
      go true w e c x p = refl
      go false true e c x p = refl
      go false false true c x p = absurd (false≢true p)
      go false false false true x p = absurd (false≢true p)
      go false false false false x p = absurd (false≢true p)

  module _ (edition : ℕ) (size : size_wrong l ≡ false) (lettered : letters_wrong l ≡ false) where
    abbrev tested : Bool → Bool → Bool → Checked
    tested s w e =
        cond s (Err refusal.ImageLength) (cond w (Err refusal.Letters) (cond e (Err refusal.Edition) (cond (counts_wrong l) (Err refusal.Counts) (refusal_of (content_tests (table_of l))))))

    past : (e : Bool) → tested (size_wrong l) (letters_wrong l) e ≡ tested false false e
    past e = ap (λ (s : Bool). tested s (letters_wrong l) e) size ∙ ap (λ (w : Bool). tested false w e) lettered

    pub from_other : eqb (edition_of l) edition ≡ false → Err refusal.Edition ≡ refusal_of (from_tests edition l)
    from_other h = sym (past (not (eqb (edition_of l) edition)) ∙ ap (λ (b : Bool). tested false false (not b)) h)

    pub from_same : neither_edition edition ≡ false → edition_of l ≡ edition → check_of l ≡ refusal_of (from_tests edition l)
    unfolding check_of
    from_same n h =
        past (edition_wrong l)
        ∙ ap (λ (b : Bool). tested false false b) (ap neither_edition h ∙ n)
        ∙ sym (past (not (eqb (edition_of l) edition)) ∙ ap (λ (b : Bool). tested false false (not b)) (eq-eqb _ _ h))

  -- Not refused: an accepted image of that edition.
  pub from_accepted :
      (edition : ℕ) → neither_edition edition ≡ false → refusal_of (from_tests edition l) ≡ Ok tt → (check_of l ≡ Ok tt) × (edition_of l ≡ edition)
  from_accepted edition n e =
      let none = none_fails (from_tests edition l) e in
      let h : edition_of l ≡ edition = eqb-true _ _ (not-false _ none.1.1.0) in
      (from_same edition none.0 none.1.0 n h ∙ e, h)

  pub from_whole : (edition : ℕ) → neither_edition edition ≡ false → refusal_of (from_tests edition l) ≡ Ok tt → Whole l
  from_whole edition n e = accepted_whole l (from_accepted edition n e).0

-- ---- a part of an image, copied

take_whole : (l : List ℕ) (n : ℕ) → length l ≤ n → take n l ≡ l
take_whole l n h = sym (append-nil (take n l)) ∙ ap (λ (m : List ℕ). take n l ++ m) (sym (drop_of_length-le l h)) ∙ take-append-drop n l

pub part_mid :
    (out image part : List ℕ) (to from count : ℕ) → to + count ≤ length out → from + count ≤ length image
    → part ≡ take (from + count - from) (drop from image)
    → put_mid to (to + count - to) out part ≡ sets out to (take count (drop from image))
part_mid out image part to from count h k e =
    let t : to + count - to ≡ count = omega arith in
    let f : from + count - from ≡ count = omega arith in
    let v : length (take count (drop from image)) ≡ count = length-take-le count (drop from image) (rw (length-drop from image) (omega arith)) in
    rw t (rw e (rw f (rw (sets-eq (take count (drop from image)) out to (omega arith)) (rw v (rw (drop-drop count to out) (sym (append_assoc (take to out) (take count (drop from image)) (drop (to + count) out))))))))

-- the same, as a copy into what is behind a place leaves it
pub part_put :
    (out image : List ℕ) (to from count : ℕ) → to + count ≤ length out → from + count ≤ length image
    → take to out ++ (paste (take (length out - to) (drop to out)) 0 (take (length image - from) (drop from image)) count
    ++ drop (length out - to) (drop to out))
    ≡ sets out to (take count (drop from image))
part_put out image to from count h k =
    let part = take count (drop from image) in
    let a : take (length out - to) (drop to out) ≡ drop to out = take_whole (drop to out) (length out - to) (rw (length-drop to out) (le_refl _)) in
    let b : take (length image - from) (drop from image) ≡ drop from image =
    take_whole (drop from image) (length image - from) (rw (length-drop from image) (le_refl _)) in
    let e : drop (length out - to) (drop to out) ≡ [] = drop_of_length-le (drop to out) {i = length out - to} (rw (length-drop to out) (le_refl _)) in
    let z : 0 + count ≡ count = omega arith in
    let v : length part ≡ count = length-take-le count (drop from image) (rw (length-drop from image) (omega arith)) in
    rw a
    (rw b
    (rw e
    (rw z
    (ap (λ (m : List ℕ). take to out ++ m) (append-nil (part ++ drop count (drop to out)))
    ∙ ap (λ (m : List ℕ). take to out ++ (part ++ m)) (drop-drop count to out)
    ∙ sym (append_assoc (take to out) part (drop (to + count) out))
    ∙ sym (sets-eq part out to (omega arith) ∙ ap (λ (i : ℕ). take to out ++ part ++ drop (to + i) out) v)))))

-- ---- the raised image

module _ (l : List ℕ) (h : general_size + trailer_size ≤ length l) where
  moved_length : (from : ℕ) → from + trailer_size ≤ length l → length (moved_of from l) ≡ trailer_of l + 18 - from
  moved_length from k = length-take-le (trailer_of l + 18 - from) (drop from l) (rw (length-drop from l) (omega arith))

  pub raised_length : length (raised_of l) ≡ length l + watts_size
  unfolding raised_of
  raised_length =
      simp length-append
      (omega (
        arith,
        length-take-le general_size l (omega arith),
        watts_length fixed_channel_watts fixed_segment_watts,
        moved_length general_size h,
        end_length (trailer_of l + watts_size) 2,
      ))

  pub raised_set :
      (out : List ℕ) (at : ℕ) → at ≡ length l + 6
      → sets (sets (sets (sets out 0 (take general_size l)) general_size (watts_bytes fixed_channel_watts fixed_segment_watts)) (general_size + watts_size)
      (moved_of general_size l)) at (end_bytes (trailer_of l + watts_size) 2)
      ≡ sets out 0 (raised_of l)
  unfolding raised_of
  raised_set out at e =
      let A = take general_size l in
      let W = watts_bytes fixed_channel_watts fixed_segment_watts in
      let M = moved_of general_size l in
      let E = end_bytes (trailer_of l + watts_size) 2 in
      let a : length A ≡ general_size = length-take-le general_size l (omega arith) in
      let w : length W ≡ watts_size = watts_length fixed_channel_watts fixed_segment_watts in
      let m : length M ≡ trailer_of l + 18 - general_size = moved_length general_size h in
      sets_next M E (sets (sets out 0 A) general_size W) (general_size + watts_size) at (omega arith)
      ∙ sets_next W (M ++ E) (sets out 0 A) general_size (general_size + watts_size) (omega arith)
      ∙ sets_next A (W ++ (M ++ E)) out 0 general_size (omega arith)

-- ---- the lowered image

-- an image of edition 2 has 108 bytes
pub second_sized : (l : List ℕ) → Whole l → edition_of l ≡ 2 → general_size + watts_size + trailer_size ≤ length l
second_sized l w e = omega (arith, w.filled, second_from l e)
  where
    second_from : (l : List ℕ) → edition_of l ≡ 2 → tables_from l ≡ general_size + watts_size
    second_from l e = unfold tables_from in ap (λ (b : Bool). cond b (general_size + watts_size) general_size) (eq-eqb _ _ e)

module _ (l : List ℕ) (h : general_size + watts_size + trailer_size ≤ length l) where
  pub lowered_length : length (lowered_of l) ≡ length l - watts_size
  unfolding lowered_of
  lowered_length =
      simp length-append
      (omega (
        arith,
        length-take-le general_size l (omega arith),
        moved_length l (omega arith) (general_size + watts_size) h,
        end_length (trailer_of l - watts_size) 1,
      ))

  pub lowered_set :
      (out : List ℕ) (at : ℕ) → at + 26 ≡ length l
      → sets (sets (sets out 0 (take general_size l)) general_size (moved_of (general_size + watts_size) l)) at (end_bytes (trailer_of l - watts_size) 1)
      ≡ sets out 0 (lowered_of l)
  unfolding lowered_of
  lowered_set out at e =
      let A = take general_size l in
      let M = moved_of (general_size + watts_size) l in
      let E = end_bytes (trailer_of l - watts_size) 1 in
      let a : length A ≡ general_size = length-take-le general_size l (omega arith) in
      let m : length M ≡ trailer_of l + 18 - (general_size + watts_size) = moved_length l (omega arith) (general_size + watts_size) h in
      sets_next M E (sets out 0 A) general_size at (omega arith)
      ∙ sets_next A (M ++ E) out 0 general_size (omega arith)
