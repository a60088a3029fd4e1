-- An image of edition 1 and its edition 2 form, part by part: the same general block, records and counts; in edition 2 the two watts between,
-- and another end. They hold the same table, and where one is in form the other is.
use Prim.Native.Nat.{ℕ, zero, suc, ◌+◌, ◌*◌, ◌-◌, ◌≤◌, ◌<◌}
use Rattle.std.specs.Prelude.{Ok, Err, Bool, true, false, not, ◌&&◌, ◌≡◌, eqb, length, take, drop}
use Rattle.codes.specs.declared.Refusal.TheVariants as refusal
use Rattle.codes.specs.Refusal.{Checked}
use Rattle.std.proofs.Math.Bool.{cond}
use mathlib.Core.List.{List, [], ◌++◌}
use Rattle.std.proofs.Math.Path.{refl, ap, ap₂}
use Rattle.std.proofs.Common.{sym, ◌∙◌, arith, eq-eqb, le-ltb, length-append, get_or-append-add, drop_at, take_at}
use Rattle.std.proofs.Math.ListN.{get_or-append}
use Rattle.std.proofs.Math.Seq.{drop-append-add}
use Rattle.scan.specs.Laws.{some_all}
use Rattle.layout.specs.Bytes.{byte_at, u16_at, u32_at, u64_at}
use Rattle.layout.specs.Layout.{general_size, watts_size, record_size, trailer_size, tables, trailer_of, edition_of, letters_of, distance_back, count_of}
use Rattle.layout.specs.Layout.{fixed_channel_watts, fixed_segment_watts, watts_at, records_before, tables_from, place_of, record_of, general_of}
use Rattle.layout.specs.Form.{letters, size_wrong, letter_right, letters_wrong, edition_wrong, overfull_at, counts_wrong, Whole}
use Rattle.layout.specs.Laws.{table_within}
use Rattle.table.specs.Table.{table_of}
use Rattle.byte_writes.specs.Bytes.{little}
use Rattle.writer.specs.Image.{littles, watts_bytes, end_bytes}
use Rattle.writer.specs.Laws.{watts_length, end_length}
use Rattle.convert.specs.Convert.{moved_of, raised_of, lowered_of}
use Rattle.same_table.specs.Same.{InForm, same_table}
use Rattle.alike.specs.Alike.{Alike, alike_drop, byte_alike, u16_alike, u32_alike, u64_alike, record_alike, general_alike}
use Rattle.editions.specs.Alike.{u16_little, u32_little}

-- ---- the end of an image

-- an image that ends in this distance, this edition and the letters
pub record Ends (l : List ℕ) (distance edition : ℕ) : Type 0 where
  pub distance_is : distance_back l ≡ distance
  pub edition_is : edition_of l ≡ edition
  pub letters_right : letters_wrong l ≡ false

module _ (distance edition : ℕ) where
  pub distance_back_holds : distance < 4294967296 → u32_at (end_bytes distance edition) 0 ≡ distance
  unfolding end_bytes littles
  distance_back_holds h = u32_little distance _ h

  pub edition_back : edition < 65536 → u16_at (end_bytes distance edition) 4 ≡ edition
  unfolding end_bytes littles little u16_at
  edition_back h = u16_little edition [] h

  pub letter_back : (i : ℕ) → i < 4 → byte_at (end_bytes distance edition) (6 + i) ≡ byte_at letters i
  unfolding end_bytes littles little
  letter_back zero h = refl
  letter_back (suc zero) h = refl
  letter_back (suc (suc zero)) h = refl
  letter_back (suc (suc (suc zero))) h = refl
  letter_back (suc (suc (suc (suc i)))) h = absurd (omega arith)

module _ (l : List ℕ) (distance edition : ℕ) (d : distance < 4294967296) (n : edition < 65536)
    (e : drop (trailer_of l + 18) l ≡ end_bytes distance edition) where
  -- what stands k bytes into the end
  tail_at : (a k w : ℕ) → a ≡ trailer_of l + 18 + k → Alike l a (end_bytes distance edition) k w
  tail_at a k w x j h =
      let y : a + j ≡ trailer_of l + 18 + (k + j) = omega arith in
      let z : 0 + (k + j) ≡ k + j = omega arith in
      rw y (rw e at (rw z at (alike_drop l (trailer_of l + 18) (suc (k + j)) (k + j) (omega arith))))

  right_letter : (i : ℕ) → i < 4 → letter_right l i ≡ true
  right_letter i h =
      eq-eqb _ _
      (byte_alike l (end_bytes distance edition) (letters_of l + i) (6 + i) (tail_at (letters_of l + i) (6 + i) 1 (omega arith))
      ∙ letter_back distance edition i h)

  pub ends_of : Ends l distance edition
  ends_of =
      record {
        distance_is =
            u32_alike l (end_bytes distance edition) (trailer_of l + 18) 0 (tail_at (trailer_of l + 18) 0 4 (omega arith))
            ∙ distance_back_holds distance edition d;
        edition_is =
            u16_alike l (end_bytes distance edition) (trailer_of l + 22) 4 (tail_at (trailer_of l + 22) 4 2 (omega arith))
            ∙ edition_back distance edition n;
        letters_right =
            rw (right_letter 0 (omega arith))
            (rw (right_letter 1 (omega arith)) (rw (right_letter 2 (omega arith)) (rw (right_letter 3 (omega arith)))));
      }

-- where the tables of an edition begin
pub first_from_holds : (l : List ℕ) → edition_of l ≡ 1 → tables_from l ≡ general_size
unfolding tables_from
first_from_holds l e = rw e

pub second_from : (l : List ℕ) → edition_of l ≡ 2 → tables_from l ≡ general_size + watts_size
unfolding tables_from
second_from l e = rw e

-- in form: sizes, end, counts and length are right
pub form_of :
    (l : List ℕ) (edition : ℕ) → general_size + trailer_size ≤ length l → length l ≤ 65552 → Ends l (trailer_of l) edition
    → (not (eqb edition 1) && not (eqb edition 2)) ≡ false → ((t : ℕ) → t < tables → count_of l t ≤ 256)
    → trailer_of l ≡ tables_from l + record_size * records_before l tables → InForm l
form_of l edition a b ends n few ends_at =
    ap₂ (λ (s w : Bool). formed s w (edition_wrong l) (counts_wrong l)) size ends.letters_right
    ∙ ap₂ (λ (e c : Bool). formed false false e c) edition_right counts
  where
    formed : Bool → Bool → Bool → Bool → Checked
    formed s w e c = cond s (Err refusal.ImageLength) (cond w (Err refusal.Letters) (cond e (Err refusal.Edition) (cond c (Err refusal.Counts) (Ok tt))))

    size : size_wrong l ≡ false
    size = rw (le-ltb _ _ a) (le-ltb _ _ b)

    edition_right : edition_wrong l ≡ false
    edition_right = ap (λ (k : ℕ). not (eqb k 1) && not (eqb k 2)) ends.edition_is ∙ n

    counts : counts_wrong l ≡ false
    counts =
        rw (some_all (overfull_at l) tables (λ t h. le-ltb _ _ (few t h)))
        (rw (eq-eqb _ _ ends_at) (rw (eq-eqb _ _ ends.distance_is)))

-- ---- the pair

-- past the first part
at_seam : (p q : List ℕ) (n i : ℕ) → length p ≡ n → byte_at (p ++ q) (n + i) ≡ byte_at q i
at_seam p q n i e = ap (λ (k : ℕ). byte_at (p ++ q) (k + i)) (sym e) ∙ get_or-append-add p q i 0

pub past_seam : (p q : List ℕ) (n i : ℕ) → length p ≡ n → drop (n + i) (p ++ q) ≡ drop i q
past_seam p q n i e = ap (λ (k : ℕ). drop (k + i) (p ++ q)) (sym e) ∙ drop-append-add p q i

abbrev pub fixed_bytes : List ℕ
fixed_bytes = watts_bytes fixed_channel_watts fixed_segment_watts

pub channel_back : u64_at fixed_bytes 0 ≡ fixed_channel_watts
unfolding watts_bytes littles little u64_at u32_at u16_at
channel_back = refl

pub segment_back : u64_at fixed_bytes 8 ≡ fixed_segment_watts
unfolding watts_bytes littles little u64_at u32_at u16_at
segment_back = refl

abbrev pub first_of : List ℕ → List ℕ → ℕ → List ℕ
first_of A M d = A ++ (M ++ end_bytes d 1)

abbrev pub second_of : List ℕ → List ℕ → ℕ → List ℕ
second_of A M d = A ++ (fixed_bytes ++ (M ++ end_bytes (d + watts_size) 2))

module _ (A M : List ℕ) (d : ℕ) (a : length A ≡ general_size) (m : general_size + length M ≡ d + 18) (h : general_size ≤ d) (s : d < 65536) where
  abbrev one : List ℕ
  one = first_of A M d

  abbrev two : List ℕ
  two = second_of A M d

  one_length : length one ≡ d + trailer_size
  one_length = simp length-append (omega (arith, end_length d 1))

  two_length : length two ≡ d + watts_size + trailer_size
  two_length =
      simp length-append (omega (arith, watts_length fixed_channel_watts fixed_segment_watts, end_length (d + watts_size) 2))

  one_trailer : trailer_of one ≡ d
  one_trailer = omega (arith, one_length)

  two_trailer : trailer_of two ≡ d + watts_size
  two_trailer = omega (arith, two_length)

  pub one_ends : Ends one d 1
  one_ends = ends_of one d 1 (omega arith) (omega arith) (ap (λ (k : ℕ). drop (k + 18) one) one_trailer ∙ end)
    where
      end : drop (d + 18) one ≡ end_bytes d 1
      end =
          let x : d + 18 ≡ general_size + (length M + 0) = omega arith in
          rw x (past_seam A (M ++ end_bytes d 1) general_size (length M + 0) a ∙ past_seam M (end_bytes d 1) (length M) 0 refl)

  pub two_ends : Ends two (d + watts_size) 2
  two_ends = ends_of two (d + watts_size) 2 (omega arith) (omega arith) (ap (λ (k : ℕ). drop (k + 18) two) two_trailer ∙ end)
    where
      end : drop (d + watts_size + 18) two ≡ end_bytes (d + watts_size) 2
      end =
          let x : d + watts_size + 18 ≡ general_size + (watts_size + (length M + 0)) = omega arith in
          rw x
          (past_seam A (fixed_bytes ++ (M ++ end_bytes (d + watts_size) 2)) general_size (watts_size + (length M + 0)) a
          ∙ past_seam fixed_bytes (M ++ end_bytes (d + watts_size) 2) watts_size (length M + 0) (watts_length fixed_channel_watts fixed_segment_watts)
          ∙ past_seam M (end_bytes (d + watts_size) 2) (length M) 0 refl)

  -- ---- the same bytes

  low : Alike one 0 two 0 general_size
  low k i =
      let z : 0 + k ≡ k = omega arith in
      let b : k < length A = omega arith in
      rw z
      (get_or-append A (M ++ end_bytes d 1) 0 k b
      ∙ sym (get_or-append A (fixed_bytes ++ (M ++ end_bytes (d + watts_size) 2)) 0 k b))

  middle : (p q j w : ℕ) → p ≡ general_size + j → q ≡ general_size + watts_size + j → j + w ≤ length M → Alike one p two q w
  middle p q j w x y r k i =
      let b : j + k < length M = omega arith in
      let u : p + k ≡ general_size + (j + k) = omega arith in
      let v : q + k ≡ general_size + (watts_size + (j + k)) = omega arith in
      rw u
      (rw v
      (at_seam A (M ++ end_bytes d 1) general_size (j + k) a
      ∙ get_or-append M (end_bytes d 1) 0 (j + k) b
      ∙ sym
      (at_seam A (fixed_bytes ++ (M ++ end_bytes (d + watts_size) 2)) general_size (watts_size + (j + k)) a
      ∙ at_seam fixed_bytes (M ++ end_bytes (d + watts_size) 2) watts_size (j + k) (watts_length fixed_channel_watts fixed_segment_watts)
      ∙ get_or-append M (end_bytes (d + watts_size) 2) 0 (j + k) b)))

  -- ---- the same table

  counts_same : (t : ℕ) → t < tables → count_of one t ≡ count_of two t
  counts_same t i =
      u16_alike one two (trailer_of one + 2 * t) (trailer_of two + 2 * t)
      (middle (trailer_of one + 2 * t) (trailer_of two + 2 * t) (d + 2 * t - general_size) 2 (omega (arith, one_trailer)) (omega (arith, two_trailer))
      (omega arith))

  before_same : (t : ℕ) → t ≤ tables → records_before one t ≡ records_before two t
  unfolding records_before
  before_same zero i = refl
  before_same (suc t) i = ap₂ ◌+◌ (before_same t (omega arith)) (counts_same t (omega arith))

  one_from : tables_from one ≡ general_size
  one_from = first_from_holds one one_ends.edition_is

  two_from : tables_from two ≡ general_size + watts_size
  two_from = second_from two two_ends.edition_is

  -- the watts, where they stand in edition 2
  watts_at_holds : (j : ℕ) → j + 8 ≤ watts_size → u64_at two (general_size + j) ≡ u64_at fixed_bytes j
  watts_at_holds j i =
      u64_alike two fixed_bytes (general_size + j) j
      (λ k r.
      let u : general_size + j + k ≡ general_size + (j + k) = omega arith in
      let b : j + k < length fixed_bytes = omega (arith, watts_length fixed_channel_watts fixed_segment_watts) in
      rw u
      (at_seam A (fixed_bytes ++ (M ++ end_bytes (d + watts_size) 2)) general_size (j + k) a
      ∙ get_or-append fixed_bytes (M ++ end_bytes (d + watts_size) 2) 0 (j + k) b))

  general_same : general_of one ≡ general_of two
  general_same =
      general_alike one two low
      (plain 64 fixed_channel_watts ∙ sym (given 64 fixed_channel_watts (watts_at_holds 0 (omega arith) ∙ channel_back)))
      (plain 72 fixed_segment_watts ∙ sym (given 72 fixed_segment_watts (watts_at_holds 8 (omega arith) ∙ segment_back)))
    where
      plain : (at fixed : ℕ) → watts_at one at fixed ≡ fixed
      plain at fixed = unfold watts_at in ap (λ (k : ℕ). cond (eqb k 2) (u64_at one at) fixed) one_ends.edition_is

      given : (at fixed : ℕ) → u64_at two at ≡ fixed → watts_at two at fixed ≡ fixed
      given at fixed e = unfold watts_at in ap (λ (k : ℕ). cond (eqb k 2) (u64_at two at) fixed) two_ends.edition_is ∙ e

  -- the records of a table that lies before the trailer
  records_same : (t i : ℕ) → t < tables → place_of one t i + record_size ≤ d → record_of one t i ≡ record_of two t i
  records_same t i k b =
      record_alike one two (place_of one t i) (place_of two t i)
      (middle (place_of one t i) (place_of two t i) (record_size * records_before one t + record_size * i) record_size (omega (arith, one_from))
      (omega (arith, two_from, before_same t (omega arith))) (omega (arith, one_from)))

  pub table_same : Whole one → table_of one ≡ table_of two
  table_same w =
      same_table one two general_same counts_same
      (λ t i k b. records_same t i k (omega (arith, table_within one w t k, one_trailer, one_length)))

  -- ---- in form, both or neither

  pub two_form : Whole one → InForm two
  two_form w =
      form_of two 2 (omega (arith, two_length)) (omega (arith, two_length, one_length, w.small, w.filled, one_from))
      (ends_at two_trailer) refl (λ t i. rw (← counts_same t i) (w.few t i))
      (omega (arith, two_trailer, two_from, w.filled, one_length, one_from, before_same tables (omega arith)))
    where
      ends_at : trailer_of two ≡ d + watts_size → Ends two (trailer_of two) 2
      ends_at e = rw e two_ends

  pub one_form : Whole two → InForm one
  one_form w =
      form_of one 1 (omega (arith, one_length)) (omega (arith, two_length, one_length, w.small))
      (ends_at one_trailer) refl (λ t i. rw (counts_same t i) (w.few t i))
      (omega (arith, one_trailer, two_from, w.filled, two_length, one_from, before_same tables (omega arith)))
    where
      ends_at : trailer_of one ≡ d → Ends one (trailer_of one) 1
      ends_at e = rw e one_ends

  -- ---- one from the other

  moved_one : moved_of general_size one ≡ M
  moved_one =
      let e : trailer_of one + 18 - general_size ≡ length M = omega (arith, one_trailer) in
      rw e
      (ap (take (length M)) (drop_at A (M ++ end_bytes d 1) general_size a) ∙ take_at M (end_bytes d 1) (length M) refl)

  moved_two : moved_of (general_size + watts_size) two ≡ M
  moved_two =
      let e : trailer_of two + 18 - (general_size + watts_size) ≡ length M = omega (arith, two_trailer) in
      rw e
      (ap (take (length M))
      (past_seam A (fixed_bytes ++ (M ++ end_bytes (d + watts_size) 2)) general_size watts_size a
      ∙ drop_at fixed_bytes (M ++ end_bytes (d + watts_size) 2) watts_size (watts_length fixed_channel_watts fixed_segment_watts))
      ∙ take_at M (end_bytes (d + watts_size) 2) (length M) refl)

  pub raised_one : raised_of one ≡ two
  unfolding raised_of
  raised_one =
      rw (take_at A (M ++ end_bytes d 1) general_size a)
      (rw moved_one (rw one_trailer))

  pub lowered_two : lowered_of two ≡ one
  unfolding lowered_of
  lowered_two =
      let e : trailer_of two - watts_size ≡ d = omega (arith, two_trailer) in
      rw (take_at A (fixed_bytes ++ (M ++ end_bytes (d + watts_size) 2)) general_size a)
      (rw moved_two (rw e))
