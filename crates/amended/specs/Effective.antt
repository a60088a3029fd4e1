-- Laws of the effective image: it is as long as the base, and its general block and trailer are the base's; of its records each is the
-- amendment's that counts or the base's. So it is in form, and its table is the base's with other records.
use Prim.Native.Nat.{ℕ, zero, suc, ◌+◌, ◌*◌, ◌-◌, ◌<◌, ◌≤◌}
use Rattle.std.specs.Prelude.{Option, Some, None, Bool, not, ◌&&◌, ◌||◌, ◌≡◌, eqb, ltb, drop, set}
use Rattle.std.proofs.Math.Bool.{true, false, cond}
use mathlib.Core.List.{List, [], ◌∷◌}
use Rattle.std.proofs.Math.Path.{refl, sym, ap, ap₂}
use Rattle.std.proofs.Common.{◌∙◌, subst, length-set, length-take, length-drop, length-take-le, get_or-set_same, get_or-set_other, get_or-take, get_or-drop}
use Rattle.std.proofs.Math.Nat.{zero-add, suc-add}
use native.Mathlib.Omega.{arith}
use Rattle.std.proofs.Math.ListN.{length}
use Rattle.std.proofs.Math.Seq.{sets, length-sets}
use Rattle.scan.specs.First.{on_found}
use Rattle.scan.specs.Laws.{some_same}
use Rattle.codes.specs.declared.Refusal.TheVariants as refusal
use Rattle.codes.specs.Refusal.{Test, test}
use Rattle.layout.specs.Bytes.{byte_at, u64_at}
use Rattle.layout.specs.Layout.{general_size, watts_size, record_size, trailer_size, tables, trailer_of, is_second, count_of, distance_back, edition_of}
use Rattle.layout.specs.Layout.{records_before, tables_from, record_at, record_of, watts_at, general_of, fixed_channel_watts, fixed_segment_watts}
use Rattle.layout.specs.declared.Record.{Record}
use Rattle.layout.specs.Laws.{table_within}
use Rattle.layout.specs.Form.{letters, size_wrong, letter_right, letters_wrong, edition_wrong, overfull_at, counts_wrong, form_tests, Whole}
use Rattle.table.specs.Table.{count_in, record_in}
use Rattle.table.specs.Laws.{count_in_holds, at_in}
use Rattle.alike.specs.Alike.{Alike, alike_part, u16_alike, u32_alike, u64_alike, record_alike, general_alike}
use Rattle.amended.specs.Amended.{amendments_in, replacement_at, replacement_of, counting, slot_of, slot_at, amended_to, effective_of}
use Rattle.amended.specs.Latest.{latest_below, within_list, tables_far}

-- ---- stores into a list of bytes

sets_other :
    (vs l : List ℕ) (at i : ℕ) → ((k : ℕ) → k < length vs → i ≡ at + k → ⊥) → byte_at (sets l at vs) i ≡ byte_at l i
sets_other [] l at i h = refl
sets_other (v ∷ vs) l at i h =
    sets_other vs (set l at v) (suc at) i (λ k b e. h (suc k) (omega arith) (omega arith))
    ∙ get_or-set_other l at i v 0 (λ (e : i ≡ at). h 0 (omega arith) (omega arith))

sets_in : (vs l : List ℕ) (at m : ℕ) → m < length vs → at + length vs ≤ length l → byte_at (sets l at vs) (at + m) ≡ byte_at vs m
sets_in [] l at m h b = absurd (omega arith)
sets_in (v ∷ vs) l at zero h b =
    let z : at + 0 ≡ at = omega arith in
    rw z
    (sets_other vs (set l at v) (suc at) at (λ k c e. omega arith)
    ∙ get_or-set_same l at v 0 (omega arith))
sets_in (v ∷ vs) l at (suc m) h b =
    let s : at + suc m ≡ suc at + m = omega arith in
    rw s (sets_in vs (set l at v) (suc at) m (omega arith) (omega (arith, length-set l at v)))

-- ---- the base with the first records in place

module _ (l a : List ℕ) (day : ℕ) where
  pub amended_more : (k : ℕ) → amended_to l a day (k + 1)
      ≡ on_found (counting l a day k) (λ j. sets (amended_to l a day k) (slot_at l k) (replacement_of a j)) (amended_to l a day k)
  unfolding amended_to
  amended_more k = let s : k + 1 ≡ suc k = omega arith in rw s

  pub amended_length : (k : ℕ) → length (amended_to l a day k) ≡ length l
  unfolding amended_to
  amended_length zero = refl
  amended_length (suc k) = go (counting l a day k) (amended_length k)
    where
      go :
          (f : Option ℕ) → length (amended_to l a day k) ≡ length l
          → length (on_found f (λ j. sets (amended_to l a day k) (slot_at l k) (replacement_of a j)) (amended_to l a day k)) ≡ length l
      go (Some j) e = length-sets (amended_to l a day k) (slot_at l k) (replacement_of a j) ∙ e
      go None e = e

  pub few_bytes : (j : ℕ) → length (replacement_of a j) ≤ record_size
  few_bytes j = rw length-take (omega arith)

  -- byte i lies in none of the records from k on that were put in place
  amended_on :
      (i k d : ℕ) → ((m : ℕ) → k ≤ m → m < d + k → (j : ℕ) → j < record_size → i ≡ slot_at l m + j → ⊥)
      → byte_at (amended_to l a day (d + k)) i ≡ byte_at (amended_to l a day k) i
  unfolding amended_to
  amended_on i k zero h = rw zero-add
  amended_on i k (suc d) h =
      rw suc-add
      (go (counting l a day (d + k)) (amended_on i k d (λ m b c. h m b (omega arith))) ∙ refl)
    where
      go :
          (f : Option ℕ) → byte_at (amended_to l a day (d + k)) i ≡ byte_at (amended_to l a day k) i
          → byte_at (on_found f (λ j. sets (amended_to l a day (d + k)) (slot_at l (d + k)) (replacement_of a j)) (amended_to l a day (d + k))) i
          ≡ byte_at (amended_to l a day k) i
      go (Some j) e =
          sets_other (replacement_of a j) (amended_to l a day (d + k)) (slot_at l (d + k)) i
          (λ m b q. h (d + k) (omega arith) (omega arith) m (omega (arith, few_bytes j)) q)
          ∙ e
      go None e = e

  amended_base :
      (i k : ℕ) → ((m : ℕ) → m < k → (j : ℕ) → j < record_size → i ≡ slot_at l m + j → ⊥) → byte_at (amended_to l a day k) i ≡ byte_at l i
  unfolding amended_to
  amended_base i k h =
      let z : k + 0 ≡ k = omega arith in
      rw z at (amended_on i 0 k (λ m b c. h m (omega arith)))

  -- byte m of record k, of the first n
  amended_byte :
      (n k m : ℕ) → k < n → m < record_size
      → byte_at (amended_to l a day n) (slot_at l k + m) ≡ byte_at (amended_to l a day (k + 1)) (slot_at l k + m)
  amended_byte n k m h b =
      let s : n - (k + 1) + (k + 1) ≡ n = omega arith in
      rw s at (amended_on (slot_at l k + m) (k + 1) (n - (k + 1)) (λ x p q j r e. omega arith))

-- ---- the effective image

module _ (l a : List ℕ) (day : ℕ) (w : Whole l) where
  abbrev image : List ℕ
  image = effective_of l a day

  pub same_length : length image ≡ length l
  unfolding effective_of
  same_length = amended_length l a day (records_before l tables)

  trailer_same : trailer_of image ≡ trailer_of l
  trailer_same = ap (λ (n : ℕ). n - trailer_size) same_length

  pub slot_within : (k : ℕ) → k < records_before l tables → slot_at l k + record_size + trailer_size ≤ length l
  slot_within k h = omega (arith, w.filled)

  -- before the tables, and in the trailer, the base's bytes
  pub head_same : Alike image 0 l 0 (tables_from l)
  unfolding effective_of
  head_same k h =
      let z : 0 + k ≡ k = omega arith in
      rw z (amended_base l a day k (records_before l tables) (λ m b j c e. omega arith))

  pub tail_same : Alike image (trailer_of image) l (trailer_of l) trailer_size
  unfolding effective_of
  tail_same k h =
      rw trailer_same
      (amended_base l a day (trailer_of l + k) (records_before l tables) (λ m b j c e. omega (arith, slot_within m b)))

  -- record k is the amendment's that counts, or the base's
  abbrev put : ℕ → Option ℕ → List ℕ
  put k f = on_found f (λ j. sets (amended_to l a day k) (slot_at l k) (replacement_of a j)) (amended_to l a day k)

  byte_put :
      (k m : ℕ) (f : Option ℕ) → k < records_before l tables → m < record_size → counting l a day k ≡ f
      → byte_at image (slot_at l k + m) ≡ byte_at (put k f) (slot_at l k + m)
  unfolding effective_of
  byte_put k m f h b e =
      amended_byte l a day (records_before l tables) k m h b
      ∙ ap (λ (x : List ℕ). byte_at x (slot_at l k + m)) (amended_more l a day k ∙ ap (put k) e)

  pub whole_replacement : (k j : ℕ) → counting l a day k ≡ Some j → length (replacement_of a j) ≡ record_size
  whole_replacement k j e =
      length-take-le record_size (drop (replacement_at j) a)
      (rw length-drop (omega (arith, within_list a j (latest_below l a day k (amendments_in a) j e))))

  pub replaced_byte :
      (k j m : ℕ) → k < records_before l tables → counting l a day k ≡ Some j → m < record_size
      → byte_at image (slot_at l k + m) ≡ byte_at (replacement_of a j) m
  replaced_byte k j m h e b =
      byte_put k m (Some j) h b e
      ∙ sets_in (replacement_of a j) (amended_to l a day k) (slot_at l k) m (omega (arith, whole_replacement k j e))
      (omega (arith, whole_replacement k j e, amended_length l a day k, slot_within k h))

  pub record_in_holds :
      (k : ℕ) → k < records_before l tables
      → record_at image (slot_at l k) ≡ on_found (counting l a day k) (λ j. record_at a (replacement_at j)) (record_at l (slot_at l k))
  record_in_holds k h = go (counting l a day k) refl
    where
      go :
          (f : Option ℕ) → counting l a day k ≡ f
          → record_at image (slot_at l k) ≡ on_found f (λ j. record_at a (replacement_at j)) (record_at l (slot_at l k))
      go (Some j) e =
          record_alike image a (slot_at l k) (replacement_at j)
          (λ m b.
          replaced_byte k j m h e b
          ∙ get_or-take record_size (drop (replacement_at j) a) m 0 b
          ∙ get_or-drop (replacement_at j) a m 0)
      go None e =
          record_alike image l (slot_at l k) (slot_at l k)
          (λ m b. byte_put k m None h b e ∙ amended_base l a day (slot_at l k + m) k (λ x c j d q. omega arith))

  -- ---- the trailer and the general block

  pub count_same : (t : ℕ) → t < tables → count_of image t ≡ count_of l t
  count_same t h =
      u16_alike image l (trailer_of image + 2 * t) (trailer_of l + 2 * t)
      (alike_part image l (trailer_of image) (trailer_of l) trailer_size (2 * t) 2 tail_same (omega arith))

  edition_same : edition_of image ≡ edition_of l
  edition_same =
      u16_alike image l (trailer_of image + 22) (trailer_of l + 22)
      (alike_part image l (trailer_of image) (trailer_of l) trailer_size 22 2 tail_same (omega arith))

  distance_same : distance_back image ≡ distance_back l
  distance_same =
      u32_alike image l (trailer_of image + 18) (trailer_of l + 18)
      (alike_part image l (trailer_of image) (trailer_of l) trailer_size 18 4 tail_same (omega arith))

  letter_same : (i : ℕ) → i < 4 → letter_right image i ≡ letter_right l i
  letter_same i h =
      let x : trailer_of image + 24 + i ≡ trailer_of image + (24 + i) = omega arith in
      let y : trailer_of l + 24 + i ≡ trailer_of l + (24 + i) = omega arith in
      ap (λ (b : ℕ). eqb b (byte_at letters i)) (rw x (rw y (tail_same (24 + i) (omega arith))))

  pub from_same : tables_from image ≡ tables_from l
  unfolding tables_from
  from_same = ap (λ (n : ℕ). cond (eqb n 2) (general_size + watts_size) general_size) edition_same

  pub before_same : (t : ℕ) → t ≤ tables → records_before image t ≡ records_before l t
  unfolding records_before
  before_same zero h = refl
  before_same (suc t) h = ap₂ (λ (x y : ℕ). x + y) (before_same t (omega arith)) (count_same t (omega arith))

  -- the watts of an edition that has them stand before the tables
  second_head : is_second l ≡ true → general_size + watts_size ≡ tables_from l
  unfolding tables_from
  second_head e = sym (ap (λ (b : Bool). cond b (general_size + watts_size) general_size) e)

  watts_same : (at fixed : ℕ) → at + 8 ≤ general_size + watts_size → watts_at image at fixed ≡ watts_at l at fixed
  unfolding watts_at
  watts_same at fixed h = ap (λ (n : ℕ). cond (eqb n 2) (u64_at image at) fixed) edition_same ∙ go (is_second l) refl
    where
      go : (b : Bool) → is_second l ≡ b → cond b (u64_at image at) fixed ≡ cond b (u64_at l at) fixed
      go true e =
          u64_alike image l at at
          (λ k c. let z : 0 + (at + k) ≡ at + k = omega arith in rw z at (head_same (at + k) (omega (arith, second_head e))))
      go false e = refl

  pub general_same : general_of image ≡ general_of l
  general_same =
      general_alike image l (λ k h. head_same k (omega (arith, tables_far l)))
      (watts_same 64 fixed_channel_watts (omega arith)) (watts_same 72 fixed_segment_watts (omega arith))

  -- in form as the base is
  abbrev both : Bool → Bool → Bool
  both x y = x && y

  abbrev either : Bool → Bool → Bool
  either x y = x || y

  abbrev differ : ℕ → ℕ → Bool
  differ x y = not (eqb x y)

  letters_same : letters_wrong image ≡ letters_wrong l
  letters_same =
      ap not
      (ap₂ both (letter_same 0 (omega arith))
      (ap₂ both (letter_same 1 (omega arith)) (ap₂ both (letter_same 2 (omega arith)) (letter_same 3 (omega arith)))))

  counts_same : counts_wrong image ≡ counts_wrong l
  counts_same =
      ap₂ either (some_same (overfull_at image) (overfull_at l) tables (λ t h. ap (λ (n : ℕ). ltb 256 n) (count_same t h)))
      (ap₂ either
      (ap₂ differ trailer_same (ap₂ (λ (x y : ℕ). x + record_size * y) from_same (before_same tables (omega arith))))
      (ap₂ differ distance_same trailer_same))

  abbrev tested : Bool → Bool → Bool → Bool → List Test
  tested s w e c = test refusal.ImageLength s ∷ test refusal.Letters w ∷ test refusal.Edition e ∷ test refusal.Counts c ∷ []

  pub form_same : form_tests image ≡ form_tests l
  form_same =
      ap (λ (s : Bool). tested s (letters_wrong image) (edition_wrong image) (counts_wrong image))
      (ap (λ (n : ℕ). ltb n (general_size + trailer_size) || ltb 65552 n) same_length)
      ∙ ap (λ (w : Bool). tested (size_wrong l) w (edition_wrong image) (counts_wrong image)) letters_same
      ∙ ap (λ (e : Bool). tested (size_wrong l) (letters_wrong l) e (counts_wrong image))
      (ap (λ (n : ℕ). not (eqb n 1) && not (eqb n 2)) edition_same)
      ∙ ap (λ (c : Bool). tested (size_wrong l) (letters_wrong l) (edition_wrong l) c) counts_same

  -- record i of table t, by its place among all
  pub record_of_same :
      (t i : ℕ) → t < tables → record_of image t i ≡ record_at image (slot_at l (records_before l t + i))
  record_of_same t i h =
      let e : tables_from l + record_size * records_before l t + record_size * i ≡ slot_at l (records_before l t + i) = omega arith in
      ap₂ (λ (x y : ℕ). record_at image (x + record_size * y + record_size * i)) from_same (before_same t (omega arith))
      ∙ ap (record_at image) e

  -- ---- the table

  pub count_in_same : (t : ℕ) → t < tables → count_in image t ≡ count_of l t
  count_in_same t h = count_in_holds image t h ∙ count_same t h

  -- record i of table t, read by its place among all
  pub record_read :
      (t i start : ℕ) (r : Record) → t < tables → i < count_of l t → start ≡ records_before l t → r ≡ record_at image (slot_at l (start + i))
      → r ≡ record_in image t i
  record_read t i start r h k s e =
      e ∙ ap (λ (x : ℕ). record_at image (slot_at l (x + i))) s
      ∙ sym (at_in image t i h (subst (λ (n : ℕ). i < n) (sym (count_same t h)) k) ∙ record_of_same t i h)

  -- a place of table t is one of the image's
  pub slot_below : (t i : ℕ) → t < tables → i < count_of l t → slot_of l t i < records_before l tables
  slot_below t i h k = omega (arith, table_within l w t h, w.filled)

  pub place_below : (t i start : ℕ) → t < tables → i < count_in image t → start ≡ records_before l t → start + i < records_before l tables
  place_below t i start h k s = omega (arith, s, slot_below t i h (subst (λ (n : ℕ). i < n) (count_in_same t h) k))
