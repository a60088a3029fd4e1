-- Theorems on the converters (document 02, 6): "Gate answers are the same for an edition 1 image and its raised form, and lowering a raised
-- image gives the first bytes"; raising a lowered one gives its bytes back too.
use Rattle.std.specs.Prelude.{ℕ, zero, suc, ◌+◌, ◌-◌, ◌≤◌, ◌<◌, Bool, true, false, ◌&&◌, ◌||◌, List, [], ◌∷◌, ◌++◌, ◌≡◌, length, take, drop, Float, Result, Ok}
use Rattle.codes.specs.declared.Refusal.TheVariants as refusal
use Rattle.codes.specs.declared.Refusal.{Refusal}
use Rattle.std.proofs.Math.Bool.{cond, not}
use Rattle.std.proofs.Math.Path.{refl, sym, ap, ap₂}
use Rattle.std.proofs.Common.{subst, ◌∙◌, arith, take-append-drop, length-drop, length-take-le, drop-drop, ext_get_or, get_or-take, get_or-drop}
use borrow.Author.Tests.{eqb-true, not-false}
use Rattle.std.proofs.Math.Dec.{eqb}
use Rattle.scan.specs.Laws.{and_true}
use Rattle.codes.specs.Refusal.{test, refusal_of}
use Rattle.codes.specs.Laws.{none_fails, refusal_both, refusal_next}
use Rattle.occupancy.specs.declared.Edges.{Edges}
use Rattle.station.specs.declared.StationRecord.{StationRecord}
use Rattle.layout.specs.Bytes.{byte_at, u16_at, u32_at, u64_at}
use Rattle.layout.specs.Layout.{general_size, watts_size, trailer_size, trailer_of, letters_of, edition_of, distance_back, fixed_channel_watts, fixed_segment_watts}
use Rattle.layout.specs.Layout.{watts_at, general_of}
use Rattle.layout.specs.declared.General.{General}
use Rattle.layout.specs.Form.{letters, letter_right, overfull, length_wrong, distance_wrong, form_tests, Whole}
use Rattle.layout.specs.Laws.{or_false_both, whole_of}
use Rattle.table.specs.Table.{Table, table_of}
use Rattle.image.specs.Check.{content_tests, check_of}
use Rattle.image.specs.Laws.{accepted_whole}
use Rattle.tidy.specs.Tidy.{tidy_of}
use Rattle.fault.specs.Fault.{fault_of}
use Rattle.verdict.specs.Verdict.{evaluate_of, unmeasured_of}
use Rattle.ceiling.specs.Ceiling.{ceiling_of}
use Rattle.dials.specs.List.{SafeDials}
use Rattle.distance.specs.Distance.{distance_of}
use Rattle.report.specs.Report.{Reported}
use Rattle.given.specs.Tests.{neither_edition}
use Rattle.writer.specs.Image.{watts_bytes, end_bytes}
use Rattle.writer.specs.Laws.{watts_length, end_length}
use Rattle.convert.specs.Convert.{from_tests, other_watts, raise_tests, lower_tests, moved_of, raised_of, lowered_of}
use Rattle.convert.specs.Laws.{from_same, second_sized}
use Rattle.same_table.specs.Same.{InForm, check_same, tidy_same, fault_same, evaluate_same, unmeasured_same, ceiling_same, list_same, report_same}
use Rattle.alike.specs.Alike.{Alike}
use Rattle.editions.specs.Alike.{Bytes, alike_both, u16_like, u32_like, u64_like, littles_bytes}
use Rattle.editions.specs.Pair.{distance_back_holds, edition_back, letter_back, channel_back, segment_back}
use Rattle.editions.specs.Pair.{fixed_bytes, first_of, second_of, one_ends, two_ends, table_same, two_form, one_form, raised_one, lowered_two}

-- ---- an accepted image, from its numbers to its bytes

-- a list in two, and its second part in two
in_parts : (l : List ℕ) (p q : ℕ) → l ≡ take p l ++ (take q (drop p l) ++ drop (p + q) l)
in_parts l p q =
    sym
    (ap (λ (m : List ℕ). take p l ++ (take q (drop p l) ++ m)) (sym (drop-drop q p l))
    ∙ ap (λ (m : List ℕ). take p l ++ m) (take-append-drop q (drop p l))
    ∙ take-append-drop p l)

-- bytes from a place on that are those of a list, to its end
drop_like : (l m : List ℕ) (a : ℕ) → length (drop a l) ≡ length m → Alike l a m 0 (length m) → drop a l ≡ m
drop_like l m a n s =
    ext_get_or 0 (drop a l) m n
    (λ i h. let z : 0 + i ≡ i = omega arith in get_or-drop a l i 0 ∙ (rw z at (s i (omega arith))))

module _ (l : List ℕ) (B : Bytes l) (accepted : check_of l ≡ Ok tt) where
  in_form : InForm l
  unfolding check_of
  in_form = (refusal_both (form_tests l) (content_tests (table_of l)) accepted).0

  whole : Whole l
  whole = accepted_whole l accepted

  distance_right : distance_back l ≡ trailer_of l
  distance_right =
      let none = none_fails (form_tests l) in_form in
      let many = or_false_both (overfull l) (length_wrong l || distance_wrong l) none.1.1.1.0 in
      let agree = or_false_both (length_wrong l) (distance_wrong l) many.1 in
      eqb-true _ _ (not-false _ agree.1)

  letter_right_holds : (i : ℕ) → i < 4 → byte_at l (letters_of l + i) ≡ byte_at letters i
  letter_right_holds i h =
      let none = none_fails (form_tests l) in_form in
      let a = and_true _ _ (not-false _ none.1.0) in
      let b = and_true _ _ a.1 in
      let c = and_true _ _ b.1 in
      eqb-true _ _ (pick i h a.0 b.0 c.0 c.1)
    where
      pick :
          (i : ℕ) → i < 4 → letter_right l 0 ≡ true → letter_right l 1 ≡ true → letter_right l 2 ≡ true → letter_right l 3 ≡ true
          → letter_right l i ≡ true
      pick zero h a b c d = a
      pick (suc zero) h a b c d = b
      pick (suc (suc zero)) h a b c d = c
      pick (suc (suc (suc zero))) h a b c d = d
      pick (suc (suc (suc (suc i)))) h a b c d = absurd (omega arith)

  -- the end of its bytes
  end_back : (edition : ℕ) → edition_of l ≡ edition → edition < 65536 → drop (trailer_of l + 18) l ≡ end_bytes (trailer_of l) edition
  end_back edition e n =
      let E = end_bytes (trailer_of l) edition in
      let F : Bytes E = end_small (trailer_of l) edition in
      let at = trailer_of l + 18 in
      let small : trailer_of l < 4294967296 = omega (arith, whole.small) in
      let distance : u32_at l at ≡ u32_at E 0 = distance_right ∙ sym (distance_back_holds (trailer_of l) edition small) in
      let edition_at : at + 4 ≡ trailer_of l + 22 = omega arith in
      let edition_same : u16_at l (at + 4) ≡ u16_at E 4 =
      ap (u16_at l) edition_at ∙ e ∙ sym (edition_back (trailer_of l) edition n) in
      let front : Alike l at E 0 6 =
      alike_both l E B F at 0 4 2 (u32_like l E B F at 0 distance) (u16_like l E B F (at + 4) 4 edition_same) in
      drop_like l E at (length-drop at l ∙ omega (arith, end_length (trailer_of l) edition, whole.sized))
      (rw (end_length (trailer_of l) edition) (alike_both l E B F at 0 6 4 front (λ i h. last i h)))
    where
      end_small : (d e : ℕ) → Bytes (end_bytes d e)
      end_small d e = unfold end_bytes in littles_bytes _

      last : (i : ℕ) → i < 4 → byte_at l (trailer_of l + 18 + 6 + i) ≡ byte_at (end_bytes (trailer_of l) edition) (6 + i)
      last i h =
          let x : trailer_of l + 18 + 6 + i ≡ letters_of l + i = omega arith in
          rw x (letter_right_holds i h ∙ sym (letter_back (trailer_of l) edition i h))

-- an accepted image is one that a converter from its edition takes
taken : (l : List ℕ) (edition : ℕ) → neither_edition edition ≡ false → check_of l ≡ Ok tt → edition_of l ≡ edition → refusal_of (from_tests edition l) ≡ Ok tt
taken l edition n accepted e =
    let none = none_fails (form_tests l) (unfold check_of in (refusal_both (form_tests l) (content_tests (table_of l)) accepted).0) in
    sym (from_same l edition none.0 none.1.0 n e) ∙ accepted

-- ---- raising

module _ (l : List ℕ) (B : Bytes l) (accepted : check_of l ≡ Ok tt) (first : edition_of l ≡ 1) where
  -- its parts
  abbrev A : List ℕ
  A = take general_size l

  abbrev M : List ℕ
  M = moved_of general_size l

  abbrev d : ℕ
  d = trailer_of l

  in_whole : Whole l
  in_whole = whole l B accepted

  A_length : length A ≡ general_size
  A_length = length-take-le general_size l (omega (arith, in_whole.sized))

  M_length : general_size + length M ≡ d + 18
  M_length =
      let e : length M ≡ d + 18 - general_size =
      length-take-le (d + 18 - general_size) (drop general_size l) (rw (length-drop general_size l) (omega (arith, in_whole.sized))) in
      omega (arith, in_whole.sized)

  d_low : general_size ≤ d
  d_low = omega (arith, in_whole.sized)

  d_high : d < 65536
  d_high = omega (arith, in_whole.small)

  split : l ≡ first_of A M d
  split =
      let e : general_size + (d + 18 - general_size) ≡ d + 18 = omega (arith, d_low) in
      in_parts l general_size (d + 18 - general_size)
      ∙ ap (λ (k : ℕ). A ++ (M ++ drop k l)) e
      ∙ ap (λ (m : List ℕ). A ++ (M ++ m)) (end_back l B accepted 1 first (omega arith))

  raised_is : raised_of l ≡ second_of A M d
  unfolding raised_of
  raised_is = refl

  whole_one : Whole (first_of A M d)
  whole_one = subst Whole split in_whole

  -- the raised image is in form, and holds the same table
  raised_form : InForm (raised_of l)
  raised_form = subst InForm (sym raised_is) (two_form A M d A_length M_length d_low d_high whole_one)

  pub raised_table : table_of l ≡ table_of (raised_of l)
  raised_table = ap table_of split ∙ table_same A M d A_length M_length d_low d_high whole_one ∙ ap table_of (sym raised_is)

  form : InForm l
  form = in_form l B accepted

  -- Raising an accepted image of edition 1 gives an accepted one,
  pub raised_accepted : check_of (raised_of l) ≡ Ok tt
  raised_accepted = sym (check_same l (raised_of l) form raised_form raised_table) ∙ accepted

  -- and every gate answer is the same for it.
  pub raised_evaluate :
      (r : StationRecord) (kind direction : ℕ) (e : Edges) → evaluate_of r kind direction e l ≡ evaluate_of r kind direction e (raised_of l)
  raised_evaluate = evaluate_same l (raised_of l) form raised_form raised_table

  pub raised_unmeasured : (r : StationRecord) → unmeasured_of r l ≡ unmeasured_of r (raised_of l)
  raised_unmeasured = unmeasured_same l (raised_of l) form raised_form raised_table

  pub raised_ceiling :
      (r : StationRecord) (direction : ℕ) (ordinary floor : Edges) (rungs : List Float) (floors : List ℕ)
      → ceiling_of r direction ordinary floor l rungs floors ≡ ceiling_of r direction ordinary floor (raised_of l) rungs floors
  raised_ceiling = ceiling_same l (raised_of l) form raised_form raised_table

  pub raised_list :
      (r : StationRecord) (direction : ℕ) (e : Edges) (lent left : List ℕ) (answer : Result ℕ Refusal)
      → SafeDials r direction e l lent left answer → SafeDials r direction e (raised_of l) lent left answer
  raised_list = list_same l (raised_of l) form raised_form raised_table

  pub raised_report :
      (class : ℕ) (lent left : List ℕ) (answer : Result ℕ Refusal) → Reported l class lent left answer → Reported (raised_of l) class lent left answer
  raised_report = report_same l (raised_of l) form raised_form raised_table

  pub raised_tidy : tidy_of l ≡ tidy_of (raised_of l)
  raised_tidy = tidy_same l (raised_of l) form raised_form raised_table

  pub raised_fault : fault_of l ≡ fault_of (raised_of l)
  raised_fault = fault_same l (raised_of l) form raised_form raised_table

  -- the distance takes two bytes of the general block
  pub raised_distance :
      (dial : Float) (count : ℕ) (rows : List ℕ)
      → distance_of dial (general_of l).flags (general_of l).channel_band count rows
      ≡ distance_of dial (general_of (raised_of l)).flags (general_of (raised_of l)).channel_band count rows
  raised_distance dial count rows =
      ap (λ (g : General). distance_of dial g.flags g.channel_band count rows) (ap (λ (t : Table). t.general) raised_table)

  -- A raised image can be lowered,
  pub lower_takes : refusal_of (lower_tests (raised_of l)) ≡ Ok tt
  lower_takes =
      refusal_next (from_tests 2 (raised_of l)) (test refusal.Watts (other_watts (general_of (raised_of l))) ∷ [])
      (taken (raised_of l) 2 refl raised_accepted
      (ap edition_of raised_is ∙ (two_ends A M d A_length M_length d_low d_high).edition_is))
      ∙ ap (λ (g : General). refusal_of (test refusal.Watts (other_watts g) ∷ [])) (sym (ap (λ (t : Table). t.general) raised_table))
      ∙ ap (λ (b : Bool). refusal_of (test refusal.Watts b ∷ [])) own
    where
      fixed_at : (at fixed : ℕ) → watts_at l at fixed ≡ fixed
      fixed_at at fixed = unfold watts_at in ap (λ (k : ℕ). cond (eqb k 2) (u64_at l at) fixed) first

      own : other_watts (general_of l) ≡ false
      own =
          unfold general_of in
          ap₂ (λ (x y : ℕ). not (eqb x fixed_channel_watts && eqb y fixed_segment_watts)) (fixed_at 64 fixed_channel_watts) (fixed_at 72 fixed_segment_watts)

  -- and lowering it gives the first bytes.
  pub lower_raised : lowered_of (raised_of l) ≡ l
  lower_raised = ap lowered_of raised_is ∙ lowered_two A M d A_length M_length d_low d_high ∙ sym split

-- ---- lowering

module _ (l : List ℕ) (B : Bytes l) (accepted : check_of l ≡ Ok tt) (second : edition_of l ≡ 2) (fixed : other_watts (general_of l) ≡ false) where
  abbrev A₂ : List ℕ
  A₂ = take general_size l

  abbrev M₂ : List ℕ
  M₂ = moved_of (general_size + watts_size) l

  abbrev d₂ : ℕ
  d₂ = trailer_of l - watts_size

  whole₂ : Whole l
  whole₂ = whole l B accepted

  sized₂ : general_size + watts_size + trailer_size ≤ length l
  sized₂ = second_sized l whole₂ second

  A₂_length : length A₂ ≡ general_size
  A₂_length = length-take-le general_size l (omega (arith, sized₂))

  M₂_length : general_size + length M₂ ≡ d₂ + 18
  M₂_length =
      let e : length M₂ ≡ trailer_of l + 18 - (general_size + watts_size) =
      length-take-le (trailer_of l + 18 - (general_size + watts_size)) (drop (general_size + watts_size) l)
      (rw (length-drop (general_size + watts_size) l) (omega (arith, sized₂))) in
      omega (arith, sized₂)

  d₂_low : general_size ≤ d₂
  d₂_low = omega (arith, sized₂)

  d₂_high : d₂ < 65536
  d₂_high = omega (arith, whole₂.small)

  -- its watts, by their bytes
  watts_back : take watts_size (drop general_size l) ≡ fixed_bytes
  watts_back =
      let both = and_true _ _ (not-false _ fixed) in
      let c : u64_at l 64 ≡ u64_at fixed_bytes 0 = sym (read 64 fixed_channel_watts) ∙ shown both.0 ∙ sym channel_back in
      let g : u64_at l 72 ≡ u64_at fixed_bytes 8 = sym (read 72 fixed_segment_watts) ∙ shown₂ both.1 ∙ sym segment_back in
      let n : length (take watts_size (drop general_size l)) ≡ watts_size =
      length-take-le watts_size (drop general_size l) (rw (length-drop general_size l) (omega (arith, sized₂))) in
      ext_get_or 0 (take watts_size (drop general_size l)) fixed_bytes (n ∙ sym (watts_length fixed_channel_watts fixed_segment_watts))
      (λ i h.
      let z : 0 + i ≡ i = omega arith in
      get_or-take watts_size (drop general_size l) i 0 (omega (arith, n)) ∙ get_or-drop general_size l i 0
      ∙ (rw z at (alike_both l fixed_bytes B small 64 0 8 8 (u64_like l fixed_bytes B small 64 0 c) (u64_like l fixed_bytes B small 72 8 g) i
      (omega (arith, n)))))
    where
      small : Bytes fixed_bytes
      small = unfold watts_bytes in littles_bytes _

      read : (at fix : ℕ) → watts_at l at fix ≡ u64_at l at
      read at fix = unfold watts_at in ap (λ (k : ℕ). cond (eqb k 2) (u64_at l at) fix) second

      shown : eqb (general_of l).channel_watts fixed_channel_watts ≡ true → watts_at l 64 fixed_channel_watts ≡ fixed_channel_watts
      shown e = unfold general_of in eqb-true _ _ e

      shown₂ : eqb (general_of l).segment_watts fixed_segment_watts ≡ true → watts_at l 72 fixed_segment_watts ≡ fixed_segment_watts
      shown₂ e = unfold general_of in eqb-true _ _ e

  split₂ : l ≡ second_of A₂ M₂ d₂
  split₂ =
      let e : general_size + watts_size + (trailer_of l + 18 - (general_size + watts_size)) ≡ trailer_of l + 18 = omega (arith, sized₂) in
      let f : d₂ + watts_size ≡ trailer_of l = omega (arith, sized₂) in
      in_parts l general_size watts_size
      ∙ ap (λ (m : List ℕ). A₂ ++ (m ++ drop (general_size + watts_size) l)) watts_back
      ∙ ap (λ (m : List ℕ). A₂ ++ (fixed_bytes ++ m)) (sym (take-append-drop (trailer_of l + 18 - (general_size + watts_size)) (drop (general_size + watts_size) l)))
      ∙ ap (λ (m : List ℕ). A₂ ++ (fixed_bytes ++ (M₂ ++ m))) (drop-drop (trailer_of l + 18 - (general_size + watts_size)) (general_size + watts_size) l)
      ∙ ap (λ (k : ℕ). A₂ ++ (fixed_bytes ++ (M₂ ++ drop k l))) e
      ∙ ap (λ (m : List ℕ). A₂ ++ (fixed_bytes ++ (M₂ ++ m))) (end_back l B accepted 2 second (omega arith))
      ∙ ap (λ (k : ℕ). A₂ ++ (fixed_bytes ++ (M₂ ++ end_bytes k 2))) (sym f)

  lowered_is : lowered_of l ≡ first_of A₂ M₂ d₂
  unfolding lowered_of
  lowered_is = refl

  whole_two : Whole (second_of A₂ M₂ d₂)
  whole_two = subst Whole split₂ whole₂

  lowered_form : InForm (lowered_of l)
  lowered_form = subst InForm (sym lowered_is) (one_form A₂ M₂ d₂ A₂_length M₂_length d₂_low d₂_high whole_two)

  lowered_table : table_of (lowered_of l) ≡ table_of l
  lowered_table =
      ap table_of lowered_is
      ∙ table_same A₂ M₂ d₂ A₂_length M₂_length d₂_low d₂_high (whole_of (first_of A₂ M₂ d₂) (subst InForm lowered_is lowered_form))
      ∙ ap table_of (sym split₂)

  -- A lowered image is accepted,
  pub lowered_accepted : check_of (lowered_of l) ≡ Ok tt
  lowered_accepted = check_same (lowered_of l) l lowered_form (in_form l B accepted) lowered_table ∙ accepted

  -- and can be raised,
  pub raise_takes : refusal_of (raise_tests (lowered_of l)) ≡ Ok tt
  raise_takes =
      taken (lowered_of l) 1 refl lowered_accepted
      (ap edition_of lowered_is ∙ (one_ends A₂ M₂ d₂ A₂_length M₂_length d₂_low d₂_high).edition_is)

  -- which gives the bytes back.
  pub raise_lowered : raised_of (lowered_of l) ≡ l
  raise_lowered = ap raised_of lowered_is ∙ raised_one A₂ M₂ d₂ A₂_length M₂_length d₂_low d₂_high ∙ sym split₂
