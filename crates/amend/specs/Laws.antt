-- Laws of the amending call: what the effective image keeps of an accepted base and what is written.
use Rattle.std.specs.Prelude.{ℕ, suc, ◌+◌, ◌<◌, ◌≤◌, true, false, not, ◌≡◌, refl, ltb, length, set, Option, Some, None, Result, Ok, Err}
use Rattle.codes.specs.declared.Refusal.TheVariants as refusal
use Rattle.codes.specs.Refusal.{Checked, Test, test, refusal_of}
use Rattle.codes.specs.declared.Refusal.{Refusal}
use mathlib.Core.List.{List, [], ◌∷◌, ◌++◌}
use Rattle.std.proofs.Math.Path.{sym, ap}
use Rattle.std.proofs.Common.{◌∙◌, arith, le-ltb, lt-ltb, length-set}
use Rattle.std.proofs.lemmas.Bool.{not-false}
use Rattle.std.proofs.Math.ListN.{drop}
use Rattle.std.proofs.lemmas.List.Edits.{sets}
use Rattle.std.proofs.lemmas.List.{set-append_left}
use Rattle.codes.specs.Laws.{refusal_next, refusal_stays, refusal_both, none_fails}
use Rattle.scan.specs.First.{some, on_found}
use Rattle.layout.specs.Layout.{tables, bands, segments, channels, plan_data, plan_avoid, records_before, general_of}
use Rattle.layout.specs.Form.{form_tests, Whole}
use Rattle.layout.specs.Laws.{or_false_both}
use Rattle.table.specs.Table.{Table, table_of}
use Rattle.image.specs.Check.{coded_block, miscoded_in, miscoded, sound_block, unsound_in, unsound, bare, unlimited, content_tests, check_tests, check_of}
use Rattle.image.specs.Laws.{accepted_whole}
use Rattle.writer.specs.Write.{image_answer, image_bytes, Left}
use Rattle.amended.specs.Amended.{replacement_of, counting, slot_at, amended_to, effective_of, list_wrong}
use Rattle.amended.specs.Effective.{amended_more, amended_length, same_length, few_bytes, slot_within, count_same, general_same, form_same}
use Rattle.amend.specs.Amend.{amend_tests}

-- ---- what an accepted base leaves to be asked of the effective image

pub record Kept (table : Table) : Type 0 where
  pub coded : coded_block table ≡ true
  pub sound : sound_block table.general ≡ true
  pub stocked : bare table ≡ false
  pub limited : unlimited table.general ≡ false

kept_base : (l : List ℕ) → check_of l ≡ Ok tt → Kept (table_of l)
unfolding check_of miscoded unsound
kept_base l e =
    let n = none_fails (content_tests (table_of l)) (refusal_both (form_tests l) (content_tests (table_of l)) e).1 in
    record {
      coded = not-false _ (or_false_both (not (coded_block (table_of l))) (some (miscoded_in (table_of l)) tables) n.0).0;
      sound = not-false _ (or_false_both (not (sound_block (general_of l))) (some (unsound_in (table_of l)) tables) n.1.0).0;
      stocked = n.1.1.1.1.1.1.0;
      limited = n.1.1.1.1.1.1.1.1.1.0;
    }

module _ (l a : List ℕ) (day : ℕ) (w : Whole l) where
  coded_same : coded_block (table_of (effective_of l a day)) ≡ coded_block (table_of l)
  unfolding coded_block
  coded_same =
      rw (general_same l a day w)
      (rw (count_same l a day w channels (omega arith))
      (rw (count_same l a day w plan_data (omega arith)) (rw (count_same l a day w plan_avoid (omega arith)))))

  bare_same : bare (table_of (effective_of l a day)) ≡ bare (table_of l)
  unfolding bare
  bare_same = rw (count_same l a day w bands (omega arith)) (rw (count_same l a day w segments (omega arith)))

  pub kept_coded : check_of l ≡ Ok tt → coded_block (table_of (effective_of l a day)) ≡ true
  kept_coded e = coded_same ∙ (kept_base l e).coded

  pub kept_sound : check_of l ≡ Ok tt → sound_block (general_of (effective_of l a day)) ≡ true
  kept_sound e = ap sound_block (general_same l a day w) ∙ (kept_base l e).sound

  pub kept_stocked : check_of l ≡ Ok tt → bare (table_of (effective_of l a day)) ≡ false
  kept_stocked e = bare_same ∙ (kept_base l e).stocked

  pub kept_limited : check_of l ≡ Ok tt → unlimited (general_of (effective_of l a day)) ≡ false
  kept_limited e = ap unlimited (general_same l a day w) ∙ (kept_base l e).limited

  pub kept : check_of l ≡ Ok tt → Kept (table_of (effective_of l a day))
  kept e = record { coded = kept_coded e; sound = kept_sound e; stocked = kept_stocked e; limited = kept_limited e }

-- in form: of its checks those on the content are left
pub check_content :
    (l a : List ℕ) (day : ℕ) → check_of l ≡ Ok tt
    → check_of (effective_of l a day) ≡ refusal_of (content_tests (table_of (effective_of l a day)))
unfolding check_of
check_content l a day e =
    let w = accepted_whole l e in
    let f : refusal_of (form_tests (effective_of l a day)) ≡ Ok tt =
    ap refusal_of (form_same l a day w) ∙ (refusal_both (form_tests l) (content_tests (table_of l)) e).0 in
    refusal_next (form_tests (effective_of l a day)) (content_tests (table_of (effective_of l a day))) f

-- ---- what is written

sets_front : (vs x y : List ℕ) (at : ℕ) → at + length vs ≤ length x → sets (x ++ y) at vs ≡ sets x at vs ++ y
sets_front [] x y at h = refl
sets_front (v ∷ vs) x y at h =
    ap (λ (m : List ℕ). sets m (suc at) vs) (set-append_left x y at v (omega arith))
    ∙ sets_front vs (set x at v) y (suc at) (omega (arith, length-set x at v))

-- what a loop knows that put the amendments of the first k records in place
module _ (l a : List ℕ) (day : ℕ) (lent : List ℕ) where
  pub put_none : (copied : List ℕ) → copied ≡ l → copied ++ drop (length l) lent ≡ amended_to l a day 0 ++ drop (length l) lent
  unfolding amended_to
  put_none copied e = rw e

  pub put_more :
      (out left : List ℕ) (k : ℕ) → Whole l → out ≡ amended_to l a day k ++ drop (length l) lent → k < records_before l tables
      → left ≡ on_found (counting l a day k) (λ j. sets out (slot_at l k) (replacement_of a j)) out
      → left ≡ amended_to l a day (k + 1) ++ drop (length l) lent
  put_more out left k w p h e =
      e ∙ go (counting l a day k) ∙ ap (λ (x : List ℕ). x ++ drop (length l) lent) (sym (amended_more l a day k))
    where
      go :
          (f : Option ℕ)
          → on_found f (λ j. sets out (slot_at l k) (replacement_of a j)) out
          ≡ on_found f (λ j. sets (amended_to l a day k) (slot_at l k) (replacement_of a j)) (amended_to l a day k) ++ drop (length l) lent
      go (Some j) =
          ap (λ (x : List ℕ). sets x (slot_at l k) (replacement_of a j)) p
          ∙ sets_front (replacement_of a j) (amended_to l a day k) (drop (length l) lent) (slot_at l k)
          (omega (arith, few_bytes l a day j, amended_length l a day k, slot_within l a day w k h))
      go None = p

-- ---- what is answered and left

pub left_no : (c : Checked) (image lent : List ℕ) (k : Refusal) (answer : Result ℕ Refusal) → c ≡ Err k → answer ≡ Err k → Left c image lent lent answer
left_no c image lent k answer e a =
    record {
      answered = a ∙ ap (λ (x : Checked). image_answer x image) (sym e);
      bytes = ap (λ (x : Checked). image_bytes x image lent) (sym e);
    }

pub left_same : (c d : Checked) (image lent left : List ℕ) (answer : Result ℕ Refusal) → c ≡ d → Left d image lent left answer → Left c image lent left answer
left_same c d image lent left answer e p =
    record {
      answered = p.answered ∙ ap (λ (x : Checked). image_answer x image) (sym e);
      bytes = p.bytes ∙ ap (λ (x : Checked). image_bytes x image lent) (sym e);
    }

-- the effective image, put
pub left_effective :
    (l a : List ℕ) (day : ℕ) (lent left : List ℕ) (c : Checked) → Whole l → c ≡ Ok tt → left ≡ effective_of l a day ++ drop (length l) lent
    → Left c (effective_of l a day) lent left (Ok (length l))
left_effective l a day lent left c w e p =
    let n : length (effective_of l a day) ≡ length l = same_length l a day w in
    left_same c (Ok tt) (effective_of l a day) lent left (Ok (length l)) e
    (record {
      answered = ap Ok (sym n);
      bytes = p ∙ ap (λ (m : ℕ). effective_of l a day ++ drop m lent) (sym n);
    })

-- the tests in their order: the base's, 27, 28, and the effective image's
module _ (l a : List ℕ) (day : ℕ) (lent : List ℕ) where
  abbrev rest : List Test
  rest = test refusal.Amendments (list_wrong l a) ∷ test refusal.AmendedRoom (ltb (length lent) (length l)) ∷ check_tests (effective_of l a day)

  pub amend_base : (k : Refusal) → check_of l ≡ Err k → refusal_of (amend_tests l a day lent) ≡ Err k
  unfolding check_of
  amend_base k e = refusal_stays (check_tests l) rest k e

  pub amend_rest : check_of l ≡ Ok tt → refusal_of (amend_tests l a day lent) ≡ refusal_of rest
  unfolding check_of
  amend_rest e = refusal_next (check_tests l) rest e

  pub amend_list : check_of l ≡ Ok tt → list_wrong l a ≡ true → refusal_of (amend_tests l a day lent) ≡ Err refusal.Amendments
  amend_list e h = amend_rest e ∙ rw h

  pub amend_room : check_of l ≡ Ok tt → list_wrong l a ≡ false → length lent < length l → refusal_of (amend_tests l a day lent) ≡ Err refusal.AmendedRoom
  amend_room e h n = amend_rest e ∙ rw h (rw (lt-ltb _ _ n))

  pub amend_check : check_of l ≡ Ok tt → list_wrong l a ≡ false → length l ≤ length lent → refusal_of (amend_tests l a day lent) ≡ check_of (effective_of l a day)
  unfolding check_of
  amend_check e h n = amend_rest e ∙ rw h (rw (le-ltb _ _ n))
