-- Laws of the effective image: with none in force it is the base; a later day with no amendment between the two gives the same one; amended
-- again by the same list and day it is itself, and the call accepts it as it did the base.
use Prim.Native.Nat.{ℕ, zero, suc, ◌+◌, ◌*◌, ◌%◌, ◌<◌, ◌≤◌}
use Rattle.std.specs.Prelude.{Option, Some, None, Ok, Bool, true, false, not, cond, ◌&&◌, ◌||◌, ◌≡◌, eqb, leb, ltb, length, set}
use mathlib.Core.List.{List, [], ◌∷◌}
use Rattle.std.proofs.Math.Path.{refl, ap, ap₂}
use Rattle.std.proofs.Common.{sym, ◌∙◌, arith, le-leb, ltb-false}
use Rattle.std.proofs.Math.Decide.{dec_le}
use Rattle.std.proofs.lemmas.Bool.{lt-leb}
use Rattle.std.proofs.Math.Seq.{sets}
use Rattle.std.proofs.lemmas.List.{set-get_or}
use Rattle.scan.specs.First.{some, on_found}
use Rattle.scan.specs.Laws.{some_all}
use Rattle.codes.specs.declared.Refusal.TheVariants as refusal
use Rattle.codes.specs.Refusal.{test, refusal_of}
use Rattle.codes.specs.Laws.{refusal_both, none_fails}
use Rattle.layout.specs.Bytes.{byte_at}
use Rattle.layout.specs.Form.{Whole}
use Rattle.layout.specs.Layout.{record_size, tables, records_before}
use Rattle.layout.specs.Laws.{or_false_both}
use Rattle.image.specs.Check.{check_tests, check_of}
use Rattle.image.specs.Laws.{accepted_whole}
use Rattle.amended.specs.Amended.{amendments_in, amendment_size, table_at, index_at, day_at, stray_at, list_wrong, named_at, in_force, as_late, latest, counting}
use Rattle.amended.specs.Amended.{replacement_of, slot_at, amended_to, effective_of}
use Rattle.amended.specs.Latest.{none_stray, named_of_holds}
use Rattle.amended.specs.Effective.{same_length, whole_replacement, replaced_byte, count_same, from_same, before_same}
use Rattle.amend.specs.Amend.{amend_tests}
use Rattle.amend.specs.Laws.{amend_check}

-- lists that name the same records on days when the same amendments are in force
latest_same :
    (l m a : List ℕ) (d e k n : ℕ) → ((j : ℕ) → j < n → (named_at l a j ≡ named_at m a j) × (in_force a d j ≡ in_force a e j))
    → latest l a d k n ≡ latest m a e k n
unfolding latest
latest_same l m a d e k zero h = refl
latest_same l m a d e k (suc n) h =
    ap (λ (x : ℕ). cond (eqb x k && (in_force a d n && as_late a (latest l a d k n) n)) (Some n) (latest l a d k n)) (h n (omega arith)).0
    ∙ ap (λ (x : Bool). cond (eqb (named_at m a n) k && (x && as_late a (latest l a d k n) n)) (Some n) (latest l a d k n)) (h n (omega arith)).1
    ∙ ap (λ (f : Option ℕ). cond (eqb (named_at m a n) k && (in_force a e n && as_late a f n)) (Some n) f)
    (latest_same l m a d e k n (λ j b. h j (omega arith)))

amended_same :
    (l a : List ℕ) (d e : ℕ) → ((k : ℕ) → counting l a d k ≡ counting l a e k) → (k : ℕ) → amended_to l a d k ≡ amended_to l a e k
unfolding amended_to
amended_same l a d e h zero = refl
amended_same l a d e h (suc k) =
    ap₂ (λ (f : Option ℕ) (x : List ℕ). on_found f (λ j. sets x (slot_at l k) (replacement_of a j)) x) (h k) (amended_same l a d e h k)

-- ---- a later day

-- no amendment is of a day after d and not after e
abbrev pub NoneBetween : List ℕ → ℕ → ℕ → Type 0
NoneBetween a d e = (j : ℕ) → j < amendments_in a → day_at a j ≤ e → day_at a j ≤ d

pub later_same : (l a : List ℕ) (d e : ℕ) → d ≤ e → NoneBetween a d e → effective_of l a d ≡ effective_of l a e
unfolding effective_of
later_same l a d e h none =
    amended_same l a d e (λ k. latest_same l l a d e k (amendments_in a) (λ j b. (refl, forces j b (dec_le (day_at a j) d) (dec_le (day_at a j) e))))
    (records_before l tables)
  where
    forces : (j : ℕ) → j < amendments_in a → Dec (day_at a j ≤ d) → Dec (day_at a j ≤ e) → in_force a d j ≡ in_force a e j
    forces j b (yes x) y = le-leb (day_at a j) d x ∙ sym (le-leb (day_at a j) e (omega arith))
    forces j b (no x) (yes y) = absurd (x (none j b y))
    forces j b (no x) (no y) = lt-leb (day_at a j) d (omega arith) ∙ sym (lt-leb (day_at a j) e (omega arith))

-- ---- none in force

-- "With no amendment in force the effective image is the base image."
abbrev pub NoneInForce : List ℕ → ℕ → Type 0
NoneInForce a day = (j : ℕ) → j < amendments_in a → day < day_at a j

none_found : (l a : List ℕ) (day k n : ℕ) → ((j : ℕ) → j < n → day < day_at a j) → latest l a day k n ≡ None
unfolding latest
none_found l a day k zero h = refl
none_found l a day k (suc n) h =
    ap (λ (x : Bool). cond (eqb (named_at l a n) k && (x && as_late a (latest l a day k n) n)) (Some n) (latest l a day k n)) (lt-leb _ _ (h n (omega arith)))
    ∙ never (eqb (named_at l a n) k)
    ∙ none_found l a day k n (λ j b. h j (omega arith))
  where
    never : (b : Bool) → cond (b && false) (Some n) (latest l a day k n) ≡ latest l a day k n
    never true = refl
    never false = refl

none_amended : (l a : List ℕ) (day : ℕ) → NoneInForce a day → (k : ℕ) → amended_to l a day k ≡ l
unfolding amended_to
none_amended l a day h zero = refl
none_amended l a day h (suc k) =
    ap (λ (f : Option ℕ). on_found f (λ j. sets (amended_to l a day k) (slot_at l k) (replacement_of a j)) (amended_to l a day k))
    (none_found l a day k (amendments_in a) h)
    ∙ none_amended l a day h k

pub none_in_force : (l a : List ℕ) (day : ℕ) → NoneInForce a day → effective_of l a day ≡ l
unfolding effective_of
none_in_force l a day h = none_amended l a day h (records_before l tables)

-- ---- amended again

-- bytes that stand there already
sets_same : (vs l : List ℕ) (at : ℕ) → ((m : ℕ) → m < length vs → byte_at l (at + m) ≡ byte_at vs m) → sets l at vs ≡ l
sets_same [] l at h = refl
sets_same (v ∷ vs) l at h =
    let z : at + 0 ≡ at = omega arith in
    let e : byte_at l at ≡ v = rw z at (h 0 (omega arith)) in
    ap (λ (x : List ℕ). sets x (suc at) vs) (ap (set l at) (sym e) ∙ set-get_or l at 0)
    ∙ sets_same vs l (suc at) (λ m b. let s : suc at + m ≡ at + suc m = omega arith in rw s (h (suc m) (omega arith)))

module _ (l a : List ℕ) (day : ℕ) (w : Whole l) (right : list_wrong l a ≡ false) where
  abbrev image : List ℕ
  image = effective_of l a day

  named_same : (j : ℕ) → j < amendments_in a → named_at image a j ≡ named_at l a j
  named_same j h =
      let t = (named_of_holds l a j (none_stray l a right j h)).table_right in
      ap (λ (n : ℕ). n + index_at a j) (before_same l a day w (table_at a j) (omega (arith, t)))

  counting_same : (k : ℕ) → counting image a day k ≡ counting l a day k
  counting_same k = latest_same image l a day day k (amendments_in a) (λ j h. (named_same j h, refl))

  again : (k : ℕ) → k ≤ records_before l tables → amended_to image a day k ≡ image
  unfolding amended_to
  again zero h = refl
  again (suc k) h =
      ap₂ (λ (f : Option ℕ) (x : List ℕ). on_found f (λ j. sets x (slot_at image k) (replacement_of a j)) x) (counting_same k) (again k (omega arith))
      ∙ go (counting l a day k) refl
    where
      go : (f : Option ℕ) → counting l a day k ≡ f → on_found f (λ j. sets image (slot_at image k) (replacement_of a j)) image ≡ image
      go (Some j) e =
          ap (λ (x : ℕ). sets image (x + record_size * k) (replacement_of a j)) (from_same l a day w)
          ∙ sets_same (replacement_of a j) image (slot_at l k)
          (λ m b. replaced_byte l a day w k j m (omega arith) e (omega (arith, whole_replacement l a day w k j e)))
      go None e = refl

  again_all : amended_to image a day (records_before image tables) ≡ image
  again_all = ap (amended_to image a day) (before_same l a day w tables (omega arith)) ∙ again (records_before l tables) (omega arith)

  pub again_same : effective_of image a day ≡ image
  unfolding effective_of
  again_same = again_all

  -- the list is right for it too
  stray_same : (j : ℕ) → j < amendments_in a → stray_at image a j ≡ false
  stray_same j h =
      let t = (named_of_holds l a j (none_stray l a right j h)).table_right in
      ap (λ (n : ℕ). leb tables (table_at a j) || leb n (index_at a j)) (count_same l a day w (table_at a j) t) ∙ none_stray l a right j h

  pub right_again : list_wrong image a ≡ false
  unfolding list_wrong
  right_again =
      ap₂ (λ (x y : Bool). x || y)
      (or_false_both (not (eqb (length a % amendment_size) 0)) (some (stray_at l a) (amendments_in a)) right).0
      (some_all (stray_at image a) (amendments_in a) stray_same)

-- A call that was answered with an image is answered with the same one, of that image.
pub again_accepted :
    (l a : List ℕ) (day : ℕ) (lent : List ℕ) → refusal_of (amend_tests l a day lent) ≡ Ok tt
    → (refusal_of (amend_tests (effective_of l a day) a day lent) ≡ Ok tt) × (effective_of (effective_of l a day) a day ≡ effective_of l a day)
unfolding check_of
again_accepted l a day lent e =
    let image = effective_of l a day in
    let both = refusal_both (check_tests l) (test refusal.Amendments (list_wrong l a) ∷ test refusal.AmendedRoom (ltb (length lent) (length l)) ∷ check_tests image) e in
    let last = refusal_both (test refusal.Amendments (list_wrong l a) ∷ test refusal.AmendedRoom (ltb (length lent) (length l)) ∷ []) (check_tests image) both.1 in
    let none = none_fails (test refusal.Amendments (list_wrong l a) ∷ test refusal.AmendedRoom (ltb (length lent) (length l)) ∷ []) last.0 in
    let w = accepted_whole l both.0 in
    let n : length l ≤ length lent = ltb-false (length lent) (length l) none.1.0 in
    let same = again_same l a day w none.0 in (
      amend_check image a day lent last.1 (right_again l a day w none.0) (rw (same_length l a day w) n) ∙ ap check_of same ∙ last.1,
      same,
    )
