-- Laws of what is given: every table's records lie within the runs.
use Rattle.std.specs.Prelude.{ℕ, zero, suc, ◌+◌, ◌*◌, ◌-◌, ◌≤◌, ◌<◌, false, List, ◌≡◌, length, Ok}
use Rattle.std.proofs.Common.{subst, add-one, zero-add, suc-add, le_refl, arith, lt-ltb, ltb-false, eqb-true}
use Rattle.std.proofs.lemmas.Bool.{not-false}
use Rattle.codes.specs.Refusal.{refusal_of}
use Rattle.codes.specs.Laws.{none_fails}
use Rattle.layout.specs.Layout.{tables}
use Rattle.layout.specs.Laws.{or_false_both}
use Rattle.layout.specs.declared.General.{General}
use Rattle.given.specs.Given.{Runs, count_from, before_from, record_from, count_given, record_given}
use Rattle.given.specs.Tests.{neither_edition, overfull_from, runs_wrong, given_tests, Held}

pub before_more : (n : List ℕ) (t : ℕ) → before_from n (t + 1) ≡ before_from n t + count_from n t
unfolding before_from
before_more n t = rw add-one

before_ahead : (n : List ℕ) (t k : ℕ) → before_from n t ≤ before_from n (k + t)
unfolding before_from
before_ahead n t zero = rw zero-add (le_refl _)
before_ahead n t (suc k) =
    let h : before_from n t ≤ before_from n (k + t) = before_ahead n t k in
    rw suc-add (omega arith)

-- the records of table t are among all
pub before_within : (n : List ℕ) (t : ℕ) → t < tables → before_from n t + count_from n t ≤ before_from n tables
before_within n t h =
    let e : tables - (t + 1) + (t + 1) ≡ tables = omega arith in
    let a : before_from n (t + 1) ≤ before_from n tables =
    subst (λ (k : ℕ). before_from n (t + 1) ≤ before_from n k) e (before_ahead n (t + 1) (tables - (t + 1))) in
    omega (arith, before_more n t)

pub count_given_holds : (n : List ℕ) (t : ℕ) → t < tables → count_given n t ≡ count_from n t
count_given_holds n t h = rw (lt-ltb t tables h)

pub record_given_holds :
    (n : List ℕ) (r : Runs) (t i : ℕ) → t < tables → i < count_from n t → record_given n r t i ≡ record_from r (before_from n t + i)
unfolding record_given
record_given_holds n r t i h k = rw (count_given_holds n t h) (rw (lt-ltb i (count_from n t) k))

-- runs that agree with a count hold so many records
pub runs_held : (r : Runs) (count : ℕ) → runs_wrong r count ≡ false → Held r count
unfolding runs_wrong
runs_held r count e =
    let a = or_false_both _ _ e in
    let b = or_false_both _ _ a.1 in
    let f : length r.figures ≡ 3 * count = eqb-true _ _ (not-false _ a.0) in
    let c : length r.codes ≡ 4 * count = eqb-true _ _ (not-false _ b.0) in
    let u : length r.rules ≡ 2 * count = eqb-true _ _ (not-false _ b.1) in
    record { figures = omega arith; codes = omega arith; rules = omega arith }

-- What is not refused has an edition, at most 2,045 records, and the runs have them.
pub record Sound (edition : ℕ) (n : List ℕ) (r : Runs) : Type 0 where
  pub few : before_from n tables ≤ 2045
  pub edition_right : neither_edition edition ≡ false
  pub full : overfull_from n ≡ false
  pub agree : runs_wrong r (before_from n tables) ≡ false
  pub held : Held r (before_from n tables)

pub sound_of : (edition : ℕ) (g : General) (n : List ℕ) (r : Runs) → refusal_of (given_tests edition g n r) ≡ Ok tt → Sound edition n r
sound_of edition g n r e =
    let none = none_fails (given_tests edition g n r) e in
    let wrong = or_false_both (overfull_from n) (runs_wrong r (before_from n tables)) none.1.1.0 in
    record {
      few = ltb-false _ _ none.0;
      edition_right = none.1.0;
      full = wrong.0;
      agree = wrong.1;
      held = runs_held r (before_from n tables) wrong.1;
    }
