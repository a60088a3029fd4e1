-- Laws of the place: a refusal by 5 to 10, 12 or 13 has one, in the general block or in a record that is there, and nothing else has.
use Rattle.std.specs.Prelude.{ℕ, ◌<◌, ◌≤◌, ◌≡◌, refl, Bool, true, false, not, cond, ◌&&◌, ◌||◌, List, [], ◌∷◌, eqb, leb, Option, Some, None, Ok, Err}
use Rattle.codes.specs.Refusal.{Checked, Test, number_of, refusal_of}
use Rattle.std.proofs.Common.{sym, ap, subst, ◌∙◌, true≢false, arith, eqb-true, leb-true, eq-eqb, ne_eqb}
use Rattle.std.proofs.Math.Decide.{dec_le}
use Rattle.std.proofs.lemmas.Bool.{eqb-false, lt-leb}
use Rattle.codes.specs.Code.{bit_of}
use Rattle.codes.specs.declared.Refusal.{Refusal}
use Rattle.codes.specs.declared.Refusal.TheVariants as refusal
use Rattle.codes.specs.Laws.{refusal_stays}
use Rattle.scan.specs.First.{first, some, is_at, on_found}
use Rattle.scan.specs.Laws.{Passed, passed_none, found_here, found_none, first_at, some_false, some_all}
use Rattle.layout.specs.Form.{form_tests, Whole}
use Rattle.layout.specs.Laws.{whole_of}
use Rattle.layout.specs.Layout.{tables, bands, segments, channels, privileges, automatic, plan_data, plan_avoid, general_of, count_of}
use Rattle.layout.specs.declared.General.{General}
use Rattle.coded.specs.Coded.{coded_channels, coded_plans, coded_general}
use Rattle.table.specs.Table.{Table, count_in, record_in, table_of}
use Rattle.table.specs.Laws.{count_in_holds}
use Rattle.find.specs.Question.{asks, first_in, homeless_at}
use Rattle.find.specs.declared.Question.TheVariants.{Miscoded, NotLengthy, NoLimit}
use Rattle.image.specs.Check.{coded_block, miscoded_in, miscoded, sound_block, unsound_in, unsound, content_tests, check_tests, check_of}
use Rattle.fault.specs.Fault.{in_table, first_of, has_one, record_where, absent_part, miscoded_at, miscoded_place, unsound_at}
use Rattle.fault.specs.Fault.{unsound_place, short_in, homeless_place, limit_place, fault_at, fault_of}
use Rattle.fault.specs.declared.Fault.{Fault}
use Rattle.fault.specs.declared.Fault.TheVariants.{InGeneral, InRecord}

-- ---- a scan of the tables

module _ (table : Table) (test : ℕ → ℕ → Bool) where
  -- found in table t, and in none before it
  pub where_here : (t i : ℕ) → t < tables → Passed (has_one table test) tables t → Some i ≡ first_of table test t → Some (InRecord t i) ≡ record_where table test
  unfolding record_where
  where_here t i h p e = rw (← found_here (has_one table test) tables t h p (ap is_at (sym e))) (rw (← e))

  pub where_none : (t : ℕ) → tables ≤ t → Passed (has_one table test) tables t → None ≡ record_where table test
  unfolding record_where
  where_none t h p = rw (← found_none (has_one table test) tables t h p)

-- ---- 5 in one table

module _ (table : Table) (t : ℕ) where
  -- the part is there: the records' own bytes decide
  pub present_first : absent_part table.general t ≡ false → first_in table t (Miscoded t) ≡ first_of table (miscoded_at table) t
  present_first e = sym (ap (λ (b : Bool). first (λ i. b || asks (Miscoded t) (table.at t i)) (table.count t)) e)

  -- it is absent: the table's first record
  pub absent_first : absent_part table.general t ≡ true → 0 < table.count t → Some 0 ≡ first_of table (miscoded_at table) t
  absent_first e h = found_here (miscoded_at table t) (table.count t) 0 h (passed_none _ _) (rw e)

  pub empty_first : table.count t ≡ 0 → None ≡ first_of table (miscoded_at table) t
  empty_first e = found_none (miscoded_at table t) (table.count t) 0 (omega arith) (passed_none _ _)

-- ---- a refusal's own test fails

-- a test of this number fails
abbrev fails_of : ℕ → List Test → Bool
fails_of n [] = false
fails_of n (t ∷ ts) = (eqb (number_of t.refusal) n && t.fails) || fails_of n ts

or_right : (a b : Bool) → b ≡ true → (a || b) ≡ true
or_right true b e = refl
or_right false b e = e

or_none : (a : Bool) → (a || false) ≡ true → a ≡ true
or_none true e = refl
or_none false e = e

refusal_fails : (ts : List Test) (n : Refusal) → refusal_of ts ≡ Err n → fails_of (number_of n) ts ≡ true
refusal_fails [] n e = absurd (let z : ◌≡◌ {A = ℕ} 0 1 = cc in omega arith)
refusal_fails (t ∷ ts) n e = go t.fails (refusal_fails ts n) e
  where
    go :
        (f : Bool) → (refusal_of ts ≡ Err n → fails_of (number_of n) ts ≡ true) → cond f (Err t.refusal) (refusal_of ts) ≡ Err n
        → ((eqb (number_of t.refusal) (number_of n) && f) || fails_of (number_of n) ts) ≡ true
    go true next q = let same : t.refusal ≡ n = cc in rw (eq-eqb (number_of t.refusal) (number_of n) (ap number_of same))
    go false next q = or_right (eqb (number_of t.refusal) (number_of n) && false) (fails_of (number_of n) ts) (next q)

failed : (l : List ℕ) (n : Refusal) → check_of l ≡ Err n → fails_of (number_of n) (check_tests l) ≡ true
unfolding check_of
failed l n e = refusal_fails (check_tests l) n e

-- 1 to 4 are the form's numbers.
form_low : (l : List ℕ) (n : Refusal) → 5 ≤ number_of n → refusal_of (form_tests l) ≡ Err n → ⊥
form_low l n h e =
    true≢false
    (sym (refusal_fails (form_tests l) n e)
    ∙ (rw (ne_eqb 1 (number_of n) (λ e. omega arith))
    (rw (ne_eqb 2 (number_of n) (λ e. omega arith)) (rw (ne_eqb 3 (number_of n) (λ e. omega arith)) (rw (ne_eqb 4 (number_of n) (λ e. omega arith)))))))

-- An image that a later number refuses is whole.
pub refused_whole : (l : List ℕ) (n : Refusal) → check_of l ≡ Err n → 5 ≤ number_of n → Whole l
unfolding check_of
refused_whole l n e h = whole_of l (go (refusal_of (form_tests l)) refl)
  where
    go : (c : Checked) → refusal_of (form_tests l) ≡ c → c ≡ Ok tt
    go (Ok tt) p = refl
    go (Err m) p =
        let s : refusal_of (check_tests l) ≡ Err m = refusal_stays (form_tests l) (content_tests (table_of l)) m p in
        let same : m ≡ n = cc in
        absurd (form_low l n h (p ∙ ap Err same))

-- ---- the place is there

-- a place: the general block, or a record that the table has
abbrev pub Located : Table → Option Fault → Type 0
Located table (Some InGeneral) = Unit
Located table (Some (InRecord t i)) = (t < tables) × (i < table.count t)
Located table None = ⊥

some_located : (l : List ℕ) (t : ℕ) (test : ℕ → Bool) → t < tables → some test (count_in l t) ≡ true → Located (table_of l) (in_table t (first test (count_in l t)))
some_located l t test h e = go (first test (count_in l t)) refl e
  where
    go : (f : Option ℕ) → first test (count_in l t) ≡ f → is_at f ≡ true → Located (table_of l) (in_table t f)
    go (Some i) p q = (h, (first_at test (count_in l t) i p).below)
    go None p q = true≢false (sym q)

where_located : (l : List ℕ) (test : ℕ → ℕ → Bool) → some (has_one (table_of l) test) tables ≡ true → Located (table_of l) (record_where (table_of l) test)
unfolding record_where
where_located l test e = go (first (has_one (table_of l) test) tables) refl e
  where
    go : (f : Option ℕ) → first (has_one (table_of l) test) tables ≡ f
        → is_at f ≡ true → Located (table_of l) (on_found f (λ t. in_table t (first_of (table_of l) test t)) None)
    go (Some t) p q = let r = first_at (has_one (table_of l) test) tables t p in some_located l t (test t) r.below r.passes
    go None p q = true≢false (sym q)

-- 5: the block's test with the true counts says the same as with noughts where every table of an absent part is empty
channels_same : (g : General) (b : Bool) (n : ℕ) → bit_of g.flags 2 ≡ b → (not b ≡ true → n ≡ 0) → coded_channels g n ≡ coded_channels g 0
channels_same g true n e h = rw e
channels_same g false n e h = rw (h refl)

plans_same :
    (g : General) (b : Bool) (a v : ℕ) → bit_of g.flags 4 ≡ b → (not b ≡ true → a ≡ 0) → (not b ≡ true → v ≡ 0)
    → coded_plans g a v ≡ coded_plans g 0 0
plans_same g true a v e h k = rw e
plans_same g false a v e h k = rw (h refl) (rw (k refl))

block_same :
    (l : List ℕ) → ((t : ℕ) → t < tables → absent_part (general_of l) t ≡ true → count_in l t ≡ 0)
    → coded_block (table_of l) ≡ coded_general (general_of l) 0 0 0
unfolding coded_block coded_general absent_part
block_same l h =
    let g = general_of l in
    rw (channels_same g (bit_of g.flags 2) (count_in l channels) refl (h channels (omega arith)))
    (rw (plans_same g (bit_of g.flags 4) (count_in l plan_data) (count_in l plan_avoid) refl (h plan_data (omega arith)) (h plan_avoid (omega arith))))

-- no record meets 5: neither does a table of an absent part, nor a record's own bytes
module _ (l : List ℕ) (none : some (has_one (table_of l) (miscoded_at (table_of l))) tables ≡ false) where
  none_at : (t i : ℕ) → t < tables → i < count_in l t → miscoded_at (table_of l) t i ≡ false
  none_at t i h k = some_false (miscoded_at (table_of l) t) (count_in l t) (some_false (has_one (table_of l) (miscoded_at (table_of l))) tables none t h) i k

  none_absent : (t : ℕ) → t < tables → absent_part (general_of l) t ≡ true → count_in l t ≡ 0
  none_absent t h e = go (dec_le 1 (count_in l t))
    where
      go : Dec (1 ≤ count_in l t) → count_in l t ≡ 0
      go (yes k) = absurd (true≢false (sym (rw e) ∙ none_at t 0 h k))
      go (no k) = omega arith

  or_last : (a b : Bool) → (a || b) ≡ false → b ≡ false
  or_last true b e = absurd (true≢false e)
  or_last false b e = e

  none_own : some (miscoded_in (table_of l)) tables ≡ false
  none_own =
      some_all (miscoded_in (table_of l)) tables
      (λ t h. some_all (λ i. asks (Miscoded t) (record_in l t i)) (count_in l t)
      (λ i k. or_last (absent_part (general_of l) t) (asks (Miscoded t) (record_in l t i)) (none_at t i h k)))

  none_coded : coded_general (general_of l) 0 0 0 ≡ true → miscoded (table_of l) ≡ false
  unfolding miscoded
  none_coded e = rw (block_same l none_absent) (rw e (rw none_own))

miscoded_located : (l : List ℕ) → miscoded (table_of l) ≡ true → Located (table_of l) (miscoded_place (table_of l))
unfolding miscoded_place
miscoded_located l e = go (coded_general (general_of l) 0 0 0) refl
  where
    found : coded_general (general_of l) 0 0 0 ≡ true → (b : Bool) → some (has_one (table_of l) (miscoded_at (table_of l))) tables ≡ b → b ≡ true
    found c true p = refl
    found c false p = absurd (true≢false (sym e ∙ none_coded l p c))

    go : (b : Bool) → coded_general (general_of l) 0 0 0 ≡ b → Located (table_of l) (cond b (record_where (table_of l) (miscoded_at (table_of l))) (Some InGeneral))
    go false p = tt
    go true p = where_located l (miscoded_at (table_of l)) (found p (some (has_one (table_of l) (miscoded_at (table_of l))) tables) refl)

unsound_located : (l : List ℕ) → unsound (table_of l) ≡ true → Located (table_of l) (unsound_place (table_of l))
unfolding unsound unsound_place
unsound_located l e = go (sound_block (general_of l)) e
  where
    go : (b : Bool) → (not b || some (unsound_in (table_of l)) tables) ≡ true
        → Located (table_of l) (cond b (record_where (table_of l) (unsound_at (table_of l))) (Some InGeneral))
    go false q = tt
    go true q = where_located l (unsound_at (table_of l)) q

-- ---- all numbers

-- the refusals that have a place
abbrev pub has_place : ℕ → Bool
has_place n = (leb 5 n && leb n 10) || (eqb n 12 || eqb n 13)

by_number : (l : List ℕ) (n k : ℕ) (x y : Option Fault) → (n ≡ k → Located (table_of l) x)
    → (eqb n k ≡ false → Located (table_of l) y) → Located (table_of l) (cond (eqb n k) x y)
by_number l n k x y here rest = go (eqb n k) refl
  where
    go : (b : Bool) → eqb n k ≡ b → Located (table_of l) (cond b x y)
    go true p = here (eqb-true n k p)
    go false p = rest p

-- none of those numbers
no_place :
    (n : ℕ) → eqb n 5 ≡ false → eqb n 6 ≡ false → eqb n 7 ≡ false → eqb n 8 ≡ false → eqb n 9 ≡ false → eqb n 10 ≡ false
    → eqb n 12 ≡ false → eqb n 13 ≡ false → has_place n ≡ false
no_place n a b c d f g i j = rw i (rw j (go (leb 5 n) (leb n 10) refl refl))
  where
    go : (x y : Bool) → leb 5 n ≡ x → leb n 10 ≡ y → ((x && y) || false) ≡ false
    go true true p q =
        absurd
        (omega
        (arith, leb-true 5 n p, leb-true n 10 q, eqb-false n 5 a, eqb-false n 6 b, eqb-false n 7 c, eqb-false n 8 d, eqb-false n 9 f, eqb-false n 10 g))
    go true false p q = refl
    go false y p q = refl

-- the place by the refusal's number
by_numbers :
    (n : Refusal) (table : Table)
    → fault_at n table
    ≡ cond (eqb (number_of n) 5) (miscoded_place table)
    (cond (eqb (number_of n) 6) (unsound_place table)
    (cond (eqb (number_of n) 7) (short_in table bands)
    (cond (eqb (number_of n) 8) (short_in table segments)
    (cond (eqb (number_of n) 9) (short_in table automatic)
    (cond (eqb (number_of n) 10) (short_in table privileges)
    (cond (eqb (number_of n) 12) (homeless_place table) (cond (eqb (number_of n) 13) (limit_place table) None)))))))
unfolding fault_at
by_numbers refusal.ImageLength table = refl
by_numbers refusal.Letters table = refl
by_numbers refusal.Edition table = refl
by_numbers refusal.Counts table = refl
by_numbers refusal.CodedByte table = refl
by_numbers refusal.ImageFigure table = refl
by_numbers refusal.BandRange table = refl
by_numbers refusal.SegmentRange table = refl
by_numbers refusal.AutomaticRange table = refl
by_numbers refusal.PrivilegeRange table = refl
by_numbers refusal.EmptyTable table = refl
by_numbers refusal.SegmentOutside table = refl
by_numbers refusal.OwnLimit table = refl
by_numbers refusal.GeneralLimit table = refl
by_numbers refusal.SignalEdge table = refl
by_numbers refusal.Rungs table = refl
by_numbers refusal.StationCode table = refl
by_numbers refusal.StationFigure table = refl
by_numbers refusal.NoImage table = refl
by_numbers refusal.Rows table = refl
by_numbers refusal.Text table = refl
by_numbers refusal.Report table = refl
by_numbers refusal.Watts table = refl
by_numbers refusal.Amendments table = refl
by_numbers refusal.AmendedRoom table = refl
by_numbers refusal.SecondSwap table = refl
by_numbers refusal.Walk table = refl
by_numbers refusal.Starts table = refl
by_numbers refusal.Runs table = refl
by_numbers refusal.Stretch table = refl
by_numbers refusal.FarDial table = refl
by_numbers (refusal.Other k) table = refl

-- A refusal with a place: its test fails, and there it fails first.
at_located : (l : List ℕ) (n : Refusal) → check_of l ≡ Err n → has_place (number_of n) ≡ true → Located (table_of l) (fault_at n (table_of l))
at_located l n e h =
    rw (by_numbers n (table_of l)) (by_number l (number_of n) 5 _ _ (λ q. miscoded_located l (or_none (miscoded (table_of l)) (fails 5 q)))
    (λ a. by_number l (number_of n) 6 _ _ (λ q. unsound_located l (or_none (unsound (table_of l)) (fails 6 q)))
    (λ b. by_number l (number_of n) 7 _ _ (λ q. short bands (omega arith) (or_none _ (fails 7 q)))
    (λ c. by_number l (number_of n) 8 _ _ (λ q. short segments (omega arith) (or_none _ (fails 8 q)))
    (λ d. by_number l (number_of n) 9 _ _ (λ q. short automatic (omega arith) (or_none _ (fails 9 q)))
    (λ f. by_number l (number_of n) 10 _ _ (λ q. short privileges (omega arith) (or_none _ (fails 10 q)))
    (λ g. by_number l (number_of n) 12 _ _ (λ q. some_located l segments (homeless_at (table_of l) false) (omega arith) (or_none _ (fails 12 q)))
    (λ i. by_number l (number_of n) 13 _ _ (λ q. some_located l segments (λ k. asks NoLimit (record_in l segments k)) (omega arith) (or_none _ (fails 13 q)))
    (λ j. true≢false (sym h ∙ no_place (number_of n) a b c d f g i j))))))))))
  where
    fails : (k : ℕ) → number_of n ≡ k → fails_of k (check_tests l) ≡ true
    fails k q = subst (λ (j : ℕ). fails_of j (check_tests l) ≡ true) q (failed l n e)

    short : (t : ℕ) → t < tables → some (λ i. asks NotLengthy (record_in l t i)) (count_in l t) ≡ true → Located (table_of l) (short_in (table_of l) t)
    short t = some_located l t (λ i. asks NotLengthy (record_in l t i))

-- A refusal by 5 to 10, 12 or 13 has a place.
pub located : (l : List ℕ) (n : Refusal) → check_of l ≡ Err n → has_place (number_of n) ≡ true → Located (table_of l) (fault_of l).fault
located l n e h = rw e (at_located l n e h)

other : (n k : ℕ) → has_place n ≡ false → has_place k ≡ true → eqb n k ≡ false
other n k h p = ne_eqb n k (λ e. true≢false (sym p ∙ sym (ap has_place e) ∙ h))

-- Every other refusal has none.
at_nowhere : (n : Refusal) (table : Table) → has_place (number_of n) ≡ false → None ≡ fault_at n table
at_nowhere n table h =
    sym
    (by_numbers n table
    ∙ (rw (other (number_of n) 5 h refl)
    (rw (other (number_of n) 6 h refl)
    (rw (other (number_of n) 7 h refl)
    (rw (other (number_of n) 8 h refl)
    (rw (other (number_of n) 9 h refl)
    (rw (other (number_of n) 10 h refl) (rw (other (number_of n) 12 h refl) (rw (other (number_of n) 13 h refl))))))))))

-- nor has the form
form_none : (n : ℕ) → n < 5 → has_place n ≡ false
form_none n h = rw (lt-leb 5 n h) (rw (ne_eqb n 12 (λ e. omega arith)) (rw (ne_eqb n 13 (λ e. omega arith))))

pub form_nowhere : (n : Refusal) (table : Table) → number_of n < 5 → None ≡ fault_at n table
form_nowhere n table h = at_nowhere n table (form_none (number_of n) h)

-- A refusal by another number has no place, nor has an accepted image.
pub unlocated : (l : List ℕ) (n : Refusal) → check_of l ≡ Err n → has_place (number_of n) ≡ false → (fault_of l).fault ≡ None
unlocated l n e h = rw e (sym (at_nowhere n (table_of l) h))

pub accepted_nowhere : (l : List ℕ) → check_of l ≡ Ok tt → (fault_of l).fault ≡ None
accepted_nowhere l e = rw e

-- So a record that is named is one of a whole image's, below its table's count.
pub named : (l : List ℕ) (t i : ℕ) → (fault_of l).fault ≡ Some (InRecord t i) → Whole l × (t < tables) × (i < count_of l t)
named l t i e = by_check (check_of l) refl
  where
    never : (fault_of l).fault ≡ None → ⊥
    never q = let z : ◌≡◌ {A = ℕ} 0 1 = cc in omega arith

    whole : (n : Refusal) → check_of l ≡ Err n → has_place (number_of n) ≡ true → Dec (5 ≤ number_of n) → Whole l
    whole n c h (yes k) = refused_whole l n c k
    whole n c h (no k) = absurd (true≢false (sym h ∙ form_none (number_of n) (omega arith)))

    by_place : (n : Refusal) → check_of l ≡ Err n → (b : Bool) → has_place (number_of n) ≡ b → Whole l × (t < tables) × (i < count_of l t)
    by_place n c true h = let p = subst (Located (table_of l)) e (located l n c h) in (whole n c h (dec_le 5 (number_of n)), p.0, rw (count_in_holds l t p.0) at p.1)
    by_place n c false h = absurd (never (unlocated l n c h))

    by_check : (x : Checked) → check_of l ≡ x → Whole l × (t < tables) × (i < count_of l t)
    by_check (Ok tt) c = absurd (never (accepted_nowhere l c))
    by_check (Err n) c = by_place n c (has_place (number_of n)) refl
