-- Laws of the amendment that counts: what it is, and the numbers that stand for what a pass over the list has found.
use Prim.Native.Nat.{ℕ, zero, suc, ◌+◌, ◌*◌, ◌-◌, ◌%◌, ◌<◌, ◌≤◌}
use Rattle.std.specs.Prelude.{Option, Some, None, Bool, true, false, not, cond, ◌&&◌, List, ◌≡◌, refl, eqb, leb, length, get_or, set, replicate}
use Rattle.std.specs.Option.{IfSome}
use Rattle.std.proofs.Common.{sym, ap, ◌∙◌, eq-eqb, ne_eqb, eqb-true, leb-false, le-leb, length-set, get_or-set_same, get_or-set_other}
use Rattle.std.proofs.lemmas.Bool.{eqb-false, lt-leb}
use native.Mathlib.Omega.{arith}
use Rattle.scan.specs.First.{some}
use Rattle.scan.specs.Laws.{some_false}
use Rattle.layout.specs.Layout.{general_size, watts_size, tables, is_second, count_of, records_before, tables_from}
use Rattle.layout.specs.Laws.{or_false_both, table_within}
use Rattle.layout.specs.Form.{Whole}
use Rattle.amended.specs.Amended.{amendment_size, amendments_in, table_at, index_at, day_at, stray_at, list_wrong, named_at, in_force, as_late, latest}
use Rattle.amended.specs.Amended.{counting}

-- ---- a list that is right

-- amendment j of a list in forties lies within it
pub within_list : (a : List ℕ) (j : ℕ) → j < amendments_in a → amendment_size * j + amendment_size ≤ length a
within_list a j h = omega arith

pub none_stray : (l a : List ℕ) → list_wrong l a ≡ false → (j : ℕ) → j < amendments_in a → stray_at l a j ≡ false
unfolding list_wrong
none_stray l a e j h =
    some_false (stray_at l a) (amendments_in a) (or_false_both (not (eqb (length a % amendment_size) 0)) (some (stray_at l a) (amendments_in a)) e).1 j h

-- what an amendment of a right list names
pub record Named (l a : List ℕ) (j : ℕ) : Type 0 where
  pub table_right : table_at a j < tables
  pub index_right : index_at a j < count_of l (table_at a j)

pub named_of_holds : (l a : List ℕ) (j : ℕ) → stray_at l a j ≡ false → Named l a j
named_of_holds l a j e =
    let p = or_false_both (leb tables (table_at a j)) (leb (count_of l (table_at a j)) (index_at a j)) e in
    record { table_right = leb-false _ _ p.0; index_right = leb-false _ _ p.1 }

pub named_of_right : (l a : List ℕ) → list_wrong l a ≡ false → (j : ℕ) → j < amendments_in a → Named l a j
named_of_right l a e j h = named_of_holds l a j (none_stray l a e j h)

-- the record named is one of the image's
pub named_below : (l a : List ℕ) (j : ℕ) → Whole l → Named l a j → named_at l a j < records_before l tables
named_below l a j w n =
    omega (arith, table_within l w (table_at a j) n.table_right, w.filled, n.index_right)

-- at most 2,045 records
pub tables_far : (l : List ℕ) → general_size ≤ tables_from l
unfolding tables_from
tables_far l = go (is_second l)
  where
    go : (b : Bool) → general_size ≤ cond b (general_size + watts_size) general_size
    go true = omega arith
    go false = omega arith

pub few_records : (l : List ℕ) → Whole l → records_before l tables ≤ 2045
few_records l w = omega (arith, w.filled, w.small, tables_far l)

-- ---- what is found

at_inj : {i j : ℕ} → Some i ≡ Some j → i ≡ j
at_inj e = cc

at_not : {i : ℕ} → None ≡ Some i → ⊥
at_not e = let z : ◌≡◌ {A = ℕ} 0 1 = cc in omega arith

module _ (l a : List ℕ) (day k : ℕ) where
  -- one amendment more
  pub latest_more : (n : ℕ) → latest l a day k (n + 1)
      ≡ cond (eqb (named_at l a n) k && (in_force a day n && as_late a (latest l a day k n) n)) (Some n) (latest l a day k n)
  unfolding latest
  latest_more n = let s : n + 1 ≡ suc n = omega arith in rw s

  pub latest_named : (n : ℕ) → named_at l a n ≡ k
      → latest l a day k (n + 1) ≡ cond (in_force a day n && as_late a (latest l a day k n) n) (Some n) (latest l a day k n)
  latest_named n e = latest_more n ∙ ap (λ (b : Bool). cond (b && (in_force a day n && as_late a (latest l a day k n) n)) (Some n)
      (latest l a day k n)) (eq-eqb _ _ e)

  pub latest_other : (n : ℕ) → (named_at l a n ≡ k → ⊥) → latest l a day k (n + 1) ≡ latest l a day k n
  latest_other n e = latest_more n ∙ ap (λ (b : Bool). cond (b && (in_force a day n && as_late a (latest l a day k n) n)) (Some n)
      (latest l a day k n)) (ne_eqb _ _ e)

-- what is found is one of those asked
pub latest_below : (l a : List ℕ) (day k n j : ℕ) → latest l a day k n ≡ Some j → j < n
unfolding latest
latest_below l a day k zero j e = absurd (at_not e)
latest_below l a day k (suc n) j e =
    go (eqb (named_at l a n) k && (in_force a day n && as_late a (latest l a day k n) n)) (latest_below l a day k n j) e
  where
    go : (b : Bool) → (latest l a day k n ≡ Some j → j < n) → cond b (Some n) (latest l a day k n) ≡ Some j → j < suc n
    go true h q = let i : n ≡ j = at_inj q in omega arith
    go false h q = omega (arith, h q)

-- what was found stands before place n
pub record Earlier (f : Option ℕ) (n : ℕ) : Type 0 where
  pub before : (i : ℕ) → f ≡ Some i → i < n

pub latest_earlier : (l a : List ℕ) (day k n : ℕ) (f : Option ℕ) → f ≡ latest l a day k n → Earlier f n
latest_earlier l a day k n f e = record { before = λ j h. latest_below l a day k n j (sym e ∙ h) }

-- what counts lies within the list
pub counting_within : (l a : List ℕ) (day k : ℕ) (f : Option ℕ) → f ≡ counting l a day k → IfSome f (λ j. 40 * j + 40 ≤ length a)
counting_within l a day k (Some j) e = within_list a j (latest_below l a day k (amendments_in a) j (sym e))
counting_within l a day k None e = tt

-- what is found after amendment j, of what was found before it: where it names the record, and for record k
abbrev pub superseded : List ℕ → ℕ → Option ℕ → ℕ → Option ℕ
superseded a day f j = cond (in_force a day j && as_late a f j) (Some j) f

abbrev pub onward : List ℕ → List ℕ → ℕ → ℕ → Option ℕ → ℕ → Option ℕ
onward l a day k f j = cond (eqb (named_at l a j) k && (in_force a day j && as_late a f j)) (Some j) f

pub superseded_earlier : (a : List ℕ) (day : ℕ) (f g : Option ℕ) (j n : ℕ) → g ≡ superseded a day f j → Earlier f j → j < n → Earlier g n
superseded_earlier a day f g j n s e h = record { before = λ i q. go i (in_force a day j && as_late a f j) (sym s ∙ q) }
  where
    go : (i : ℕ) (b : Bool) → cond b (Some j) f ≡ Some i → i < n
    go i true q = let s : j ≡ i = at_inj q in omega arith
    go i false q = omega (arith, e.before i q)

-- ---- a number for what is found: 0 for nothing, else one more than its place in the list

unfoldable pub found_from : ℕ → Option ℕ
found_from e = cond (eqb e 0) None (Some (e - 1))

pub found_nothing : (e : ℕ) → e ≡ 0 → found_from e ≡ None
unfolding found_from
found_nothing e h = rw (eq-eqb e 0 h)

pub found_entry : (e : ℕ) → (e ≡ 0 → ⊥) → found_from e ≡ Some (e - 1)
unfolding found_from
found_entry e h = rw (ne_eqb e 0 h)

pub found_place : (j : ℕ) → found_from (j + 1) ≡ Some j
found_place j =
    let n : j + 1 ≡ 0 → ⊥ = λ e. omega arith in
    let p : j + 1 - 1 ≡ j = omega arith in
    found_entry (j + 1) n ∙ ap Some p

module _ (a : List ℕ) (day e j : ℕ) where
  pub next_future : day < day_at a j → found_from e ≡ superseded a day (found_from e) j
  next_future h =
      sym (ap (λ (b : Bool). cond (b && as_late a (found_from e) j) (Some j) (found_from e)) (lt-leb (day_at a j) day h))

  in_force_holds : day_at a j ≤ day → superseded a day (found_from e) j ≡ cond (as_late a (found_from e) j) (Some j) (found_from e)
  in_force_holds h = ap (λ (b : Bool). cond (b && as_late a (found_from e) j) (Some j) (found_from e)) (le-leb (day_at a j) day h)

  pub next_first : day_at a j ≤ day → e ≡ 0 → found_from (j + 1) ≡ superseded a day (found_from e) j
  next_first h z = found_place j ∙ sym (in_force_holds h ∙ ap (λ (f : Option ℕ). cond (as_late a f j) (Some j) f) (found_nothing e z))

  module _ (h : day_at a j ≤ day) (n : e ≡ 0 → ⊥) where
    stands : superseded a day (found_from e) j ≡ cond (leb (day_at a (e - 1)) (day_at a j)) (Some j) (Some (e - 1))
    stands = in_force_holds h ∙ ap (λ (f : Option ℕ). cond (as_late a f j) (Some j) f) (found_entry e n)

    pub next_earlier : day_at a j < day_at a (e - 1) → found_from e ≡ superseded a day (found_from e) j
    next_earlier d =
        found_entry e n ∙ sym (stands ∙ ap (λ (b : Bool). cond b (Some j) (Some (e - 1))) (lt-leb (day_at a (e - 1)) (day_at a j) d))

    pub next_later : day_at a (e - 1) ≤ day_at a j → found_from (j + 1) ≡ superseded a day (found_from e) j
    next_later d =
        found_place j ∙ sym (stands ∙ ap (λ (b : Bool). cond b (Some j) (Some (e - 1))) (le-leb (day_at a (e - 1)) (day_at a j) d))

module _ (l a : List ℕ) (day k : ℕ) (f : Option ℕ) (j : ℕ) where
  pub onward_named : named_at l a j ≡ k → superseded a day f j ≡ onward l a day k f j
  onward_named e = sym (ap (λ (b : Bool). cond (b && (in_force a day j && as_late a f j)) (Some j) f) (eq-eqb _ _ e))

  pub onward_other : (named_at l a j ≡ k → ⊥) → f ≡ onward l a day k f j
  onward_other e = sym (ap (λ (b : Bool). cond (b && (in_force a day j && as_late a f j)) (Some j) f) (ne_eqb _ _ e))

-- ---- a pass over the list

pub record Indexed (l a : List ℕ) (day : ℕ) (index : List ℕ) (n : ℕ) : Type 0 where
  pub full : length index ≡ 2045
  pub held : (k : ℕ) → k < 2045 → found_from (get_or index k 0) ≡ latest l a day k n

pub get_d_zeros : (n k : ℕ) → ◌≡◌ {A = ℕ} (get_or (replicate n 0) k 0) 0
get_d_zeros zero k = refl
get_d_zeros (suc n) zero = refl
get_d_zeros (suc n) (suc k) = get_d_zeros n k

pub indexed_none : (l a : List ℕ) (day : ℕ) (index : List ℕ) → length index ≡ 2045 → ((k : ℕ) → get_or index k 0 ≡ 0) → Indexed l a day index 0
unfolding latest found_from
indexed_none l a day index e z = record { full = e; held = λ k h. ap found_from (z k) }

pub indexed_earlier :
    (l a : List ℕ) (day : ℕ) (index : List ℕ) (n k : ℕ) (f : Option ℕ) → Indexed l a day index n → k < 2045
    → f ≡ found_from (get_or index k 0) → Earlier f n
indexed_earlier l a day index n k f x h e = latest_earlier l a day k n f (e ∙ x.held k h)

-- an amendment more, which names record s: f was found for it, and g is found now
pub indexed_step :
    (l a : List ℕ) (day : ℕ) (index : List ℕ) (n s r : ℕ) (f g : Option ℕ) → Indexed l a day index n → s ≡ named_at l a n → s < 2045
    → f ≡ found_from (get_or index s 0) → g ≡ superseded a day f n → found_from r ≡ g → Indexed l a day (set index s r) (n + 1)
indexed_step l a day index n s r f g x e h i c d =
    record { full = length-set index s r ∙ x.full; held = λ k b. go k b (eqb k s) refl }
  where
    go : (k : ℕ) → k < 2045 → (t : Bool) → eqb k s ≡ t → found_from (get_or (set index s r) k 0) ≡ latest l a day k (n + 1)
    go k b true t =
        rw (eqb-true k s t)
        (ap found_from (get_or-set_same index s r 0 (omega (arith, x.full)))
        ∙ d ∙ c
        ∙ ap (λ (f : Option ℕ). superseded a day f n) (i ∙ x.held s h)
        ∙ sym (latest_named l a day s n (sym e)))
    go k b false t =
        ap found_from (get_or-set_other index s k r 0 (eqb-false k s t))
        ∙ x.held k b
        ∙ sym (latest_other l a day k n (λ (q : named_at l a n ≡ k). eqb-false k s t (sym (e ∙ q))))

-- what a pass has left: an image that is whole, a list that is right, and the index, if its numbers are large enough
pub record Ready (l a : List ℕ) (day : ℕ) (index : List ℕ) : Type 0 where
  pub whole : Whole l
  pub right : list_wrong l a ≡ false
  pub full : length index ≡ 2045
  pub indexed : amendments_in a ≤ 4294967295 → Indexed l a day index (amendments_in a)
