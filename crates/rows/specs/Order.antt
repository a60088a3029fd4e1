-- What sorting and gathering keep: which rows there are. A question of a row has the same answer over the sorted list as over the rows as
-- they came, and over rows gathered index by index it is asked of each index.
use Rattle.std.specs.Prelude.{ℕ, zero, suc, ◌+◌, ◌<◌, ◌≤◌, Bool, true, false, cond, ◌||◌, List, [], ◌∷◌, ◌++◌, ◌≡◌, refl, length}
use Rattle.std.proofs.Math.Bool.{or_assoc, or-false}
use Rattle.std.proofs.lemmas.Bool.{false≢true}
use Rattle.std.proofs.Common.{sym, ap, subst, ◌∙◌, arith}
use Rattle.std.proofs.Math.Decide.{dec_le}
use Rattle.figures.specs.Figure.{total_less}
use Rattle.lists.specs.Each.{each}
use Rattle.lists.specs.Laws.{Every}
use Rattle.rows.specs.Rows.{insert_row, insert_all, sorted}
use Rattle.rows.specs.Back.{every_insert, length_insert}
use Rattle.rows.specs.declared.SafeDial.{SafeDial}

-- whether a row of the list passes
abbrev pub any_row : (SafeDial → Bool) → List SafeDial → Bool
any_row test [] = false
any_row test (x ∷ xs) = test x || any_row test xs

or_swap : (a b c : Bool) → (a || (b || c)) ≡ (b || (a || c))
or_swap true true c = refl
or_swap true false c = refl
or_swap false b c = refl

pub any_append : (test : SafeDial → Bool) (xs ys : List SafeDial) → any_row test (xs ++ ys) ≡ (any_row test xs || any_row test ys)
any_append test [] ys = refl
any_append test (x ∷ xs) ys = rw (any_append test xs ys) (sym (or_assoc (test x) (any_row test xs) (any_row test ys)))

any_insert : (test : SafeDial → Bool) (x : SafeDial) (held : List SafeDial) → any_row test (insert_row x held) ≡ (test x || any_row test held)
unfolding insert_row
any_insert test x [] = refl
any_insert test x (y ∷ ys) = go (total_less x.dial_low_hz y.dial_low_hz) (any_insert test x ys)
  where
    go :
        (b : Bool) → any_row test (insert_row x ys) ≡ (test x || any_row test ys)
        → any_row test (cond b (x ∷ (y ∷ ys)) (y ∷ insert_row x ys)) ≡ (test x || (test y || any_row test ys))
    go true e = refl
    go false e = rw e (or_swap (test y) (test x) (any_row test ys))

any_insert_all :
    (test : SafeDial → Bool) (xs held : List SafeDial) → any_row test (insert_all held xs) ≡ (any_row test xs || any_row test held)
unfolding insert_all
any_insert_all test [] held = refl
any_insert_all test (x ∷ xs) held =
    any_insert_all test xs (insert_row x held)
    ∙ ap (λ (b : Bool). any_row test xs || b) (any_insert test x held)
    ∙ or_swap (any_row test xs) (test x) (any_row test held)
    ∙ sym (or_assoc (test x) (any_row test xs) (any_row test held))

-- Sorting keeps which rows there are.
pub any_sorted : (test : SafeDial → Bool) (xs : List SafeDial) → any_row test (sorted xs) ≡ any_row test xs
any_sorted test xs = any_insert_all test xs [] ∙ or-false (any_row test xs)

length_insert_all : (xs held : List SafeDial) → length (insert_all held xs) ≡ length held + length xs
unfolding insert_all
length_insert_all [] held = omega arith
length_insert_all (x ∷ xs) held =
    let e : length (insert_row x held) ≡ suc (length held) = length_insert x held in
    length_insert_all xs (insert_row x held) ∙ omega arith

-- and how many.
pub length_sorted : (xs : List SafeDial) → length (sorted xs) ≡ length xs
length_sorted xs = length_insert_all xs [] ∙ omega arith

every_insert_all : (P : SafeDial → Type 0) (xs held : List SafeDial) → Every P xs → Every P held → Every P (insert_all held xs)
unfolding insert_all
every_insert_all P [] held p q = q
every_insert_all P (x ∷ xs) held p q = every_insert_all P xs (insert_row x held) p.1 (every_insert P x held p.0 q)

-- What holds of every row holds of every row of the sorted list.
pub every_sorted : (P : SafeDial → Type 0) (xs : List SafeDial) → Every P xs → Every P (sorted xs)
every_sorted P xs p = every_insert_all P xs [] p tt

-- ---- rows gathered index by index

pub or_right : (a b : Bool) → b ≡ true → (a || b) ≡ true
or_right true b e = refl
or_right false b e = e

pub or_left : (a b : Bool) → a ≡ true → (a || b) ≡ true
or_left a b e = rw e

-- A row of one index is a row of the whole.
pub any_each_in :
    (test : SafeDial → Bool) (n : ℕ) (f : ℕ → List SafeDial) (i : ℕ) → i < n → any_row test (f i) ≡ true → any_row test (each n f) ≡ true
unfolding each
any_each_in test zero f i h e = absurd (omega arith)
any_each_in test (suc n) f i h e = any_append test (each n f) (f n) ∙ go (dec_le (suc i) n) (λ k. any_each_in test n f i k e)
  where
    go : Dec (suc i ≤ n) → (i < n → any_row test (each n f) ≡ true) → (any_row test (each n f) || any_row test (f n)) ≡ true
    go (yes k) before = or_left (any_row test (each n f)) (any_row test (f n)) (before k)
    go (no k) before =
        let q : i ≡ n = omega arith in
        or_right (any_row test (each n f)) (any_row test (f n)) (subst (λ (j : ℕ). any_row test (f j) ≡ true) q e)

-- an index, below n, with a row that passes
pub record Index (test : SafeDial → Bool) (n : ℕ) (f : ℕ → List SafeDial) : Type 0 where
  pub index : ℕ
  pub below : index < n
  pub passes : any_row test (f index) ≡ true

-- A row of the whole is a row of one index.
pub any_each_of : (test : SafeDial → Bool) (n : ℕ) (f : ℕ → List SafeDial) → any_row test (each n f) ≡ true → Index test n f
unfolding each
any_each_of test zero f e = absurd (false≢true e)
any_each_of test (suc n) f e = go (any_row test (each n f)) refl (any_each_of test n f) (sym (any_append test (each n f) (f n)) ∙ e)
  where
    go :
        (b : Bool) → any_row test (each n f) ≡ b → (any_row test (each n f) ≡ true → Index test n f) → (b || any_row test (f n)) ≡ true
        → Index test (suc n) f
    go true p next q =
        let r = next p in
        record { index = r.index; below = omega (arith, r.below); passes = r.passes }
    go false p next q = record { index = n; below = omega arith; passes = q }
