-- What the loops over bytes know at each turn.
use Prim.Native.Nat.{ℕ, zero, suc, ◌+◌, ◌*◌, ◌-◌, ◌<◌, ◌≤◌}
use Rattle.std.specs.Prelude.{Bool, true, false, cond, List, ◌∷◌, ◌++◌, ◌≡◌, refl, length, take, drop, set, Float}
use Rattle.std.proofs.Common.{sym, ap, ◌∙◌, length-append}
use native.Mathlib.Omega.{arith}
use Rattle.std.proofs.lemmas.List.Edits.{sets}
use Rattle.std.specs.Float.Ieee.{lt}
use Rattle.figures.specs.Figure.{total_less}
use Rattle.byte_writes.specs.Bytes.{figure_bytes, little}
use Rattle.byte_writes.specs.Laws.{length_little, sets_next}
use Rattle.rows.specs.Rows.{row_size, figures_of, encode_row, low_at}
use Rattle.order.specs.Total.{above_not_less}
use Rattle.rows.specs.declared.SafeDial.{SafeDial}
use Rattle.rows.specs.Held.{follows_at, place_at, insert_from, insert_at}

-- ---- the place of a row

-- the row below k, asked
pub place_below :
    (key : Float) (k : ℕ) (l : List ℕ) → 0 < k
    → place_at key k l ≡ cond (total_less key (low_at l ((k - 1) * row_size))) (place_at key (k - 1) l) k
unfolding place_at
place_below key zero l h = absurd (omega arith)
place_below key (suc k) l h = let e : suc k - 1 ≡ k = omega arith in rw e

pub place_none : (key : Float) (k : ℕ) (l : List ℕ) → k ≤ 0 → place_at key k l ≡ 0
unfolding place_at
place_none key zero l h = refl
place_none key (suc k) l h = absurd (omega arith)

pub follows_none : (key : Float) (n : ℕ) (l : List ℕ) → n ≤ 0 → true ≡ follows_at key n l
unfolding follows_at
follows_none key n l h = let e : n ≡ 0 = omega arith in rw e

pub follows_last : (key : Float) (n : ℕ) (l : List ℕ) → 0 < n → lt (low_at l ((n - 1) * row_size)) key ≡ follows_at key n l
unfolding follows_at
follows_last key zero l h = absurd (omega arith)
follows_last key (suc n) l h = let e : suc n - 1 ≡ n = omega arith in rw e

place_behind : (key : Float) (n : ℕ) (l : List ℕ) → follows_at key n l ≡ true → place_at key n l ≡ n
unfolding follows_at place_at
place_behind key zero l e = refl
place_behind key (suc n) l e = ap (λ (b : Bool). cond b (place_at key n l) (suc n)) (above_not_less key (low_at l (n * row_size)) e)

-- A row whose lower dial comes behind all others is put behind them.
pub insert_behind :
    (x : SafeDial) (n : ℕ) (l : List ℕ) → follows_at x.dial_low_hz n l ≡ true → sets l (n * row_size) (encode_row x) ≡ insert_at x n l
unfolding insert_at insert_from
insert_behind x n l e =
    let z : n * row_size - n * row_size ≡ 0 = omega arith in
    sym
    (ap (λ (p : ℕ). insert_from x (p * row_size) (n * row_size) l) (place_behind x.dial_low_hz n l e)
    ∙ ap (λ (k : ℕ). sets (sets l (n * row_size + row_size) (take k (drop (n * row_size) l))) (n * row_size) (encode_row x)) z)

pub place_le : (key : Float) (n : ℕ) (l : List ℕ) → place_at key n l ≤ n
unfolding place_at
place_le key zero l = omega arith
place_le key (suc n) l = go (total_less key (low_at l (n * row_size))) (place_le key n l)
  where
    go : (b : Bool) → place_at key n l ≤ n → cond b (place_at key n l) (suc n) ≤ suc n
    go true h = omega arith
    go false h = omega arith

-- ---- field after field

sets_four :
    (a b c d l : List ℕ) (at : ℕ) → length a ≡ 8 → length b ≡ 8 → length c ≡ 8
    → sets (sets (sets (sets l at a) (at + 8) b) (at + 16) c) (at + 24) d ≡ sets l at (a ++ (b ++ (c ++ d)))
sets_four a b c d l at ha hb hc =
    let k : at + 8 + length b ≡ at + 16 = omega arith in
    let m : at + 16 + length c ≡ at + 24 = omega arith in
    sets_next c d (sets (sets l at a) (at + 8) b) (at + 16) (at + 24) m
    ∙ sets_next b (c ++ d) (sets l at a) (at + 8) (at + 16) k
    ∙ sets_next a (b ++ (c ++ d)) l at (at + 8) (omega arith)

sets_tail :
    (f r l : List ℕ) (at b : ℕ) → length f ≡ 32
    → sets (set (set (sets l at f) (at + 32) b) (at + 33) 0) (at + 34) r ≡ sets l at (f ++ (b ∷ 0 ∷ r))
sets_tail f r l at b h =
    let k : at + 33 ≡ suc (at + 32) = omega arith in
    let m : at + 34 ≡ suc (suc (at + 32)) = omega arith in
    let e : sets (sets l at f) (at + 32) (b ∷ 0 ∷ r) ≡ sets l at (f ++ (b ∷ 0 ∷ r)) = sets_next f (b ∷ 0 ∷ r) l at (at + 32) (omega arith) in
    rw k (rw m e)

pub length_figures : (x : SafeDial) → length (figures_of x) ≡ 32
unfolding figures_of
length_figures x = simp (length-append, length_little)

pub length_row : (x : SafeDial) → length (encode_row x) ≡ row_size
unfolding encode_row
length_row x = simp (length-append, length_figures, length_little)

-- the four figures of a row, one after the other
pub figures_set :
    (x : SafeDial) (l : List ℕ) (at : ℕ)
    → sets (sets (sets (sets l at (figure_bytes x.segment.low_hz)) (at + 8) (figure_bytes x.segment.high_hz)) (at + 16)
    (figure_bytes x.dial_low_hz)) (at + 24) (figure_bytes x.dial_high_hz)
    ≡ sets l at (figures_of x)
unfolding figures_of
figures_set x l at =
    sets_four (figure_bytes x.segment.low_hz) (figure_bytes x.segment.high_hz) (figure_bytes x.dial_low_hz)
    (figure_bytes x.dial_high_hz) l at (length_little 8 _) (length_little 8 _) (length_little 8 _)

-- and what follows them
pub row_set :
    (x : SafeDial) (l : List ℕ) (at : ℕ)
    → sets (set (set (sets l at (figures_of x)) (at + 32) x.band) (at + 33) 0) (at + 34) (little 2 x.rule) ≡ sets l at (encode_row x)
unfolding encode_row
row_set x l at = sets_tail (figures_of x) (little 2 x.rule) l at x.band (length_figures x)
