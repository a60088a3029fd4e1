-- The counts, code by code: one dial more adds one to its code's.
use Rattle.std.specs.Prelude.{◌≡◌, ℕ, zero, suc, ◌+◌, ◌-◌, ◌<◌, ◌≤◌, ◌≢◌, Bool, true, false, cond, List, length, set, replicate, ◌==◌, slice_index, slice_set}
use Rattle.std.proofs.Math.Path.{refl}
use Rattle.std.proofs.Common.{sym, ap, ◌∙◌, eq-eqb, ne_eqb, length-set, ext_get_or, get_or-set_same, get_or-set_other}
use Rattle.std.proofs.lemmas.List.{get_or-replicate}
use Rattle.std.proofs.Math.Decide.{ℕ_discrete}
use native.Mathlib.Omega.{arith}
use Rattle.census.specs.Census.{many, listed, counts_of}

-- the number of a code
pub record Numbered (n : ℕ) : Type 0 where
  pub above : 0 < n
  pub within : n ≤ 25

pub length_listed : (n c : ℕ) (f : ℕ → ℕ) → length (listed n c f) ≡ n
unfolding listed
length_listed zero c f = refl
length_listed (suc n) c f = ap suc (length_listed n (suc c) f)

pub get_d_listed : (n c : ℕ) (f : ℕ → ℕ) (i : ℕ) → i < n → slice_index (listed n c f) i ≡ f (c + i)
unfolding listed
get_d_listed zero c f i h = absurd (omega arith)
get_d_listed (suc n) c f zero h = ap f (omega arith)
get_d_listed (suc n) c f (suc i) h = get_d_listed n (suc c) f i (omega arith) ∙ ap f (omega arith)

module _ (code : ℕ → ℕ) where
  pub count_at : (n i : ℕ) → i < 25 → slice_index (counts_of code n) i ≡ many code (1 + i) n
  unfolding counts_of
  count_at n i h = get_d_listed 25 1 (λ (c : ℕ). many code c n) i h

  pub count_length : (n : ℕ) → length (counts_of code n) ≡ 25
  unfolding counts_of
  count_length n = length_listed 25 1 (λ (c : ℕ). many code c n)

  pub count_none : replicate 25 0 ≡ counts_of code 0
  unfolding counts_of listed many
  count_none = refl

  more : (c n : ℕ) → many code c (suc n) ≡ many code c n + cond (code n == c) 1 0
  unfolding many
  more c n = refl

  -- no more than there are
  pub many_few : (c n : ℕ) → many code c n ≤ n
  unfolding many
  many_few c zero = omega arith
  many_few c (suc n) = go (code n == c) (many_few c n)
    where
      go : (t : Bool) → many code c n ≤ n → many code c n + cond t 1 0 ≤ suc n
      go true h = omega arith
      go false h = omega arith

  -- one dial more
  pub count_step : (n : ℕ) → 0 < code n → code n ≤ 25
      → slice_set (counts_of code n) (code n - 1) (slice_index (counts_of code n) (code n - 1) + 1) ≡ counts_of code (suc n)
  count_step n a b =
      let at = code n - 1 in
      let l = counts_of code n in
      let x = slice_index l at + 1 in
      let s : length (slice_set l at x) ≡ 25 = length-set l at x ∙ count_length n in
      ext_get_or 0 (slice_set l at x) (counts_of code (suc n)) (s ∙ sym (count_length (suc n))) (λ i h. each i (omega (arith, s, h)) (ℕ_discrete i at))
    where
      each : (i : ℕ) → i < 25 → Dec (i ≡ code n - 1)
          → slice_index (slice_set (counts_of code n) (code n - 1) (slice_index (counts_of code n) (code n - 1) + 1)) i ≡ slice_index (counts_of code (suc n)) i
      each i h (yes e) =
          let at = code n - 1 in
          let l = counts_of code n in
          let x = slice_index l at + 1 in
          let q : code n ≡ 1 + i = omega arith in
          let m : 1 + at ≡ 1 + i = omega arith in
          ap (λ (j : ℕ). slice_index (slice_set l at x) j) e
          ∙ get_or-set_same l at x 0 (omega (arith, count_length n))
          ∙ ap (λ (y : ℕ). y + 1) (count_at n at (omega arith) ∙ ap (λ (j : ℕ). many code j n) m)
          ∙ sym (count_at (suc n) i h ∙ more (1 + i) n ∙ ap (λ (t : Bool). many code (1 + i) n + cond t 1 0) (eq-eqb (code n) (1 + i) q))
      each i h (no e) =
          get_or-set_other (counts_of code n) (code n - 1) i (slice_index (counts_of code n) (code n - 1) + 1) 0 e
          ∙ count_at n i h
          ∙ sym
          (count_at (suc n) i h ∙ more (1 + i) n
          ∙ ap (λ (t : Bool). many code (1 + i) n + cond t 1 0) (ne_eqb (code n) (1 + i) (λ q. e (omega arith)))
          ∙ omega arith)

  -- the same of what a loop holds
  module _ (n : ℕ) (l : List ℕ) (held : l ≡ counts_of code n) where
    pub held_few : (at : ℕ) → at < 25 → slice_index l at ≤ n
    held_few at h = omega (arith, ap (λ (m : List ℕ). slice_index m at) held ∙ count_at n at h, many_few (1 + at) n)

    pub held_next : (c at : ℕ) → c ≡ code n → at ≡ c - 1 → Numbered (code n) → slice_set l at (slice_index l at + 1) ≡ counts_of code (n + 1)
    held_next c at e f m =
        let s : suc n ≡ n + 1 = omega arith in
        ap (λ (i : ℕ). set l i (slice_index l i + 1)) (f ∙ ap (λ (x : ℕ). x - 1) e)
        ∙ ap (λ (k : List ℕ). set k (code n - 1) (slice_index k (code n - 1) + 1)) held
        ∙ count_step n m.above m.within
        ∙ ap (counts_of code) s

  -- where each has one code: noughts but in its place
  module _ (c : ℕ) (same : (k : ℕ) → code k ≡ c) where
    many_same : (n : ℕ) → many code c n ≡ n
    unfolding many
    many_same zero = refl
    many_same (suc n) = ap (λ (t : Bool). many code c n + cond t 1 0) (eq-eqb (code n) c (same n)) ∙ omega (arith, many_same n)

    many_other : (d : ℕ) → d ≢ c → (n : ℕ) → many code d n ≡ 0
    unfolding many
    many_other d e zero = refl
    many_other d e (suc n) =
        ap (λ (t : Bool). many code d n + cond t 1 0) (ne_eqb (code n) d (λ q. e (sym q ∙ same n))) ∙ omega (arith, many_other d e n)

    pub count_same : Numbered c → (at n : ℕ) → at ≡ c - 1 → slice_set (replicate 25 0) at n ≡ counts_of code n
    count_same m at n p =
        let s : length (slice_set (replicate 25 0) at n) ≡ 25 = length-set (replicate 25 0) at n in
        ext_get_or 0 (slice_set (replicate 25 0) at n) (counts_of code n) (s ∙ sym (count_length n)) (λ i h. each i (omega (arith, s, h)) (ℕ_discrete i at))
      where
        each : (i : ℕ) → i < 25 → Dec (i ≡ at) → slice_index (slice_set (replicate 25 0) at n) i ≡ slice_index (counts_of code n) i
        each i h (yes e) =
            let q : 1 + i ≡ c = omega (arith, m.above) in
            ap (λ (j : ℕ). slice_index (slice_set (replicate 25 0) at n) j) e
            ∙ get_or-set_same (replicate 25 0) at n 0 (omega arith)
            ∙ sym (count_at n i h ∙ ap (λ (j : ℕ). many code j n) q ∙ many_same n)
        each i h (no e) =
            get_or-set_other (replicate 25 0) at i n 0 e
            ∙ get_or-replicate 25 i 0 0 h
            ∙ sym (count_at n i h ∙ many_other (1 + i) (λ q. e (omega (arith, m.above))) n)

-- and so the counts of that code itself
pub counts_one : (code : ℕ → ℕ) (c : ℕ) → ((k : ℕ) → code k ≡ c) → Numbered c → (n : ℕ) → counts_of (λ k. c) n ≡ counts_of code n
counts_one code c same m n = sym (count_same (λ k. c) c (λ k. refl) m (c - 1) n refl) ∙ count_same code c same m (c - 1) n refl
