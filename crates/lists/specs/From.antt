-- The same from an index on, as a search meets it that gives one member at a time and goes on behind it.
use Rattle.std.specs.Prelude.{ℕ, zero, suc, ◌+◌, ◌-◌, ◌<◌, ◌≤◌, cond, List, [], ◌∷◌, ◌++◌, ◌≡◌, refl, ltb}
use Rattle.std.proofs.Common.{append_assoc, append-nil, sym, ap, ◌∙◌, arith, zero-add, lt-ltb, le-ltb}
use Rattle.std.proofs.Math.Decide.{dec_le}
use Rattle.lists.specs.Each.{each}

-- what the k indices from i on give
unfoldable pub stretch : {A : Type 0} → ℕ → ℕ → (ℕ → List A) → List A
stretch zero i f = []
stretch (suc k) i f = f i ++ stretch k (suc i) f

-- what the indices from i to below n give
abbrev pub from : {A : Type 0} → ℕ → (ℕ → List A) → ℕ → List A
from n f i = stretch (n - i) i f

each_stretch : {A : Type 0} (k i : ℕ) (f : ℕ → List A) → each (k + i) f ≡ each i f ++ stretch k i f
unfolding stretch each
each_stretch zero i f = ap (λ (n : ℕ). each n f) (zero-add i) ∙ sym (append-nil (each i f))
each_stretch (suc k) i f =
    let e : suc k + i ≡ k + suc i = omega arith in
    ap (λ (n : ℕ). each n f) e ∙ each_stretch k (suc i) f ∙ append_assoc (each i f) (f i) (stretch k (suc i) f)

-- What is gathered below n is what is gathered below i, and what the indices from i on give.
pub from_each : {A : Type 0} (n i : ℕ) (f : ℕ → List A) → i ≤ n → each n f ≡ each i f ++ from n f i
from_each n i f h =
    let e : n ≡ n - i + i = omega arith in
    ap (λ (m : ℕ). each m f) e ∙ each_stretch (n - i) i f

pub from_all : {A : Type 0} (n : ℕ) (f : ℕ → List A) → from n f 0 ≡ each n f
unfolding each
from_all n f = sym (from_each n 0 f (omega arith))

pub from_step : {A : Type 0} (n i : ℕ) (f : ℕ → List A) → i < n → from n f i ≡ f i ++ from n f (i + 1)
unfolding stretch
from_step n i f h =
    let e : n - i ≡ suc (n - (i + 1)) = omega arith in
    let s : i + 1 ≡ suc i = omega arith in
    ap (λ (k : ℕ). stretch k i f) e ∙ ap (λ (j : ℕ). f i ++ stretch (n - (i + 1)) j f) (sym s)

-- an index that gives nothing
pub from_skip : {A : Type 0} (n i : ℕ) (f : ℕ → List A) → i < n → f i ≡ [] → from n f i ≡ from n f (i + 1)
from_skip n i f h e = from_step n i f h ∙ ap (λ (xs : List _). xs ++ from n f (i + 1)) e

-- an index that gives one member
pub from_row : {A : Type 0} (n i : ℕ) (f : ℕ → List A) (x : A) → i < n → f i ≡ x ∷ [] → from n f i ≡ x ∷ from n f (i + 1)
from_row n i f x h e = from_step n i f h ∙ ap (λ (xs : List _). xs ++ from n f (i + 1)) e

pub from_end : {A : Type 0} (n i : ℕ) (f : ℕ → List A) → n ≤ i → from n f i ≡ []
unfolding stretch
from_end n i f h = let e : n - i ≡ 0 = omega arith in ap (λ (k : ℕ). stretch k i f) e

stretch_bare : {A : Type 0} (k i : ℕ) (f : ℕ → List A) → ((j : ℕ) → i ≤ j → j < k + i → f j ≡ []) → stretch k i f ≡ []
unfolding stretch
stretch_bare zero i f h = refl
stretch_bare (suc k) i f h =
    ap (λ (xs : List _). xs ++ stretch k (suc i) f) (h i (omega arith) (omega arith))
    ∙ stretch_bare k (suc i) f (λ j a b. h j (omega arith) (omega arith))

-- from an index on, nothing
pub from_bare : {A : Type 0} (n i : ℕ) (f : ℕ → List A) → ((j : ℕ) → i ≤ j → j < n → f j ≡ []) → from n f i ≡ []
from_bare n i f h = stretch_bare (n - i) i f (λ j a b. h j a (omega arith))

-- ---- a search that stands at a place k inside what an index gives

-- what index i gives from k on, and what the indices after it give
unfoldable pub resume : {A K : Type 0} → ℕ → (ℕ → List A) → (ℕ → K → List A) → ℕ → K → List A
resume n f g i k = cond (ltb i n) (g i k ++ from n f (i + 1)) []

module _ {A K : Type 0} (n : ℕ) (f : ℕ → List A) (g : ℕ → K → List A) where
  resume_in : (i : ℕ) (k : K) → i < n → resume n f g i k ≡ g i k ++ from n f (i + 1)
  unfolding resume
  resume_in i k h = rw (lt-ltb i n h)

  pub resume_end : (i : ℕ) (k : K) → n ≤ i → resume n f g i k ≡ []
  unfolding resume
  resume_end i k h = rw (le-ltb i n h)

  pub resume_row : (i : ℕ) (k k' : K) (x : A) → i < n → g i k ≡ x ∷ g i k' → resume n f g i k ≡ x ∷ resume n f g i k'
  resume_row i k k' x h e =
      resume_in i k h ∙ ap (λ (xs : List A). xs ++ from n f (i + 1)) e ∙ ap (λ (xs : List A). x ∷ xs) (sym (resume_in i k' h))

  -- with nothing from an index on
  pub resume_bare :
      (i : ℕ) (k : K) → (i < n → g i k ≡ []) → ((j : ℕ) → i ≤ j → j < n → f j ≡ []) → resume n f g i k ≡ []
  resume_bare i k e h = go (dec_le (suc i) n)
    where
      go : Dec (suc i ≤ n) → resume n f g i k ≡ []
      go (yes b) =
          resume_in i k b ∙ ap (λ (xs : List A). xs ++ from n f (i + 1)) (e b) ∙ from_bare n (i + 1) f (λ j a c. h j (omega arith) c)
      go (no b) = resume_end i k (omega arith)

  -- where the place z is before all that an index gives
  module _ (z : K) (same : (i : ℕ) → i < n → g i z ≡ f i) where
    pub resume_from : (i : ℕ) → resume n f g i z ≡ from n f i
    resume_from i = go (dec_le (suc i) n)
      where
        go : Dec (suc i ≤ n) → resume n f g i z ≡ from n f i
        go (yes b) = resume_in i z b ∙ ap (λ (xs : List A). xs ++ from n f (i + 1)) (same i b) ∙ sym (from_step n i f b)
        go (no b) = resume_end i z (omega arith) ∙ sym (from_end n i f (omega arith))

    pub resume_over : (i : ℕ) (k : K) → i < n → g i k ≡ [] → resume n f g i k ≡ resume n f g (i + 1) z
    resume_over i k h e =
        resume_in i k h ∙ ap (λ (xs : List A). xs ++ from n f (i + 1)) e ∙ sym (resume_from (i + 1))
