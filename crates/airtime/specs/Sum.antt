-- Laws of sums by index.
use Rattle.std.specs.Prelude.{ℕ, zero, suc, ◌+◌, ◌*◌, ◌<◌, ◌≤◌, Bool, true, false, cond, ◌≡◌, refl}
use Rattle.std.proofs.Common.{ap, ◌∙◌, suc-mul, arith}
use Rattle.std.proofs.Math.Decide.{dec_le}
use Rattle.airtime.specs.Airtime.{sum}

-- one index more
sum_suc : (n : ℕ) (f : ℕ → ℕ) → sum (suc n) f ≡ sum n f + f n
unfolding sum
sum_suc n f = refl

pub sum_none : (f : ℕ → ℕ) → sum 0 f ≡ 0
unfolding sum
sum_none f = refl

pub sum_next : (n : ℕ) (f : ℕ → ℕ) → sum (n + 1) f ≡ sum n f + f n
sum_next n f = let e : n + 1 ≡ suc n = omega arith in ap (λ (k : ℕ). sum k f) e ∙ sum_suc n f

-- more indices give no less
pub sum_grows : (m n : ℕ) (f : ℕ → ℕ) → m ≤ n → sum m f ≤ sum n f
sum_grows m zero f h = let e : m ≡ 0 = omega arith in rw e (omega arith)
sum_grows m (suc n) f h = go (dec_le m n) (sum_grows m n f)
  where
    go : Dec (m ≤ n) → (m ≤ n → sum m f ≤ sum n f) → sum m f ≤ sum (suc n) f
    go (yes k) r = omega (arith, r k, sum_suc n f)
    go (no k) r = let e : m ≡ suc n = omega arith in rw e (omega arith)

-- at most k each: at most n * k together
pub sum_few : (n k : ℕ) (f : ℕ → ℕ) → ((j : ℕ) → f j ≤ k) → sum n f ≤ n * k
sum_few zero k f h = omega (arith, sum_none f)
sum_few (suc n) k f h =
    let e : suc n * k ≡ n * k + k = suc-mul n k in
    omega (arith, sum_few n k f h, h n, e, sum_suc n f)

-- indices that do not count
sum_bare : (n : ℕ) (counts : ℕ → Bool) (f : ℕ → ℕ) → ((j : ℕ) → j < n → counts j ≡ false) → sum n (λ (j : ℕ). cond (counts j) (f j) 0) ≡ 0
sum_bare zero counts f h = sum_none _
sum_bare (suc n) counts f h =
    sum_suc n (λ (j : ℕ). cond (counts j) (f j) 0)
    ∙ ap (λ (k : ℕ). k + cond (counts n) (f n) 0) (sum_bare n counts f (λ j k. h j (omega arith)))
    ∙ ap (λ (b : Bool). 0 + cond b (f n) 0) (h n (omega arith))

-- Where the indices from a tail on count, and those before it do not, the sum of those that count and the sum below the tail are the sum of all.
pub sum_from : (tail n : ℕ) (counts : ℕ → Bool) (f : ℕ → ℕ)
    → tail ≤ n → ((j : ℕ) → j < tail → counts j ≡ false) → ((j : ℕ) → tail ≤ j → j < n → counts j ≡ true)
    → sum n (λ (j : ℕ). cond (counts j) (f j) 0) + sum tail f ≡ sum n f
sum_from tail zero counts f h a b =
    let e : tail ≡ 0 = omega arith in
    rw e (omega (arith, sum_none f, sum_none (λ (j : ℕ). cond (counts j) (f j) 0)))
sum_from tail (suc n) counts f h a b = go (dec_le tail n) (λ k. sum_from tail n counts f k a (λ j p q. b j p (omega arith)))
  where
    go :
        Dec (tail ≤ n) → (tail ≤ n → sum n (λ (j : ℕ). cond (counts j) (f j) 0) + sum tail f ≡ sum n f)
        → sum (suc n) (λ (j : ℕ). cond (counts j) (f j) 0) + sum tail f ≡ sum (suc n) f
    go (yes k) r =
        let c : cond (counts n) (f n) 0 ≡ f n = ap (λ (t : Bool). cond t (f n) 0) (b n k (omega arith)) in
        omega (arith, r k, c, sum_suc n f, sum_suc n (λ (j : ℕ). cond (counts j) (f j) 0))
    go (no k) r =
        let e : tail ≡ suc n = omega arith in
        let c = sum_bare (suc n) counts f (λ j p. a j (omega arith)) in
        rw e (omega (arith, c))
