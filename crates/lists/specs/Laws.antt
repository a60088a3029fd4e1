-- Laws of what is gathered index by index.
use Rattle.std.specs.Prelude.{ℕ, zero, suc, ◌+◌, ◌*◌, ◌<◌, ◌≤◌, List, [], ◌∷◌, ◌++◌, ◌≡◌, refl, length}
use Rattle.std.proofs.Common.{ap, ◌∙◌, suc-mul, arith, length-append}
use Rattle.lists.specs.Each.{each}

-- something holds of every member
abbrev pub Every : {A : Type 0} → (A → Type 0) → List A → Type 0
Every P [] = Unit
Every P (x ∷ xs) = P x × Every P xs

-- ---- laws

-- Indices that give nothing.
pub each_bare : {A : Type 0} (n : ℕ) (f : ℕ → List A) → ((i : ℕ) → i < n → f i ≡ []) → each n f ≡ []
unfolding each
each_bare zero f h = refl
each_bare (suc n) f h =
    ap (λ (xs : List _). xs ++ f n) (each_bare n f (λ i a. h i (omega arith))) ∙ h n (omega arith)

-- At most k each: at most n * k together.
pub each_few : {A : Type 0} (n k : ℕ) (f : ℕ → List A) → ((i : ℕ) → length (f i) ≤ k) → length (each n f) ≤ n * k
unfolding each
each_few zero k f h = omega arith
each_few (suc n) k f h =
    let a : length (each n f) ≤ n * k = each_few n k f h in
    let b : length (f n) ≤ k = h n in
    let e : suc n * k ≡ n * k + k = suc-mul n k in
    let s : length (each n f ++ f n) ≡ length (each n f) + length (f n) = length-append (each n f) (f n) in
    omega arith

pub every_append : {A : Type 0} (P : A → Type 0) (xs ys : List A) → Every P xs → Every P ys → Every P (xs ++ ys)
every_append P [] ys p q = q
every_append P (x ∷ xs) ys p q = (p.0, every_append P xs ys p.1 q)

pub every_each : {A : Type 0} (P : A → Type 0) (n : ℕ) (f : ℕ → List A) → ((i : ℕ) → Every P (f i)) → Every P (each n f)
unfolding each
every_each P zero f h = tt
every_each P (suc n) f h = every_append P (each n f) (f n) (every_each P n f h) (h n)

pub every_map : {A : Type 0} (P Q : A → Type 0) → ((x : A) → P x → Q x) → (xs : List A) → Every P xs → Every Q xs
every_map P Q h [] p = tt
every_map P Q h (x ∷ xs) p = (h x p.0, every_map P Q h xs p.1)
