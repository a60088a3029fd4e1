-- Rows offered one after the other to bytes, with room for them or without. How a row is offered is whatever is given: `offer` puts row x,
-- before which n rows were offered, into the bytes.
use Prim.Native.Nat.{ℕ, suc, ◌+◌}
use mathlib.Core.List.{List, [], ◌∷◌, ◌++◌}
use Rattle.std.specs.Prelude.{◌≡◌}
use Rattle.std.proofs.Math.Path.{refl, ap}
use Rattle.std.proofs.Common.{sym, ◌∙◌, length-append}
use native.Mathlib.Omega.{arith}
use Rattle.std.proofs.Math.ListN.{length}

abbrev pub Offer : Type 0 → Type 0
Offer A = A → ℕ → List ℕ → List ℕ

-- bytes l that n rows were offered to, after more rows
unfoldable pub pour : {A : Type 0} → Offer A → List ℕ → ℕ → List A → List ℕ
pour offer l n [] = l
pour offer l n (x ∷ xs) = pour offer (offer x n l) (suc n) xs

-- from bytes l that n rows were offered to, to bytes and a count after more rows
pub record Poured {A : Type 0} (offer : Offer A) (l : List ℕ) (n : ℕ) (l' : List ℕ) (n' : ℕ) (xs : List A) : Type 0 where
  pub counted : n' ≡ n + length xs
  pub written : l' ≡ pour offer l n xs

-- What a loop knows that began with bytes l₀ and n₀ rows, with the rows xs to offer, and has rest still to offer.
pub record Pouring {A : Type 0} (offer : Offer A) (l₀ : List ℕ) (n₀ : ℕ) (xs : List A) (l : List ℕ) (n : ℕ) (rest : List A) : Type 0 where
  pub counted : n + length rest ≡ n₀ + length xs
  pub written : pour offer l n rest ≡ pour offer l₀ n₀ xs

module _ {A : Type 0} (offer : Offer A) where
  pub poured_none : (l : List ℕ) (n : ℕ) → Poured offer l n l n []
  unfolding pour
  poured_none l n = record { counted = omega arith; written = refl }

  pour_append : (xs ys : List A) (l : List ℕ) (n : ℕ) → pour offer l n (xs ++ ys) ≡ pour offer (pour offer l n xs) (n + length xs) ys
  unfolding pour
  pour_append [] ys l n = let e : n + 0 ≡ n = omega arith in rw e
  pour_append (x ∷ xs) ys l n =
      let e : n + suc (length xs) ≡ suc n + length xs = omega arith in
      rw e (pour_append xs ys (offer x n l) (suc n))

  pub poured_more :
      (l : List ℕ) (n : ℕ) (l' : List ℕ) (n' : ℕ) (l'' : List ℕ) (n'' : ℕ) (xs ys : List A)
      → Poured offer l n l' n' xs → Poured offer l' n' l'' n'' ys → Poured offer l n l'' n'' (xs ++ ys)
  poured_more l n l' n' l'' n'' xs ys p q =
      record {
        counted = q.counted ∙ ap (λ (k : ℕ). k + length ys) p.counted ∙ sum n (length xs) (length ys) ∙ ap (λ (k : ℕ). n + k) (sym (length-append xs ys));
        written =
            q.written
            ∙ ap (λ (m : List ℕ). pour offer m n' ys) p.written
            ∙ ap (λ (k : ℕ). pour offer (pour offer l n xs) k ys) p.counted
            ∙ sym (pour_append xs ys l n);
      }
    where
      sum : (a b c : ℕ) → a + b + c ≡ a + (b + c)
      sum a b c = omega arith

  module _ (l₀ : List ℕ) (n₀ : ℕ) (xs : List A) where
    pub pouring_none : (rest : List A) → rest ≡ xs → Pouring offer l₀ n₀ xs l₀ n₀ rest
    pouring_none rest e = rw e (record { counted = refl; written = refl })

    -- some of the rest offered
    pub pouring_more :
        (l : List ℕ) (n : ℕ) (l' : List ℕ) (n' : ℕ) (rest ys more : List A) → Pouring offer l₀ n₀ xs l n rest → rest ≡ ys ++ more
        → Poured offer l n l' n' ys → Pouring offer l₀ n₀ xs l' n' more
    pouring_more l n l' n' rest ys more p e q =
        let t = poured_more l n l' n' (pour offer l' n' more) (n' + length more) ys more q (record { counted = refl; written = refl }) in
        record {
          counted = t.counted ∙ ap (λ (zs : List A). n + length zs) (sym e) ∙ p.counted;
          written = t.written ∙ ap (λ (zs : List A). pour offer l n zs) (sym e) ∙ p.written;
        }

    -- one row of it
    pub pouring_step :
        (l l' : List ℕ) (n : ℕ) (x : A) (rest more : List A) → Pouring offer l₀ n₀ xs l n rest → rest ≡ x ∷ more → l' ≡ offer x n l
        → Pouring offer l₀ n₀ xs l' (n + 1) more
    unfolding pour
    pouring_step l l' n x rest more p e w =
        pouring_more l n l' (n + 1) rest (x ∷ []) more p e (record { counted = refl; written = w })

    pub pouring_done : (l : List ℕ) (n : ℕ) (rest : List A) → Pouring offer l₀ n₀ xs l n rest → rest ≡ [] → Poured offer l₀ n₀ l n xs
    unfolding pour
    pouring_done l n rest p e =
        let c : length rest ≡ 0 = ap length e in
        record {
          counted = omega (arith, p.counted);
          written = ap (λ (ys : List A). pour offer l n ys) (sym e) ∙ p.written;
        }
