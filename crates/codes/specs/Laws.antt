-- Laws of refusals in one order: what the first tests say of all.
use Rattle.std.specs.Prelude.{ℕ, Bool, true, false, cond, ◌&&◌, List, [], ◌∷◌, ◌++◌, ◌≡◌, refl, Ok, Err}
use Rattle.std.proofs.Common.{arith, sym}
use Rattle.codes.specs.declared.Refusal.{Refusal}
use Rattle.codes.specs.Refusal.{Checked, Test, is_named, refusal_of}

refused_not : {n : Refusal} → ◌≡◌ {A = Checked} (Err n) (Ok tt) → ⊥
refused_not e = let z : ◌≡◌ {A = ℕ} 0 1 = cc in omega arith

-- Accepted by the first tests, an input goes on to the next.
pub refusal_next : (a b : List Test) → refusal_of a ≡ Ok tt → refusal_of (a ++ b) ≡ refusal_of b
refusal_next [] b e = refl
refusal_next (t ∷ ts) b e = go t.fails (refusal_next ts b) e
  where
    go :
        (f : Bool) → (refusal_of ts ≡ Ok tt → refusal_of (ts ++ b) ≡ refusal_of b) → cond f (Err t.refusal) (refusal_of ts) ≡ Ok tt
        → cond f (Err t.refusal) (refusal_of (ts ++ b)) ≡ refusal_of b
    go true next q = cc
    go false next q = next q

-- Refused by the first tests, it is refused by them all.
pub refusal_stays : (a b : List Test) (n : Refusal) → refusal_of a ≡ Err n → refusal_of (a ++ b) ≡ Err n
refusal_stays [] b n e = cc
refusal_stays (t ∷ ts) b n e = go t.fails (refusal_stays ts b n) e
  where
    go :
        (f : Bool) → (refusal_of ts ≡ Err n → refusal_of (ts ++ b) ≡ Err n) → cond f (Err t.refusal) (refusal_of ts) ≡ Err n
        → cond f (Err t.refusal) (refusal_of (ts ++ b)) ≡ Err n
    go true stays q = q
    go false stays q = stays q

-- none of the tests fails
abbrev pub NoneFails : List Test → Type 0
NoneFails [] = Unit
NoneFails (t ∷ ts) = (t.fails ≡ false) × NoneFails ts

-- Accepted by all: none fails.
pub none_fails : (ts : List Test) → refusal_of ts ≡ Ok tt → NoneFails ts
none_fails [] e = tt
none_fails (t ∷ ts) e = go t.fails (none_fails ts) e
  where
    go :
        (f : Bool) → (refusal_of ts ≡ Ok tt → NoneFails ts) → cond f (Err t.refusal) (refusal_of ts) ≡ Ok tt
        → (f ≡ false) × NoneFails ts
    go true next q = absurd (refused_not q)
    go false next q = (refl, next q)

-- Accepted by two lists of tests in a row: accepted by each.
pub refusal_both : (a b : List Test) → refusal_of (a ++ b) ≡ Ok tt → (refusal_of a ≡ Ok tt) × (refusal_of b ≡ Ok tt)
refusal_both [] b e = (refl, e)
refusal_both (t ∷ ts) b e = go t.fails (refusal_both ts b) e
  where
    go :
        (f : Bool) → (refusal_of (ts ++ b) ≡ Ok tt → (refusal_of ts ≡ Ok tt) × (refusal_of b ≡ Ok tt))
        → cond f (Err t.refusal) (refusal_of (ts ++ b)) ≡ Ok tt
        → (cond f (Err t.refusal) (refusal_of ts) ≡ Ok tt) × (refusal_of b ≡ Ok tt)
    go true next q = absurd (refused_not q)
    go false next q = next q

-- each test's refusal has a name
abbrev pub all_named : List Test → Bool
all_named [] = true
all_named (t ∷ ts) = is_named t.refusal && all_named ts

pub all_named_both : (a b : List Test) → all_named a ≡ true → all_named b ≡ true → all_named (a ++ b) ≡ true
all_named_both [] b p q = q
all_named_both (t ∷ ts) b p q = go (is_named t.refusal) (λ h. all_named_both ts b h q) p
  where
    go :
        (x : Bool) → (all_named ts ≡ true → all_named (ts ++ b) ≡ true) → (x && all_named ts) ≡ true
        → (x && all_named (ts ++ b)) ≡ true
    go true next h = next h
    go false next h = h

-- Then so has the refusal by which they refuse.
pub refusal_named : (ts : List Test) (n : Refusal) → all_named ts ≡ true → refusal_of ts ≡ Err n → is_named n ≡ true
refusal_named [] n p e = absurd (refused_not (sym e))
refusal_named (t ∷ ts) n p e = go (is_named t.refusal) t.fails refl (refusal_named ts n) p e
  where
    go :
        (x f : Bool) → is_named t.refusal ≡ x → (all_named ts ≡ true → refusal_of ts ≡ Err n → is_named n ≡ true)
        → (x && all_named ts) ≡ true → cond f (Err t.refusal) (refusal_of ts) ≡ Err n → is_named n ≡ true
    go true true i next h q = let same : t.refusal ≡ n = cc in rw (← same) i
    go true false i next h q = next h q
    go false f i next h q = cc
