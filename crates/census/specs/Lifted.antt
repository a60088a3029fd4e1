-- Signed numbers of 64 bits counted from the least, and the refusals of a stretch by these; tests taken in turn.
use Rattle.std.specs.Prelude.{◌≡◌, ℕ, zero, suc, ◌+◌, ◌-◌, ◌<◌, ◌≤◌, Bool, true, false, cond, not, ◌||◌, ltb, List, [], ◌∷◌, ◌++◌, ℤ, pos, negsuc, ◌+ℤ◌, FitsSigned, ◌==◌, nat_le, nat_lt, unsigned_abs, refl}
use Rattle.std.specs.Prelude.{Result, Ok, Err}
use Rattle.std.specs.Result.{result_and}
use Rattle.codes.specs.declared.Refusal.TheVariants as refusal
use Rattle.codes.specs.declared.Refusal.{Refusal}
use Rattle.codes.specs.Refusal.{Checked, Test, test, refusal_of}
use Rattle.std.proofs.Common.{sym, ap, ◌∙◌, arith, lt-ltb, le-ltb, le-leb, ne_eqb, ltb-false}
use Rattle.std.proofs.Math.Decide.{dec_le, dec_lt}
use Rattle.std.proofs.lemmas.Bool.{lt-leb, eqb-false}
use Rattle.std.proofs.Math.IntN.{sub_ℕ}
use Rattle.std.specs.Int.{w64}
use Rattle.codes.specs.Laws.{none_fails}
use Rattle.station.specs.Station.{mark_valid}
use Rattle.census.specs.Census.{most, farthest, dials_by, dials_of, stretch_tests}

-- where nought lies, counted from the least signed number
abbrev pub nought : ℕ
nought = 9223372036854775808

abbrev pub lift : ℤ → ℕ
lift (pos n) = nought + n
lift (negsuc n) = (nought - 1) - n

-- by their places: no dial from one to the other, or too many
abbrev pub no_stretch : ℕ → ℕ → Bool
no_stretch first last = cond (nat_lt last first) true (nat_le most (last - first))

abbrev pub far_of : ℕ → Bool
far_of at = cond (nat_lt at (nought - farthest)) true (nat_lt (nought + farthest) at)

-- how many dials there are from one place to another
abbrev pub dials_from : ℕ → ℕ → ℕ
dials_from first last = cond (nat_lt last first) 0 (suc (last - first))

-- ---- tests in turn

abbrev pub in_turn : Checked → Checked → Checked
in_turn (Err n) next = Err n
in_turn (Ok tt) next = next

pub and_turn : (x y : Checked) → result_and x y ≡ in_turn x y
and_turn (Ok tt) y = refl
and_turn (Err n) y = refl

pub in_turn_holds : (a b : List Test) → refusal_of (a ++ b) ≡ in_turn (refusal_of a) (refusal_of b)
in_turn_holds [] b = refl
in_turn_holds (t ∷ ts) b = go t.fails (in_turn_holds ts b)
  where
    go :
        (f : Bool) → refusal_of (ts ++ b) ≡ in_turn (refusal_of ts) (refusal_of b)
        → cond f (Err t.refusal) (refusal_of (ts ++ b)) ≡ in_turn (cond f (Err t.refusal) (refusal_of ts)) (refusal_of b)
    go true next = refl
    go false next = next

-- how many there are, unless refused
abbrev pub unless : Checked → ℕ → Result ℕ Refusal
unless (Ok tt) n = Ok n
unless (Err e) n = Err e

abbrev pub stretch_of : ℤ → ℤ → Result ℕ Refusal
stretch_of first last = unless (refusal_of (stretch_tests first last)) (dials_of first last)

pub and_unless : (x y : Checked) (n : ℕ) → result_and x (unless y n) ≡ unless (in_turn x y) n
and_unless (Ok tt) y n = refl
and_unless (Err e) y n = refl

pub unless_err : (x : Checked) (n : ℕ) (e : Refusal) → unless x n ≡ Err e → x ≡ Err e
unless_err (Ok tt) n e q = cc
unless_err (Err f) n e q = cc

pub unless_ok : (x : Checked) (n k : ℕ) → unless x n ≡ Ok k → (x ≡ Ok tt) × (k ≡ n)
unless_ok (Ok tt) n k q = (refl, cc)
unless_ok (Err f) n k q = (cc, cc)

abbrev pub marked : ℕ → Checked
marked known = refusal_of (test refusal.StationCode (not (mark_valid known)) ∷ [])

-- ---- a stretch by its places

-- b − a is q − p: as many dials
sub_dials : (a b p q : ℕ) → q + a ≡ p + b → dials_by (sub_ℕ b a) ≡ dials_from p q
sub_dials a b p q e = go (dec_lt b a)
  where
    go : Dec (b < a) → dials_by (sub_ℕ b a) ≡ dials_from p q
    go (yes h) =
        ap (λ (t : Bool). dials_by (cond t (negsuc (a - suc b)) (pos (b - a)))) (lt-ltb b a h)
        ∙ sym (ap (λ (t : Bool). cond t 0 (suc (q - p))) (lt-ltb q p (omega arith)))
    go (no h) =
        let s : b - a ≡ q - p = omega arith in
        ap (λ (t : Bool). dials_by (cond t (negsuc (a - suc b)) (pos (b - a)))) (le-ltb b a (omega arith))
        ∙ ap suc s
        ∙ sym (ap (λ (t : Bool). cond t 0 (suc (q - p))) (le-ltb q p (omega arith)))

-- nothing taken off
sub_none : (b : ℕ) → pos b ≡ sub_ℕ b 0
sub_none b = ap pos (omega arith) ∙ sym (ap (λ (t : Bool). cond t (negsuc (0 - suc b)) (pos (b - 0))) (le-ltb b 0 (omega arith)))

-- and more than there is
sub_below : (b : ℕ) → negsuc b ≡ sub_ℕ 0 (suc b)
sub_below b = ap negsuc (omega arith) ∙ sym (ap (λ (t : Bool). cond t (negsuc (suc b - 1)) (pos (0 - suc b))) (lt-ltb 0 (suc b) (omega arith)))

pub dials_lifted : (first last : ℤ) → FitsSigned w64 first → FitsSigned w64 last → dials_of first last ≡ dials_from (lift first) (lift last)
dials_lifted (pos zero) (pos b) f g = ap dials_by (sub_none (b + 0)) ∙ sub_dials 0 (b + 0) (nought + 0) (nought + b) (omega arith)
dials_lifted (pos (suc a)) (pos b) f g = sub_dials (suc a) b (nought + suc a) (nought + b) (omega arith)
dials_lifted (pos zero) (negsuc b) f g =
    sub_dials (suc b) 0 (nought + 0) ((nought - 1) - b) (omega (arith, g.sfits))
dials_lifted (pos (suc a)) (negsuc b) f g =
    ap dials_by (sub_below (suc (b + a)))
    ∙ sub_dials (suc (suc (b + a))) 0 (nought + suc a) ((nought - 1) - b) (omega (arith, g.sfits))
dials_lifted (negsuc a) (pos b) f g =
    ap dials_by (sub_none (b + suc a)) ∙ sub_dials 0 (b + suc a) ((nought - 1) - a) (nought + b) (omega (arith, f.sfits))
dials_lifted (negsuc a) (negsuc b) f g =
    sub_dials (suc b) (suc a) ((nought - 1) - a) ((nought - 1) - b) (omega (arith, f.sfits, g.sfits))

-- 33 by the places
no_dials : (p q : ℕ) → (dials_from p q == 0 || nat_lt most (dials_from p q)) ≡ no_stretch p q
no_dials p q = go (nat_lt q p)
  where
    few : Dec (most ≤ q - p) → nat_lt most (suc (q - p)) ≡ nat_le most (q - p)
    few (yes h) = lt-ltb most (suc (q - p)) (omega arith) ∙ sym (le-leb most (q - p) h)
    few (no h) = le-ltb most (suc (q - p)) (omega arith) ∙ sym (lt-leb most (q - p) (omega arith))

    go : (t : Bool) → (cond t 0 (suc (q - p)) == 0 || nat_lt most (cond t 0 (suc (q - p)))) ≡ cond t true (nat_le most (q - p))
    go true = refl
    go false =
        ap (λ (t : Bool). t || nat_lt most (suc (q - p))) (ne_eqb (suc (q - p)) 0 (λ e. absurd (omega arith)))
        ∙ few (dec_le most (q - p))

pub stretch_lifted : (first last : ℤ) → FitsSigned w64 first → FitsSigned w64 last
    → (dials_of first last == 0 || nat_lt most (dials_of first last)) ≡ no_stretch (lift first) (lift last)
stretch_lifted first last f g =
    ap (λ (n : ℕ). (n == 0) || nat_lt most n) (dials_lifted first last f g) ∙ no_dials (lift first) (lift last)

-- 34 by a place
pub far_lifted : (x : ℤ) → FitsSigned w64 x → nat_lt farthest (unsigned_abs x) ≡ far_of (lift x)
far_lifted (pos n) f = go (dec_lt farthest n)
  where
    near : ltb (nought + n) (nought - farthest) ≡ false
    near = le-ltb (nought + n) (nought - farthest) (omega arith)

    go : Dec (farthest < n) → nat_lt farthest n ≡ far_of (nought + n)
    go (yes h) = rw near (lt-ltb farthest n h ∙ sym (lt-ltb (nought + farthest) (nought + n) (omega arith)))
    go (no h) = rw near (le-ltb farthest n (omega arith) ∙ sym (le-ltb (nought + farthest) (nought + n) (omega arith)))
far_lifted (negsuc n) f = go (dec_lt farthest (suc n))
  where
    go : Dec (farthest < suc n) → nat_lt farthest (suc n) ≡ far_of ((nought - 1) - n)
    go (yes h) =
        lt-ltb farthest (suc n) h
        ∙ sym
        (ap (λ (t : Bool). cond t true (nat_lt (nought + farthest) ((nought - 1) - n)))
        (lt-ltb ((nought - 1) - n) (nought - farthest) (omega (arith, f.sfits))))
    go (no h) =
        le-ltb farthest (suc n) (omega arith)
        ∙ sym
        (ap (λ (t : Bool). cond t true (nat_lt (nought + farthest) ((nought - 1) - n)))
        (le-ltb ((nought - 1) - n) (nought - farthest) (omega (arith, f.sfits)))
        ∙ le-ltb (nought + farthest) ((nought - 1) - n) (omega arith))

-- ---- the refusals

module _ (first last : ℤ) (f : FitsSigned w64 first) (g : FitsSigned w64 last) where
  -- the two tests by the places
  abbrev by : Bool → Bool → Bool → Checked
  by none low high = cond none (Err refusal.Stretch) (cond (low || high) (Err refusal.FarDial) (Ok tt))

  stretch_by : refusal_of (stretch_tests first last) ≡ by (no_stretch (lift first) (lift last)) (far_of (lift first)) (far_of (lift last))
  stretch_by =
      ap (λ (t : Bool). by t (nat_lt farthest (unsigned_abs first)) (nat_lt farthest (unsigned_abs last))) (stretch_lifted first last f g)
      ∙ ap (λ (t : Bool). by (no_stretch (lift first) (lift last)) t (nat_lt farthest (unsigned_abs last))) (far_lifted first f)
      ∙ ap (by (no_stretch (lift first) (lift last)) (far_of (lift first))) (far_lifted last g)

  pub stretch_none : no_stretch (lift first) (lift last) ≡ true → Err refusal.Stretch ≡ refusal_of (stretch_tests first last)
  stretch_none e = sym (stretch_by ∙ ap (λ (t : Bool). by t (far_of (lift first)) (far_of (lift last))) e)

  module _ (some : no_stretch (lift first) (lift last) ≡ false) where
    pub stretch_low : far_of (lift first) ≡ true → Err refusal.FarDial ≡ refusal_of (stretch_tests first last)
    stretch_low e =
        sym (stretch_by ∙ ap (λ (t : Bool). by t (far_of (lift first)) (far_of (lift last))) some ∙ ap (λ (t : Bool). by false t (far_of (lift last))) e)

    module _ (near : far_of (lift first) ≡ false) where
      pub stretch_high : far_of (lift last) ≡ true → Err refusal.FarDial ≡ refusal_of (stretch_tests first last)
      stretch_high e =
          sym
          (stretch_by ∙ ap (λ (t : Bool). by t (far_of (lift first)) (far_of (lift last))) some ∙ ap (λ (t : Bool). by false t (far_of (lift last))) near
          ∙ ap (by false false) e)

      pub stretch_fits : far_of (lift last) ≡ false → Ok tt ≡ refusal_of (stretch_tests first last)
      stretch_fits e =
          sym
          (stretch_by ∙ ap (λ (t : Bool). by t (far_of (lift first)) (far_of (lift last))) some ∙ ap (λ (t : Bool). by false t (far_of (lift last))) near
          ∙ ap (by false false) e)

-- ---- an accepted stretch

or_parts : (a b : Bool) → (a || b) ≡ false → (a ≡ false) × (b ≡ false)
or_parts true b e = absurd (true_not e)
  where
    true_not : true ≡ false → ⊥
    true_not q = let z : ◌≡◌ {A = ℕ} 0 1 = cc in omega arith
or_parts false b e = (refl, e)

pub record Stretch (first last : ℤ) : Type 0 where
  pub some : 0 < dials_of first last
  pub few : dials_of first last ≤ most
  pub low : unsigned_abs first ≤ farthest
  pub high : unsigned_abs last ≤ farthest

pub stretch_accepted : (first last : ℤ) → refusal_of (stretch_tests first last) ≡ Ok tt → Stretch first last
stretch_accepted first last e =
    let n = none_fails (stretch_tests first last) e in
    let a = or_parts (dials_of first last == 0) (nat_lt most (dials_of first last)) n.0 in
    let b = or_parts (nat_lt farthest (unsigned_abs first)) (nat_lt farthest (unsigned_abs last)) n.1.0 in
    let z = eqb-false (dials_of first last) 0 a.0 in
    record {
      some = omega (arith, z);
      few = ltb-false most (dials_of first last) a.1;
      low = ltb-false farthest (unsigned_abs first) b.0;
      high = ltb-false farthest (unsigned_abs last) b.1;
    }

-- the places of an accepted stretch are in order
pub dials_are : (first last : ℤ) → FitsSigned w64 first → FitsSigned w64 last → 0 < dials_of first last
    → (lift first ≤ lift last) × (dials_of first last ≡ suc (lift last - lift first))
dials_are first last f g h = go (dec_lt (lift last) (lift first))
  where
    go : Dec (lift last < lift first) → (lift first ≤ lift last) × (dials_of first last ≡ suc (lift last - lift first))
    go (yes k) =
        let z : dials_of first last ≡ 0 =
        dials_lifted first last f g ∙ ap (λ (t : Bool). cond t 0 (suc (lift last - lift first))) (lt-ltb (lift last) (lift first) k) in
        absurd (omega arith)
    go (no k) =
        (omega arith, dials_lifted first last f g ∙ ap (λ (t : Bool). cond t 0 (suc (lift last - lift first))) (le-ltb (lift last) (lift first) (omega arith)))

-- a dial of a stretch is a number of 64 bits
pub dial_fits : (first : ℤ) (k : ℕ) → unsigned_abs first ≤ farthest → k < most → FitsSigned w64 (first +ℤ pos k)
dial_fits (pos n) k f h = record { sfits = omega arith }
dial_fits (negsuc n) k f h = go (nat_lt k (suc n))
  where
    go : (t : Bool) → FitsSigned w64 (cond t (negsuc (suc n - suc k)) (pos (k - suc n)))
    go true = record { sfits = omega arith }
    go false = record { sfits = omega arith }
