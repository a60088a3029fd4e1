-- Of figures that are numbers, `total_less` is an order: each has a weight, a whole number, and the lesser figure is the one of less weight.
-- For a NaN this fails, since it compares with nothing.
use Rattle.std.specs.Prelude.{ℕ, suc, ◌+◌, ◌*◌, ◌-◌, ◌<◌, ◌≤◌, Bool, not, ◌&&◌, ◌||◌, ◌≡◌, T, Float}
use Rattle.std.proofs.Math.Bool.{true, false}
use Rattle.std.proofs.Common.{true≢false, subst, ◌∙◌, mul_right_comm, zero-mul, add-mul, mul-lt-mul_of_pos_right, lt_of_mul-lt-mul_right, arith, ltb→lt, lt→ltb, nltb→le, eqb→eq}
use Rattle.std.proofs.lemmas.Bool.{false≢true}
use Rattle.std.proofs.Math.Path.{refl, sym, ap}
use Rattle.std.proofs.Math.Nat.{eq_of_mul-eq-mul_right}
use Rattle.std.proofs.Math.Dec.{ltb, eqb, eqb_refl}
use Rattle.std.specs.Float.Ieee.{nan, up, down, below, level, lt, le, eq, is_nan}
use Rattle.std.specs.Float.{inf, fin}
use Rattle.std.specs.Float.Ieee.Positive.{num, den, den_pos}
use borrow.Author.Tests.{ltb-true, ltb-false, eqb-true, eqb-false, lt-ltb, le-ltb, eq-eqb, ne_eqb}
use Rattle.figures.specs.Figure.{negative, total_less}

-- ---- tests

eq→eqb : (m n : ℕ) → m ≡ n → T (eqb m n)
eq→eqb m n e = subst (λ (x : ℕ). T (eqb m x)) e (eqb_refl m)

ruleset tests = (arith, ltb→lt, lt→ltb, nltb→le, eqb→eq, eq→eqb)

-- tests that imply each other are equal
same : (x y : Bool) → (T x → T y) → (T y → T x) → x ≡ y
same true true f g = refl
same true false f g = absurd (f tt)
same false true f g = absurd (g tt)
same false false f g = refl

-- ---- signed magnitudes

-- so far above or below the middle
abbrev rank : ℕ → Bool → ℕ → ℕ
rank middle true a = middle - a
rank middle false a = middle + a

module _ (a b k : ℕ) (K : 0 < k) where
  scale_less : ltb a b ≡ ltb (a * k) (b * k)
  scale_less =
      same (ltb a b) (ltb (a * k) (b * k)) (λ t. lt→ltb (a * k) (b * k) (mul-lt-mul_of_pos_right (ltb→lt a b t) K))
      (λ t. lt→ltb a b (lt_of_mul-lt-mul_right k (ltb→lt (a * k) (b * k) t)))

  scale_same : eqb a b ≡ eqb (a * k) (b * k)
  scale_same =
      same (eqb a b) (eqb (a * k) (b * k)) (λ t. eq→eqb (a * k) (b * k) (ap (λ (x : ℕ). x * k) (eqb→eq a b t)))
      (λ t. eq→eqb a b (eq_of_mul-eq-mul_right k K a b (eqb→eq (a * k) (b * k) t)))

-- a factor above 0 changes no comparison
module _ (s t : Bool) (a b k : ℕ) (K : 0 < k) where
  scale_below : below s a t b ≡ below s (a * k) t (b * k)
  scale_below = go s t
    where
      go : (s t : Bool) → below s a t b ≡ below s (a * k) t (b * k)
      go false false = scale_less a b k K
      go false true = refl
      go true false = scale_less 0 (a + b) k K ∙ rw (zero-mul k, add-mul a b k)
      go true true = scale_less b a k K

  scale_level : level s a t b ≡ level s (a * k) t (b * k)
  scale_level =
      let z : eqb a 0 ≡ eqb (a * k) 0 = scale_same a 0 k K ∙ rw (zero-mul k) in
      rw (scale_same a b k K) (rw z)

-- a test joined by `&&`, to be shown equal to one test
and : (x y z : Bool) → (T x → T y → T z) → (T z → T x) → (T z → T y) → (x && y) ≡ z
and true y z f g h = same y z (f tt) h
and false y z f g h = same false z absurd g

module _ (middle a b : ℕ) (A : a < middle) (B : b < middle) where
  below_rank : (s t : Bool) → below s a t b ≡ ltb (rank middle s a) (rank middle t b)
  below_rank false false = same (ltb a b) (ltb (middle + a) (middle + b)) (omega tests) (omega tests)
  below_rank false true = same false (ltb (middle + a) (middle - b)) (omega tests) (omega tests)
  below_rank true false = same (ltb 0 (a + b)) (ltb (middle - a) (middle + b)) (omega tests) (omega tests)
  below_rank true true = same (ltb b a) (ltb (middle - a) (middle - b)) (omega tests) (omega tests)

  level_rank : (s t : Bool) → level s a t b ≡ eqb (rank middle s a) (rank middle t b)
  level_rank false false = and (eqb a b) true (eqb (middle + a) (middle + b)) (omega tests) (omega tests) (λ _. tt)
  level_rank false true = and (eqb a b) (eqb a 0) (eqb (middle + a) (middle - b)) (omega tests) (omega tests) (omega tests)
  level_rank true false = and (eqb a b) (eqb a 0) (eqb (middle - a) (middle + b)) (omega tests) (omega tests) (omega tests)
  level_rank true true = and (eqb a b) true (eqb (middle - a) (middle - b)) (omega tests) (omega tests) (λ _. tt)

-- ---- figures

-- where a figure of so great a size stands: an infinity at an end
abbrev stand : ℕ → Float → ℕ → ℕ
stand middle nan a = 0
stand middle (inf true) a = 0
stand middle (inf false) a = middle + middle
stand middle (fin s m e) a = rank middle s a

-- among figures at one place, a negative one comes first
abbrev tip : Bool → ℕ
tip true = 0
tip false = 1

small : (p : Bool) → tip p ≤ 1
small true = omega arith
small false = omega arith

-- the order of places, and then of the tips
tipped : (a b : ℕ) (p q : Bool) → (ltb a b || (eqb a b && (p && not q))) ≡ ltb (2 * a + tip p) (2 * b + tip q)
tipped a b p q = go (ltb a b) refl (eqb a b) refl p q
  where
    go :
        (l : Bool) → ltb a b ≡ l → (e : Bool) → eqb a b ≡ e → (p q : Bool)
        → (l || (e && (p && not q))) ≡ ltb (2 * a + tip p) (2 * b + tip q)
    go true h e k p q = sym (lt-ltb (2 * a + tip p) (2 * b + tip q) (omega (arith, ltb-true a b h, small p)))
    go false h true k true true = sym (le-ltb (2 * a + 0) (2 * b + 0) (omega (arith, ltb-false a b h)))
    go false h true k true false = sym (lt-ltb (2 * a + 0) (2 * b + 1) (omega (arith, eqb-true a b k)))
    go false h true k false q = sym (le-ltb (2 * a + 1) (2 * b + tip q) (omega (arith, ltb-false a b h, small q)))
    go false h false k p q = sym (le-ltb (2 * a + tip p) (2 * b + tip q) (omega (arith, ltb-false a b h, eqb-false a b k, small q)))

module _ (middle : ℕ) where
  inside_low : (s : Bool) (a : ℕ) → a < middle → 0 < rank middle s a
  inside_low true a h = omega arith
  inside_low false a h = omega arith

  inside_high : (s : Bool) (a : ℕ) → a < middle → rank middle s a < middle + middle
  inside_high true a h = omega arith
  inside_high false a h = omega arith

module _ (middle a b k : ℕ) (K : 0 < k) (A : a < middle) (B : b < middle) where
  lt_stand :
      (x y : Float) → is_nan x ≡ false → is_nan y ≡ false → num x * den y * k ≡ a → num y * den x * k ≡ b
      → lt x y ≡ ltb (stand middle x a) (stand middle y b)
  unfolding lt is_nan
  lt_stand nan y n o p q = absurd (true≢false n)
  lt_stand (inf s) nan n o p q = absurd (true≢false o)
  lt_stand (inf true) (inf true) n o p q = refl
  lt_stand (inf true) (inf false) n o p q = sym (lt-ltb 0 (middle + middle) (omega arith))
  lt_stand (inf false) (inf true) n o p q = sym (le-ltb (middle + middle) 0 (omega arith))
  lt_stand (inf false) (inf false) n o p q = sym (le-ltb (middle + middle) (middle + middle) (omega arith))
  lt_stand (inf true) (fin t m e) n o p q = sym (lt-ltb 0 (rank middle t b) (inside_low middle t b B))
  lt_stand (inf false) (fin t m e) n o p q = sym (le-ltb (middle + middle) (rank middle t b) (omega (arith, inside_high middle t b B)))
  lt_stand (fin s m e) nan n o p q = absurd (true≢false o)
  lt_stand (fin s m e) (inf true) n o p q = sym (le-ltb (rank middle s a) 0 (omega arith))
  lt_stand (fin s m e) (inf false) n o p q = sym (lt-ltb (rank middle s a) (middle + middle) (inside_high middle s a A))
  lt_stand (fin s m e) (fin t n d) _ _ p q =
      scale_below s t (m * up e * down d) (n * up d * down e) k K
      ∙ ap (λ (i : ℕ). below s i t (n * up d * down e * k)) p
      ∙ ap (λ (j : ℕ). below s a t j) q
      ∙ below_rank middle a b A B s t

  eq_stand :
      (x y : Float) → is_nan x ≡ false → is_nan y ≡ false → num x * den y * k ≡ a → num y * den x * k ≡ b
      → eq x y ≡ eqb (stand middle x a) (stand middle y b)
  unfolding eq is_nan
  eq_stand nan y n o p q = absurd (true≢false n)
  eq_stand (inf s) nan n o p q = absurd (true≢false o)
  eq_stand (inf true) (inf true) n o p q = refl
  eq_stand (inf true) (inf false) n o p q = sym (ne_eqb 0 (middle + middle) (λ e. omega arith))
  eq_stand (inf false) (inf true) n o p q = sym (ne_eqb (middle + middle) 0 (λ e. omega arith))
  eq_stand (inf false) (inf false) n o p q = sym (eq-eqb (middle + middle) (middle + middle) refl)
  eq_stand (inf true) (fin t m e) n o p q = sym (ne_eqb 0 (rank middle t b) (λ e. omega (arith, inside_low middle t b B)))
  eq_stand (inf false) (fin t m e) n o p q = sym (ne_eqb (middle + middle) (rank middle t b) (λ e. omega (arith, inside_high middle t b B)))
  eq_stand (fin s m e) nan n o p q = absurd (true≢false o)
  eq_stand (fin s m e) (inf true) n o p q = sym (ne_eqb (rank middle s a) 0 (λ e. omega (arith, inside_low middle s a A)))
  eq_stand (fin s m e) (inf false) n o p q = sym (ne_eqb (rank middle s a) (middle + middle) (λ e. omega (arith, inside_high middle s a A)))
  eq_stand (fin s m e) (fin t n d) _ _ p q =
      scale_level s t (m * up e * down d) (n * up d * down e) k K
      ∙ ap (λ (i : ℕ). level s i t (n * up d * down e * k)) p
      ∙ ap (λ (j : ℕ). level s a t j) q
      ∙ level_rank middle a b A B s t

-- two figures compare as two whole numbers do
record Ordered (x y : Float) (a b : ℕ) : Type 0 where
  less : lt x y ≡ ltb a b
  alike : eq x y ≡ eqb a b

-- and so do three that are numbers, each with a whole number of its own
record Ranks (x y z : Float) : Type 0 where
  first : ℕ
  second : ℕ
  third : ℕ
  xy : Ordered x y first second
  yx : Ordered y x second first
  yz : Ordered y z second third
  zy : Ordered z y third second
  xz : Ordered x z first third

ranks : (x y z : Float) → is_nan x ≡ false → is_nan y ≡ false → is_nan z ≡ false → Ranks x y z
ranks x y z X Y Z =
    record {
      first = stand m x a;
      second = stand m y b;
      third = stand m z c;
      xy = two a b (den z) (den_pos z) (omega arith) (omega arith) x y X Y refl refl;
      yx = two b a (den z) (den_pos z) (omega arith) (omega arith) y x Y X refl refl;
      yz = two b c (den x) (den_pos x) (omega arith) (omega arith) y z Y Z (mul_right_comm (num y) (den z) (den x)) (mul_right_comm (num z) (den y) (den x));
      zy = two c b (den x) (den_pos x) (omega arith) (omega arith) z y Z Y (mul_right_comm (num z) (den y) (den x)) (mul_right_comm (num y) (den z) (den x));
      xz = two a c (den y) (den_pos y) (omega arith) (omega arith) x z X Z (mul_right_comm (num x) (den z) (den y)) refl;
    }
  where
    a : ℕ
    a = num x * den y * den z

    b : ℕ
    b = num y * den x * den z

    c : ℕ
    c = num z * den x * den y

    m : ℕ
    m = suc (a + b + c)

    two :
        (i j k : ℕ) → 0 < k → i < m → j < m → (u v : Float) → is_nan u ≡ false → is_nan v ≡ false → num u * den v * k ≡ i
        → num v * den u * k ≡ j → Ordered u v (stand m u i) (stand m v j)
    two i j k K I J u v e f p q = record { less = lt_stand m i j k K I J u v e f p q; alike = eq_stand m i j k K I J u v e f p q }

-- `total_less` too goes by whole numbers
total : (x y : Float) (a b : ℕ) → Ordered x y a b → total_less x y ≡ ltb (2 * a + tip (negative x)) (2 * b + tip (negative y))
total x y a b o = rw o.less (rw o.alike (tipped a b (negative x) (negative y)))

-- ---- the order of figures that are numbers

module _ (x y : Float) (X : is_nan x ≡ false) (Y : is_nan y ≡ false) where
  -- at most one of two is below the other
  pub total_one_way : total_less x y ≡ true → total_less y x ≡ false
  total_one_way h =
      let r = ranks x y y X Y Y in
      let a = 2 * r.first + tip (negative x) in
      let b = 2 * r.second + tip (negative y) in
      total y x r.second r.first r.yx
      ∙ le-ltb b a (omega (arith, ltb-true a b (sym (total x y r.first r.second r.xy) ∙ h)))

  pub lt_one_way : lt x y ≡ true → lt y x ≡ false
  lt_one_way h =
      let r = ranks x y y X Y Y in
      r.yx.less ∙ le-ltb r.second r.first (omega (arith, ltb-true r.first r.second (sym r.xy.less ∙ h)))

  pub le_not_above : le x y ≡ true → lt y x ≡ false
  unfolding le
  le_not_above h = go (lt x y) (eq x y) refl refl h
    where
      go : (l e : Bool) → lt x y ≡ l → eq x y ≡ e → (l || e) ≡ true → lt y x ≡ false
      go true e p q t = lt_one_way p
      go false true p q t =
          let r = ranks x y y X Y Y in
          r.yx.less ∙ le-ltb r.second r.first (omega (arith, eqb-true r.first r.second (sym r.xy.alike ∙ q)))
      go false false p q t = absurd (false≢true t)

  pub not_above_le : lt y x ≡ false → le x y ≡ true
  unfolding le
  not_above_le h =
      let r = ranks x y y X Y Y in
      rw r.xy.less (rw r.xy.alike (go (ltb r.first r.second) r refl (sym r.yx.less ∙ h)))
    where
      go : (b : Bool) → (r : Ranks x y y) → ltb r.first r.second ≡ b → ltb r.second r.first ≡ false → (b || eqb r.first r.second) ≡ true
      go true r p q = refl
      go false r p q = eq-eqb r.first r.second (omega (arith, ltb-false r.first r.second p, ltb-false r.second r.first q))

module _ (x y z : Float) (X : is_nan x ≡ false) (Y : is_nan y ≡ false) (Z : is_nan z ≡ false) where
  -- what is below one is below any that is not below that one
  pub total_trans : total_less x y ≡ true → total_less z y ≡ false → total_less x z ≡ true
  total_trans h k =
      let r = ranks x y z X Y Z in
      let a = 2 * r.first + tip (negative x) in
      let b = 2 * r.second + tip (negative y) in
      let c = 2 * r.third + tip (negative z) in
      total x z r.first r.third r.xz
      ∙ lt-ltb a c
      (omega (
        arith,
        ltb-true a b (sym (total x y r.first r.second r.xy) ∙ h),
        ltb-false c b (sym (total z y r.third r.second r.zy) ∙ k),
      ))

  -- at least one that is at least a third: at least that
  pub not_lt_trans : lt x y ≡ false → lt y z ≡ false → lt x z ≡ false
  not_lt_trans h k =
      let r = ranks x y z X Y Z in
      r.xz.less
      ∙ le-ltb r.first r.third
      (omega (arith, ltb-false r.first r.second (sym r.xy.less ∙ h), ltb-false r.second r.third (sym r.yz.less ∙ k)))

-- ---- what compares is a number

pub lt_number : (x y : Float) → lt x y ≡ true → (is_nan x ≡ false) × (is_nan y ≡ false)
unfolding lt is_nan
lt_number nan y e = absurd (false≢true e)
lt_number (inf s) nan e = absurd (false≢true e)
lt_number (inf s) (inf t) e = (refl, refl)
lt_number (inf s) (fin t n d) e = (refl, refl)
lt_number (fin s m d) nan e = absurd (false≢true e)
lt_number (fin s m d) (inf t) e = (refl, refl)
lt_number (fin s m d) (fin t n f) e = (refl, refl)

-- what lies above another does not come before it
pub above_not_less : (x y : Float) → lt y x ≡ true → total_less x y ≡ false
above_not_less x y e = let n = lt_number y x e in total_one_way y x n.0 n.1 (rw e)

-- ---- three figures

pub lt_trans : (x y z : Float) → lt x y ≡ true → lt y z ≡ true → lt x z ≡ true
lt_trans x y z h k = go (lt x z) refl
  where
    a : (is_nan x ≡ false) × (is_nan y ≡ false)
    a = lt_number x y h

    b : (is_nan y ≡ false) × (is_nan z ≡ false)
    b = lt_number y z k

    go : (t : Bool) → lt x z ≡ t → lt x z ≡ true
    go true e = e
    go false e = absurd (true≢false (sym h ∙ not_lt_trans x z y a.0 b.1 a.1 e (lt_one_way y z a.1 b.1 k)))

-- below one that is not above a third: below that
pub lt_not : (x y z : Float) → is_nan z ≡ false → lt x y ≡ true → lt z y ≡ false → lt x z ≡ true
lt_not x y z n h k = go (lt x z) refl
  where
    a : (is_nan x ≡ false) × (is_nan y ≡ false)
    a = lt_number x y h

    go : (t : Bool) → lt x z ≡ t → lt x z ≡ true
    go true e = e
    go false e = absurd (true≢false (sym h ∙ not_lt_trans x z y a.0 n a.1 e k))

-- not above one that is below a third: below that
pub not_lt : (x y z : Float) → is_nan x ≡ false → lt y x ≡ false → lt y z ≡ true → lt x z ≡ true
not_lt x y z n h k = go (lt x z) refl
  where
    a : (is_nan y ≡ false) × (is_nan z ≡ false)
    a = lt_number y z k

    go : (t : Bool) → lt x z ≡ t → lt x z ≡ true
    go true e = e
    go false e = absurd (true≢false (sym k ∙ not_lt_trans y x z a.0 n a.1 h e))

pub lt_both : (x y : Float) → lt x y ≡ true → lt y x ≡ true → ⊥
lt_both x y h k = let a = lt_number x y h in true≢false (sym k ∙ lt_one_way x y a.0 a.1 h)
