-- What is left of a piece of positive length, when each range that counts takes its stretch away.
use Prim.Native.Nat.{ℕ, zero, suc, ◌+◌, ◌<◌, ◌≤◌}
use Rattle.std.specs.Prelude.{Option, Some, None, Bool, false, cond, ◌⊎◌, ◌≡◌, Float}
use Rattle.std.proofs.Math.Bool.{true}
use Rattle.std.proofs.Common.{true≢false, inr, sym, ap, subst, ◌∙◌, arith}
use mathlib.Core.List.{List, [], ◌∷◌, ◌++◌}
use Rattle.std.proofs.Math.Logic.{inl}
use Rattle.std.proofs.Math.Path.{refl}
use Rattle.std.specs.Float.Ieee.{lt, is_nan}
use Rattle.order.specs.Total.{lt_not, not_lt, lt_both, not_lt_trans, not_above_le}
use Rattle.order.specs.Greater.{max_first, max_second, min_first, min_second}
use Rattle.profile.specs.Range.{holds_of, lengthy, common_of, share_of}
use Rattle.profile.specs.declared.Range.{Range}
use Rattle.lists.specs.Laws.{Every, every_append, every_map}
use Rattle.scan.specs.Laws.{from_here}
use Rattle.layout.specs.declared.Record.{Record}
use Rattle.table.specs.Parts.{span_of}
use Rattle.sweep.specs.Sweep.{is_member, shared_with, on_shared}
use Rattle.report.specs.Gaps.{below as under, above as over, of_part, left_from}
use Rattle.report_meaning.specs.Words.{In, lies, below, Apart, InGap, HeldBy}
use Rattle.report_meaning.specs.Ranges.{and_of, low_number, high_number, not_self, lt_le, held, held_low, held_high, holds_self, holds_trans}
use Rattle.report_meaning.specs.Ranges.{max_is, min_is, shares_of, apart_below, apart_above, share_part}

-- ---- the stretch x that a range s shares with a piece p

pub record Taken (s p x : Range) : Type 0 where
  pub long : lengthy x ≡ true
  -- it lies in both
  pub from_low : lt x.low_hz p.low_hz ≡ false
  pub to_high : lt p.high_hz x.high_hz ≡ false
  pub from_own : lt x.low_hz s.low_hz ≡ false
  pub to_own : lt s.high_hz x.high_hz ≡ false
  -- where a part is left below or above it, it ends as the range does
  pub begins : lt p.low_hz x.low_hz ≡ true → x.low_hz ≡ s.low_hz
  pub ends : lt x.high_hz p.high_hz ≡ true → x.high_hz ≡ s.high_hz

taken : (s p : Range) → lengthy s ≡ true → lengthy p ≡ true → lengthy (common_of s p) ≡ true → Taken s p (common_of s p)
taken s p S P h =
    record {
      long = h;
      from_low = (max_second s.low_hz p.low_hz (low_number p P)).1;
      to_high = (min_second s.high_hz p.high_hz (high_number p P)).1;
      from_own = (max_first s.low_hz p.low_hz (low_number s S)).1;
      to_own = (min_first s.high_hz p.high_hz (high_number s S)).1;
      begins =
          max_is s.low_hz p.low_hz (λ (y : Float). lt p.low_hz y ≡ true → y ≡ s.low_hz) (λ _. refl)
          (λ k. absurd (lt_both p.low_hz p.low_hz k k));
      ends =
          min_is s.high_hz p.high_hz (λ (y : Float). lt y p.high_hz ≡ true → y ≡ s.high_hz) (λ _. refl)
          (λ k. absurd (lt_both p.high_hz p.high_hz k k));
    }

-- what a record shares with a piece, told
pub record Share (m : Option ℕ) (p : Range) (r : Record) (x : Range) : Type 0 where
  pub counts : is_member m r ≡ true
  pub taken : Taken (span_of r) p x

shared_stretch : (m : Option ℕ) (p : Range) (r : Record) (x : Range) → lengthy (span_of r) ≡ true → lengthy p ≡ true
    → shared_with m p r ≡ Some x → Share m p r x
unfolding shared_with
shared_stretch m p r x S P e = go (is_member m r) refl (lengthy (common_of (span_of r) p)) refl e
  where
    go :
        (a : Bool) → is_member m r ≡ a → (b : Bool) → lengthy (common_of (span_of r) p) ≡ b
        → cond a (cond b (Some (common_of (span_of r) p)) None) None ≡ Some x → Share m p r x
    go true k true f q =
        let y : common_of (span_of r) p ≡ x = cc in
        record { counts = k; taken = subst (Taken (span_of r) p) y (taken (span_of r) p S P f) }
    go true k false f q = absurd (let z : ◌≡◌ {A = ℕ} 0 1 = cc in omega arith)
    go false k b f q = absurd (let z : ◌≡◌ {A = ℕ} 0 1 = cc in omega arith)

shared_nothing : (m : Option ℕ) (p : Range) (r : Record) → is_member m r ≡ true → shared_with m p r ≡ None → share_of (span_of r) p ≡ false
unfolding shared_with
shared_nothing m p r k e = go (lengthy (common_of (span_of r) p)) refl (ap (λ (a : Bool). cond a (cond (lengthy (common_of (span_of r) p))
    (Some (common_of (span_of r) p)) None) None) (sym k) ∙ e)
  where
    go : (b : Bool) → lengthy (common_of (span_of r) p) ≡ b → cond b (Some (common_of (span_of r) p)) None ≡ None → share_of (span_of r) p ≡ false
    go true f q = absurd (let z : ◌≡◌ {A = ℕ} 0 1 = cc in omega arith)
    go false f q = f

-- ---- members of lists

pub in_left : {A : Type 0} (x : A) (xs ys : List A) → In x xs → In x (xs ++ ys)
in_left x [] ys i = elim i [ ]
in_left x (y ∷ xs) ys (inl e) = inl e
in_left x (y ∷ xs) ys (inr i) = inr (in_left x xs ys i)

pub in_right : {A : Type 0} (x : A) (xs ys : List A) → In x ys → In x (xs ++ ys)
in_right x [] ys i = i
in_right x (y ∷ xs) ys i = inr (in_right x xs ys i)

pub in_either : {A : Type 0} (x : A) (xs ys : List A) → In x (xs ++ ys) → In x xs ⊎ In x ys
in_either x [] ys i = inr i
in_either x (y ∷ xs) ys (inl e) = inl (inl e)
in_either x (y ∷ xs) ys (inr i) = go (in_either x xs ys i)
  where
    go : In x xs ⊎ In x ys → In x (y ∷ xs) ⊎ In x ys
    go (inl i) = inl (inr i)
    go (inr i) = inr i

pub in_every : {A : Type 0} (P : A → Type 0) (x : A) (xs : List A) → Every P xs → In x xs → P x
in_every P x [] e i = elim i [ ]
in_every P x (y ∷ xs) e (inl q) = subst P (sym q) e.0
in_every P x (y ∷ xs) e (inr i) = in_every P x xs e.1 i

-- ---- the parts beside a stretch

module _ (s p x : Range) (P : lengthy p ≡ true) (T : Taken s p x) where
  under_held : lengthy (under p x) ≡ true → holds_of p (under p x) ≡ true
  under_held U =
      held p (under p x) P U (not_self p.low_hz (low_number p P))
      (lt_le x.low_hz p.high_hz
      (lt_not x.low_hz x.high_hz p.high_hz (high_number p P) T.long T.to_high))

  over_held : lengthy (over p x) ≡ true → holds_of p (over p x) ≡ true
  over_held O =
      held p (over p x) P O
      (lt_le p.low_hz x.high_hz
      (not_lt p.low_hz x.low_hz x.high_hz (low_number p P) T.from_low T.long))
      (not_self p.high_hz (high_number p P))

  -- neither shares a stretch with the range
  under_clear : lengthy s ≡ true → lengthy (under p x) ≡ true → share_of s (under p x) ≡ false
  under_clear S U =
      apart_above s (under p x) S U
      (ap (λ (y : Float). lt s.low_hz y) (T.begins U) ∙ not_self s.low_hz (low_number s S))

  over_clear : lengthy s ≡ true → lengthy (over p x) ≡ true → share_of s (over p x) ≡ false
  over_clear S O =
      apart_below s (over p x) S O
      (ap (λ (y : Float). lt y s.high_hz) (T.ends O) ∙ not_self s.high_hz (high_number s S))

-- ---- what is left

module _ (at : ℕ → Record) (m : Option ℕ) where
  -- the records from i on below n that count are of positive length
  abbrev pub Lengthy : ℕ → ℕ → Type 0
  Lengthy n i = (j : ℕ) → i ≤ j → j < i + n → lengthy (span_of (at j)) ≡ true

  -- a range shares no stretch with any of them that counts
  abbrev pub ClearFrom : ℕ → ℕ → Range → Type 0
  ClearFrom n i r = (j : ℕ) → i ≤ j → j < i + n → is_member m (at j) ≡ true → share_of (span_of (at j)) r ≡ false

  pub record Sound (n i : ℕ) (p g : Range) : Type 0 where
    pub long : lengthy g ≡ true
    pub inside : holds_of p g ≡ true
    pub clear : ClearFrom n i g

  -- what is left of a part of p, seen from p
  rises :
      (n i : ℕ) (p q g : Range) → lengthy p ≡ true → lengthy q ≡ true → holds_of p q ≡ true → lengthy (span_of (at i)) ≡ true
      → (is_member m (at i) ≡ true → share_of (span_of (at i)) q ≡ false) → Sound n (suc i) q g → Sound (suc n) i p g
  rises n i p q g P Q h S c s =
      record {
        long = s.long;
        inside = holds_trans p q g P Q s.long h s.inside;
        clear = λ j a b.
            from_here i j a (λ (k : ℕ). is_member m (at k) ≡ true → share_of (span_of (at k)) g ≡ false)
            (λ k. share_part (span_of (at i)) q g S Q s.long s.inside (c k)) (λ d. s.clear j d (omega arith));
      }

  part_every : (F : Range → List Range) (W : Range → Type 0) (q : Range) → (lengthy q ≡ true → Every W (F q)) → Every W (of_part F q)
  part_every F W q f = go (lengthy q) refl
    where
      go : (b : Bool) → lengthy q ≡ b → Every W (cond b (F q) [])
      go true e = f e
      go false e = tt

  -- No gap overlaps a range that counts, and each lies in the piece.
  pub left_sound : (n i : ℕ) (p : Range) → lengthy p ≡ true → Lengthy n i → Every (Sound n i p) (left_from at m n i p)
  unfolding left_from
  left_sound zero i p P L = (record { long = P; inside = holds_self p P; clear = λ j a b. absurd (omega arith) }, tt)
  left_sound (suc n) i p P L = go (λ q Q. left_sound n (suc i) q Q (λ j a b. L j (omega arith) (omega arith))) (shared_with m p (at i)) refl
    where
      S : lengthy (span_of (at i)) ≡ true
      S = L i (omega arith) (omega arith)

      go :
          ((q : Range) → lengthy q ≡ true → Every (Sound n (suc i) q) (left_from at m n (suc i) q))
          → (s : Option Range) → shared_with m p (at i) ≡ s
          → Every (Sound (suc n) i p)
          (on_shared s (λ x. of_part (left_from at m n (suc i)) (under p x) ++ of_part (left_from at m n (suc i)) (over p x)) (left_from at m n (suc i) p))
      go rec (Some x) e =
          let T = (shared_stretch m p (at i) x S P e).taken in
          every_append (Sound (suc n) i p) (of_part (left_from at m n (suc i)) (under p x)) (of_part (left_from at m n (suc i)) (over p x))
          (part_every (left_from at m n (suc i)) (Sound (suc n) i p) (under p x)
          (λ U. every_map (Sound n (suc i) (under p x)) (Sound (suc n) i p)
          (λ g s. rises n i p (under p x) g P U (under_held (span_of (at i)) p x P T U) S (λ _. under_clear (span_of (at i)) p x P T S U) s)
          (left_from at m n (suc i) (under p x)) (rec (under p x) U)))
          (part_every (left_from at m n (suc i)) (Sound (suc n) i p) (over p x)
          (λ O. every_map (Sound n (suc i) (over p x)) (Sound (suc n) i p)
          (λ g s. rises n i p (over p x) g P O (over_held (span_of (at i)) p x P T O) S (λ _. over_clear (span_of (at i)) p x P T S O) s)
          (left_from at m n (suc i) (over p x)) (rec (over p x) O)))
      go rec None e =
          every_map (Sound n (suc i) p) (Sound (suc n) i p)
          (λ g s. rises n i p p g P P (holds_self p P) S (λ k. shared_nothing m p (at i) k e) s)
          (left_from at m n (suc i) p) (rec p P)

  -- ---- every frequency of the piece lies in a gap or in a range that counts

  pub record InRange (n i : ℕ) (y : Float) : Type 0 where
    pub index : ℕ
    pub after : i ≤ index
    pub before : index < i + n
    pub counts : is_member m (at index) ≡ true
    pub inside : lies y (span_of (at index)) ≡ true

  later : (n i : ℕ) (y : Float) (gs : List Range) → InGap y gs ⊎ InRange n (suc i) y → InGap y gs ⊎ InRange (suc n) i y
  later n i y gs (inl g) = inl g
  later n i y gs (inr r) =
      inr (record {
        index = r.index;
        after = omega (arith, r.after);
        before = omega (arith, r.before);
        counts = r.counts;
        inside = r.inside;
      })

  -- found in a part, it is found beside the stretch
  in_under : (F : Range → List Range) (q o : Range) (g : Range) → lengthy q ≡ true → In g (F q) → In g (of_part F q ++ of_part F o)
  in_under F q o g Q h = in_left g (of_part F q) (of_part F o) (rw Q h)

  in_over : (F : Range → List Range) (q o : Range) (g : Range) → lengthy o ≡ true → In g (F o) → In g (of_part F q ++ of_part F o)
  in_over F q o g O h = in_right g (of_part F q) (of_part F o) (rw O h)

  moved : (n i : ℕ) (y : Float) (gs hs : List Range) → ((g : Range) → In g gs → In g hs) → InGap y gs ⊎ InRange n i y → InGap y hs ⊎ InRange n i y
  moved n i y gs hs f (inl g) = inl (record { gap = g.gap; listed = f g.gap g.listed; inside = g.inside })
  moved n i y gs hs f (inr r) = inr r

  pub left_covers :
      (n i : ℕ) (p : Range) → lengthy p ≡ true → Lengthy n i → (y : Float) → is_nan y ≡ false → lt y p.low_hz ≡ false
      → lt p.high_hz y ≡ false → InGap y (left_from at m n i p) ⊎ InRange n i y
  unfolding left_from
  left_covers zero i p P L y N a b =
      inl (record {
        gap = p;
        listed = inl refl;
        inside = and_of (not_above_le p.low_hz y (low_number p P) N a) (not_above_le y p.high_hz N (high_number p P) b);
      })
  left_covers (suc n) i p P L y N a b =
      go (λ q Q. left_covers n (suc i) q Q (λ j a b. L j (omega arith) (omega arith)) y N) (shared_with m p (at i)) refl
    where
      S : lengthy (span_of (at i)) ≡ true
      S = L i (omega arith) (omega arith)

      F : Range → List Range
      F = left_from at m n (suc i)

      go :
          ((q : Range) → lengthy q ≡ true → lt y q.low_hz ≡ false → lt q.high_hz y ≡ false → InGap y (F q) ⊎ InRange n (suc i) y)
          → (s : Option Range) → shared_with m p (at i) ≡ s
          → InGap y (on_shared s (λ x. of_part F (under p x) ++ of_part F (over p x)) (F p)) ⊎ InRange (suc n) i y
      go rec None e = later n i y (F p) (rec p P a b)
      go rec (Some x) e = split (lt y x.low_hz) refl (lt x.high_hz y) refl
        where
          H : Share m p (at i) x
          H = shared_stretch m p (at i) x S P e

          s : Range
          s = span_of (at i)

          split :
              (u : Bool) → lt y x.low_hz ≡ u → (o : Bool) → lt x.high_hz y ≡ o
              → InGap y (of_part F (under p x) ++ of_part F (over p x)) ⊎ InRange (suc n) i y
          split true u o v =
              let U : lengthy (under p x) ≡ true = not_lt p.low_hz y x.low_hz (low_number p P) a u in
              later n i y (of_part F (under p x) ++ of_part F (over p x))
              (moved n (suc i) y (F (under p x)) (of_part F (under p x) ++ of_part F (over p x)) (λ g. in_under F (under p x) (over p x) g U)
              (rec (under p x) U a (lt_le y x.low_hz u)))
          split false u true v =
              let O : lengthy (over p x) ≡ true = lt_not x.high_hz y p.high_hz (high_number p P) v b in
              later n i y (of_part F (under p x) ++ of_part F (over p x))
              (moved n (suc i) y (F (over p x)) (of_part F (under p x) ++ of_part F (over p x)) (λ g. in_over F (under p x) (over p x) g O)
              (rec (over p x) O (lt_le x.high_hz y v) b))
          split false u false v =
              inr (record {
                index = i;
                after = omega arith;
                before = omega arith;
                counts = H.counts;
                inside =
                    and_of
                    (not_above_le s.low_hz y (low_number s S) N
                    (not_lt_trans y x.low_hz s.low_hz N (low_number x H.taken.long) (low_number s S) u H.taken.from_own))
                    (not_above_le y s.high_hz N (high_number s S)
                    (not_lt_trans s.high_hz x.high_hz y (high_number s S) (high_number x H.taken.long) N H.taken.to_own v));
              })

  -- ---- a bare stretch of the piece lies in a gap

  pub left_longest :
      (n i : ℕ) (p : Range) → lengthy p ≡ true → Lengthy n i → (r : Range) → lengthy r ≡ true → holds_of p r ≡ true → ClearFrom n i r
      → HeldBy r (left_from at m n i p)
  unfolding left_from
  left_longest zero i p P L r R h c = record { gap = p; listed = inl refl; holds = h }
  left_longest (suc n) i p P L r R h c =
      go (λ q Q k. left_longest n (suc i) q Q (λ j a b. L j (omega arith) (omega arith)) r R k (λ j a b. c j (omega arith) (omega arith)))
      (shared_with m p (at i)) refl
    where
      S : lengthy (span_of (at i)) ≡ true
      S = L i (omega arith) (omega arith)

      F : Range → List Range
      F = left_from at m n (suc i)

      go :
          ((q : Range) → lengthy q ≡ true → holds_of q r ≡ true → HeldBy r (F q)) → (s : Option Range) → shared_with m p (at i) ≡ s
          → HeldBy r (on_shared s (λ x. of_part F (under p x) ++ of_part F (over p x)) (F p))
      go rec None e = rec p P h
      go rec (Some x) e = split (lt x.low_hz r.high_hz) refl (lt r.low_hz x.high_hz) refl
        where
          H : Share m p (at i) x
          H = shared_stretch m p (at i) x S P e

          s : Range
          s = span_of (at i)

          split :
              (u : Bool) → lt x.low_hz r.high_hz ≡ u → (o : Bool) → lt r.low_hz x.high_hz ≡ o
              → HeldBy r (of_part F (under p x) ++ of_part F (over p x))
          split false u o v =
              let U : lengthy (under p x) ≡ true =
              lt_not p.low_hz r.high_hz x.low_hz (low_number x H.taken.long)
              (not_lt p.low_hz r.low_hz r.high_hz (low_number p P) (held_low p r h) R) u in
              let w = rec (under p x) U (held (under p x) r U R (held_low p r h) u) in
              record { gap = w.gap; listed = in_under F (under p x) (over p x) w.gap U w.listed; holds = w.holds }
          split true u false v =
              let O : lengthy (over p x) ≡ true =
              lt_not x.high_hz r.high_hz p.high_hz (high_number p P)
              (not_lt x.high_hz r.low_hz r.high_hz (high_number x H.taken.long) v R) (held_high p r h) in
              let w = rec (over p x) O (held (over p x) r O R v (held_high p r h)) in
              record { gap = w.gap; listed = in_over F (under p x) (over p x) w.gap O w.listed; holds = w.holds }
          split true u true v =
              absurd
              (true≢false
              (sym (shares_of s r S R (not_lt s.low_hz x.low_hz r.high_hz (low_number s S) H.taken.from_own u)
              (lt_not r.low_hz x.high_hz s.high_hz (high_number s S) v H.taken.to_own))
              ∙ c i (omega arith) (omega arith) H.counts))

  -- ---- two gaps do not touch

  -- one after the other, with all of the first up to a and all of the second from b on
  abbrev UpTo : Float → Range → Type 0
  UpTo a g = (is_nan g.high_hz ≡ false) × (lt a g.high_hz ≡ false)

  abbrev FromOn : Float → Range → Type 0
  FromOn b h = (is_nan h.low_hz ≡ false) × (lt h.low_hz b ≡ false)

  apart_append : (a b : Float) → lt a b ≡ true → (gs hs : List Range) → Every (UpTo a) gs → Every (FromOn b) hs → Apart gs → Apart hs → Apart (gs ++ hs)
  apart_append a b h [] hs e f A B = B
  apart_append a b h (g ∷ gs) hs e f A B = (
    every_append (below g) gs hs A.0
        (every_map (FromOn b) (below g)
        (λ k w. lt_not g.high_hz b k.low_hz w.0 (not_lt g.high_hz a b e.0.0 e.0.1 h) w.1) hs f),
    apart_append a b h gs hs e.1 f A.1 B,
  )

  part_apart : (F : Range → List Range) (q : Range) → (lengthy q ≡ true → Apart (F q)) → Apart (of_part F q)
  part_apart F q f = go (lengthy q) refl
    where
      go : (b : Bool) → lengthy q ≡ b → Apart (cond b (F q) [])
      go true e = f e
      go false e = tt

  pub left_apart : (n i : ℕ) (p : Range) → lengthy p ≡ true → Lengthy n i → Apart (left_from at m n i p)
  unfolding left_from
  left_apart zero i p P L = (tt, tt)
  left_apart (suc n) i p P L =
      go (λ q Q. left_apart n (suc i) q Q (λ j a b. L j (omega arith) (omega arith)))
      (λ q Q. left_sound n (suc i) q Q (λ j a b. L j (omega arith) (omega arith))) (shared_with m p (at i)) refl
    where
      F : Range → List Range
      F = left_from at m n (suc i)

      go :
          ((q : Range) → lengthy q ≡ true → Apart (F q)) → ((q : Range) → lengthy q ≡ true → Every (Sound n (suc i) q) (F q))
          → (s : Option Range) → shared_with m p (at i) ≡ s → Apart (on_shared s (λ x. of_part F (under p x) ++ of_part F (over p x)) (F p))
      go rec sound None e = rec p P
      go rec sound (Some x) e =
          let H = shared_stretch m p (at i) x (L i (omega arith) (omega arith)) P e in
          apart_append x.low_hz x.high_hz H.taken.long (of_part F (under p x)) (of_part F (over p x))
          (part_every F (UpTo x.low_hz) (under p x)
          (λ U. every_map (Sound n (suc i) (under p x)) (UpTo x.low_hz) (λ g w. (
            high_number g w.long,
            held_high (under p x) g
                w.inside,
          )) (F (under p x)) (sound (under p x) U)))
          (part_every F (FromOn x.high_hz) (over p x)
          (λ O. every_map (Sound n (suc i) (over p x)) (FromOn x.high_hz) (λ g w. (
            low_number g w.long,
            held_low (over p x) g
                w.inside,
          )) (F (over p x)) (sound (over p x) O)))
          (part_apart F (under p x) (rec (under p x)))
          (part_apart F (over p x) (rec (over p x)))
