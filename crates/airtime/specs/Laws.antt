-- What the pass over a run knows at each record, and that its totals are those worked out afresh.
use Prim.Native.Nat.{ℕ, zero, suc, ◌+◌, ◌-◌, ◌<◌, ◌≤◌}
use Rattle.std.specs.Prelude.{Bool, true, false, cond, ◌&&◌, ◌≡◌, eqb, leb, ltb, drop, get_or, replicate, set, Ok, Err}
use mathlib.Core.List.{List, [], ◌∷◌, ◌++◌, append_assoc, append-nil}
use Rattle.std.proofs.Math.Path.{refl, ap}
use Rattle.std.proofs.Common.{sym, ◌∙◌, le_trans, length-append, length-set, drop_of_length-le, drop-cons, get_or-set_same, get_or-set_other}
use Rattle.std.proofs.Math.Decide.{dec_le}
use native.Mathlib.Omega.{arith}
use borrow.Author.Tests.{lt-leb, le-leb, ltb-false, eq-eqb, ne_eqb, leb-true, eqb-true, eqb-false}
use Rattle.std.proofs.Math.ListN.{length}
use Rattle.std.proofs.lemmas.List.{length-replicate, get_or-replicate, set_at}
use Rattle.scan.specs.Laws.{some_false, and_true}
use Rattle.lists.specs.Each.{each}
use Rattle.codes.specs.declared.Refusal.TheVariants as refusal
use Rattle.airtime.specs.Airtime.{sum, recent, of_band, total_of, totals_of, falls_of, runs_fit, Totalled}
use Rattle.airtime.specs.Sum.{sum_next, sum_grows, sum_few, sum_from}

-- ---- runs in order, of one length

-- no start lies below an earlier one
abbrev pub InOrder : List ℕ → Type 0
InOrder starts = (i k : ℕ) → i ≤ k → k < length starts → get_or starts i 0 ≤ get_or starts k 0

order_next : (starts : List ℕ) → falls_of starts ≡ false → (k : ℕ) → k + 1 < length starts → get_or starts k 0 ≤ get_or starts (k + 1) 0
unfolding falls_of
order_next starts e k h =
    ltb-false (get_or starts (k + 1) 0) (get_or starts k 0)
    (some_false (λ (i : ℕ). ltb (get_or starts (i + 1) 0) (get_or starts i 0)) (length starts - 1) e k (omega arith))

pub in_order : (starts : List ℕ) → falls_of starts ≡ false → InOrder starts
in_order starts e i zero a h = let z : i ≡ 0 = omega arith in rw z (omega arith)
in_order starts e i (suc k) a h = go (dec_le i k) (λ b. in_order starts e i k b (omega arith))
  where
    go : Dec (i ≤ k) → (i ≤ k → get_or starts i 0 ≤ get_or starts k 0) → get_or starts i 0 ≤ get_or starts (suc k) 0
    go (yes b) r =
        let s : suc k ≡ k + 1 = omega arith in
        let n = order_next starts e k (omega arith) in
        rw s (le_trans (r b) n)
    go (no b) r = let s : i ≡ suc k = omega arith in rw s (omega arith)

pub record Even (starts bands seconds : List ℕ) : Type 0 where
  pub few : length starts ≤ 65536
  pub order : InOrder starts
  pub band_each : length bands ≡ length starts
  pub second_each : length seconds ≡ length starts

pub record Fitting (starts bands seconds lent : ℕ) : Type 0 where
  pub few : starts ≤ 65536
  pub band_each : bands ≡ starts
  pub second_each : seconds ≡ starts
  pub lent_each : lent ≡ starts

pub fitting : (starts bands seconds lent : ℕ) → runs_fit starts bands seconds lent ≡ true → Fitting starts bands seconds lent
fitting starts bands seconds lent e =
    let a = and_true (leb starts 65536) (eqb bands starts && (eqb seconds starts && eqb lent starts)) e in
    let b = and_true (eqb bands starts) (eqb seconds starts && eqb lent starts) a.1 in
    let c = and_true (eqb seconds starts) (eqb lent starts) b.1 in
    record {
      few = leb-true starts 65536 a.0;
      band_each = eqb-true bands starts b.0;
      second_each = eqb-true seconds starts c.0;
      lent_each = eqb-true lent starts c.1;
    }

-- ---- the totals of the bands

module _ (starts bands seconds : List ℕ) where
  -- what is held before record i: of each band the seconds from the tail on. What lies before the tail counts for no record from i on.
  pub record Held (i tail : ℕ) (held : List ℕ) : Type 0 where
    pub size : length held ≡ 256
    pub within : tail ≤ i
    pub past : (j k : ℕ) → j < tail → i ≤ k → k < length starts → get_or starts j 0 + 599 < get_or starts k 0
    pub sums : (b : ℕ) → b < 256 → get_or held b 0 + sum tail (of_band bands seconds b) ≡ sum i (of_band bands seconds b)

  -- and the tail counts
  pub record Trimmed (i tail : ℕ) (held : List ℕ) : Type 0 where
    pub sliding : Held i tail held
    pub near : get_or starts i 0 ≤ get_or starts tail 0 + 599

  pub trimmed : (i tail : ℕ) (held : List ℕ) → Held i tail held → get_or starts i 0 - get_or starts tail 0 ≤ 599 → Trimmed i tail held
  trimmed i tail held s h = record { sliding = s; near = omega arith }

  -- the record itself counts
  pub trimmed_here : (i tail : ℕ) (held : List ℕ) → Held i tail held → i ≤ tail → Trimmed i tail held
  trimmed_here i tail held s h =
      let e : tail ≡ i = omega (arith, s.within) in
      record { sliding = s; near = rw e (omega arith) }

  pub slide_none : Held 0 0 (replicate 256 0)
  slide_none =
      record {
        size = length-replicate {A = ℕ} 256 0;
        within = omega arith;
        past = λ j k a b c. absurd (omega arith);
        sums = λ b h. ap (λ (x : ℕ). x + sum 0 (of_band bands seconds b)) (get_or-replicate {A = ℕ} 256 b 0 0 h) ∙ omega arith;
      }

  -- the seconds of a record, in the sum of its band and in others
  own : (j : ℕ) → of_band bands seconds (get_or bands j 0) j ≡ get_or seconds j 0
  own j = ap (λ (t : Bool). cond t (get_or seconds j 0) 0) (eq-eqb (get_or bands j 0) (get_or bands j 0) refl)

  other : (b j : ℕ) → (get_or bands j 0 ≡ b → ⊥) → of_band bands seconds b j ≡ 0
  other b j h = ap (λ (t : Bool). cond t (get_or seconds j 0) 0) (ne_eqb (get_or bands j 0) b h)

  -- an element of what is held, after a store
  stored : (held : List ℕ) (band x b : ℕ) → band < length held → (P : ℕ → ℕ → Type 0) → P band x → ((b ≡ band → ⊥) → P b (get_or held b 0))
      → P b (get_or (set held band x) b 0)
  stored held band x b h P p q = go (eqb b band) refl
    where
      go : (t : Bool) → eqb b band ≡ t → P b (get_or (set held band x) b 0)
      go true e = rw (eqb-true b band e) (rw (get_or-set_same held band x 0 h) p)
      go false e = rw (get_or-set_other held band b x 0 (eqb-false b band e)) (q (eqb-false b band e))

  module _ (i tail : ℕ) (held : List ℕ) (s : Held i tail held) where
    -- a record that the tail passes is in its band's total
    pub tail_enough : tail < i → get_or bands tail 0 < 256 → get_or seconds tail 0 ≤ get_or held (get_or bands tail 0) 0
    tail_enough h k =
        let f = of_band bands seconds (get_or bands tail 0) in
        omega (arith, s.sums (get_or bands tail 0) k, sum_grows (tail + 1) i f (omega arith), sum_next tail f, own tail)

    pub tail_step : tail < i → i < length starts → InOrder starts → get_or bands tail 0 < 256 → get_or starts tail 0 + 599 < get_or starts i 0
        → Held i (tail + 1) (set held (get_or bands tail 0) (get_or held (get_or bands tail 0) 0 - get_or seconds tail 0))
    tail_step h n o k t =
        let band = get_or bands tail 0 in
        let x = get_or held band 0 - get_or seconds tail 0 in
        record {
          size = length-set held band x ∙ s.size;
          within = omega arith;
          past = λ j m a b c. go j m a b c (dec_le tail j);
          sums = λ b m. stored held band x b (omega (arith, s.size))
              (λ (b : ℕ) (y : ℕ). y + sum (tail + 1) (of_band bands seconds b) ≡ sum i (of_band bands seconds b))
              (omega (arith, s.sums band k, sum_next tail (of_band bands seconds band), own tail, tail_enough h k))
              (λ e. omega (arith, s.sums b m, sum_next tail (of_band bands seconds b), other b tail (λ f. e (sym f))));
        }
      where
        go : (j m : ℕ) → j < tail + 1 → i ≤ m → m < length starts → Dec (tail ≤ j) → get_or starts j 0 + 599 < get_or starts m 0
        go j m a b c (yes d) =
            let e : j ≡ tail = omega arith in
            rw e (omega (arith, t, o i m b c))
        go j m a b c (no d) = s.past j m (omega arith) b c

    -- the record itself joins its band's total
    pub own_step : get_or bands i 0 < 256
        → Held (i + 1) tail (set held (get_or bands i 0) (get_or held (get_or bands i 0) 0 + get_or seconds i 0))
    own_step k =
        let band = get_or bands i 0 in
        let x = get_or held band 0 + get_or seconds i 0 in
        record {
          size = length-set held band x ∙ s.size;
          within = omega (arith, s.within);
          past = λ j m a b c. s.past j m a (omega arith) c;
          sums = λ b m. stored held band x b (omega (arith, s.size))
              (λ (b : ℕ) (y : ℕ). y + sum tail (of_band bands seconds b) ≡ sum (i + 1) (of_band bands seconds b))
              (omega (arith, s.sums band k, sum_next i (of_band bands seconds band), own i))
              (λ e. omega (arith, s.sums b m, sum_next i (of_band bands seconds b), other b i (λ f. e (sym f))));
        }

    -- what is held stays below 2^32
    pub held_few : ((j : ℕ) → get_or seconds j 0 < 65536) → i ≤ 65536 → (b : ℕ) → b < 256 → get_or held b 0 ≤ 4294967295
    held_few n h b m =
        let f = of_band bands seconds b in
        let a = sum_few i 65535 f (λ j. few j (get_or bands j 0)) in
        omega (arith, s.sums b m, a)
      where
        few : (j c : ℕ) → cond (eqb c b) (get_or seconds j 0) 0 ≤ 65535
        few j c = go (eqb c b) (n j)
          where
            go : (t : Bool) → get_or seconds j 0 < 65536 → cond t (get_or seconds j 0) 0 ≤ 65535
            go true p = omega arith
            go false p = omega arith

  -- ---- a record's total

  -- where the tail counts, the band's total with the record itself is the total worked out afresh
  pub total_is : (i tail : ℕ) (held : List ℕ) → Trimmed i tail held → i < length starts → InOrder starts → get_or bands i 0 < 256
      → get_or held (get_or bands i 0) 0 + get_or seconds i 0 ≡ total_of starts bands seconds i
  unfolding total_of
  total_is i tail held t h o k =
      let s = t.sliding in
      let f = of_band bands seconds (get_or bands i 0) in
      let e : suc i ≡ i + 1 = omega arith in
      let a = sum_from tail (suc i) (recent starts i) f (omega (arith, s.within))
      (λ j p. lt-leb (get_or starts i 0) (get_or starts j 0 + 599) (s.past j i p (omega arith) h))
      (λ j p q. le-leb (get_or starts i 0) (get_or starts j 0 + 599) (omega (arith, t.near, o tail j p (omega arith)))) in
      let b : sum (suc i) f ≡ sum i f + f i = ap (λ (n : ℕ). sum n f) e ∙ sum_next i f in
      omega (arith, a, b, s.sums (get_or bands i 0) k, own i)

-- ---- the totals, one after the other

length_ones : (n : ℕ) (f : ℕ → ℕ) → length (each n (λ (i : ℕ). f i ∷ [])) ≡ n
unfolding each
length_ones zero f = refl
length_ones (suc n) f =
    length-append (each n (λ (i : ℕ). f i ∷ [])) (f n ∷ []) ∙ ap (λ (k : ℕ). k + 1) (length_ones n f) ∙ omega arith

one_more : (n : ℕ) (f : ℕ → ℕ) (l : List ℕ) → each n (λ (i : ℕ). f i ∷ []) ++ (f n ∷ l) ≡ each (n + 1) (λ (i : ℕ). f i ∷ []) ++ l
unfolding each
one_more n f l =
    let e : n + 1 ≡ suc n = omega arith in
    rw e (sym (append_assoc (each n (λ (i : ℕ). f i ∷ [])) (f n ∷ []) l))

module _ (starts bands seconds lent : List ℕ) where
  -- the totals of the records before i, and behind them what was lent
  pub record Filling (i : ℕ) (left : List ℕ) : Type 0 where
    pub same : length left ≡ length lent
    pub held : left ≡ each i (λ (k : ℕ). total_of starts bands seconds k ∷ []) ++ drop i lent

  pub fill_none : Filling 0 lent
  unfolding each
  fill_none = record { same = refl; held = refl }

  pub fill_step : (i x : ℕ) (left : List ℕ) → Filling i left → i < length lent → x ≡ total_of starts bands seconds i → Filling (i + 1) (set left i x)
  fill_step i x left f h e =
      let done = each i (λ (k : ℕ). total_of starts bands seconds k ∷ []) in
      let s : suc i ≡ i + 1 = omega arith in
      record {
        same = length-set left i x ∙ f.same;
        held =
            ap (λ (l : List ℕ). set l i x) f.held
            ∙ ap (λ (l : List ℕ). set (done ++ l) i x) (drop-cons lent i 0 h)
            ∙ set_at done (get_or lent i 0) (drop (suc i) lent) x i (length_ones i (total_of starts bands seconds))
            ∙ ap (λ (y : ℕ). done ++ (y ∷ drop (suc i) lent)) e
            ∙ one_more i (total_of starts bands seconds) (drop (suc i) lent)
            ∙ ap (λ (k : ℕ). each (i + 1) (λ (k : ℕ). total_of starts bands seconds k ∷ []) ++ drop k lent) s;
      }

  pub fill_done :
      (i : ℕ) (left : List ℕ) → Filling i left → i ≤ length starts → length starts ≤ i → length lent ≡ length starts
      → left ≡ totals_of starts bands seconds
  unfolding totals_of
  fill_done i left f a b e =
      let s : i ≡ length starts = omega arith in
      let n : length lent ≤ i = omega arith in
      f.held ∙ ap (λ (l : List ℕ). each i (λ (k : ℕ). total_of starts bands seconds k ∷ []) ++ l) (drop_of_length-le lent n)
      ∙ append-nil (each i (λ (k : ℕ). total_of starts bands seconds k ∷ []))
      ∙ ap (λ (n : ℕ). each n (λ (k : ℕ). total_of starts bands seconds k ∷ [])) s

  -- ---- the answer

  pub totalled_falls : falls_of starts ≡ true → Totalled starts bands seconds lent lent (Err refusal.Starts)
  totalled_falls e = record { answered = rw e; elements = rw e }

  pub totalled_uneven :
      falls_of starts ≡ false → runs_fit (length starts) (length bands) (length seconds) (length lent) ≡ false
      → Totalled starts bands seconds lent lent (Err refusal.Runs)
  totalled_uneven e f = record { answered = rw e (rw f); elements = rw e (rw f) }

  pub totalled_all :
      (left : List ℕ) → falls_of starts ≡ false → runs_fit (length starts) (length bands) (length seconds) (length lent) ≡ true
      → left ≡ totals_of starts bands seconds → Totalled starts bands seconds lent left (Ok (length starts))
  totalled_all left e f h = record { answered = rw e (rw f); elements = rw e (rw f h) }
