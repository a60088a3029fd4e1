-- With room for all, rows that were offered one after the other stand in their order, and the bytes past them as they were; and rows are
-- read back from their bytes as they were written.
use Rattle.std.specs.Prelude.{ℕ, zero, suc, ◌+◌, ◌*◌, ◌-◌, ◌/◌, ◌≤◌, Bool, true, false, cond, List, [], ◌∷◌, ◌++◌, ◌≡◌, refl, T, length, take, drop, set, Float}
use Rattle.std.proofs.Common.{append_assoc, sym, ap, ◌∙◌, arith, length-append, length-drop, drop-drop, drop_at, take_at, length-take-le, lt-ltb}
use Rattle.std.proofs.lemmas.List.Edits.{sets, sets-eq}
use Rattle.std.proofs.Math.Seq.{drop-append-add}
use Rattle.std.specs.Float.{binary64}
use Rattle.std.specs.Float.Ieee.{fits, is_nan}
use Rattle.figures.specs.Figure.{total_less, figure_of}
use Rattle.layout.specs.Bytes.{u64_at}
use Rattle.byte_writes.specs.Bytes.{figure_bytes, little}
use Rattle.byte_writes.specs.Laws.{eight, figure_after, u64_drop}
use Rattle.lists.specs.Laws.{Every}
use Rattle.rows.specs.Rows.{row_size, insert_row, insert_all, sorted, figures_of, encode_row, encode_all, low_at}
use Rattle.lists.specs.Pour as offered
use Rattle.rows.specs.Held.{place_at, insert_from, insert_at, offer_at}
use Rattle.rows.specs.Turns.{length_row}
use Rattle.rows.specs.Pour.{pour}
use Rattle.order.specs.Total.{total_one_way, total_trans}
use Rattle.rows.specs.declared.SafeDial.{SafeDial}

unfoldable pub tail_of : SafeDial → List ℕ
tail_of x = x.band ∷ 0 ∷ little 2 x.rule

-- a row's bytes with what follows, opened at its figures
pub parts :
    (x : SafeDial) (t : List ℕ)
    → encode_row x ++ t
    ≡ figure_bytes x.segment.low_hz ++ (figure_bytes x.segment.high_hz ++ (figure_bytes x.dial_low_hz
    ++ (figure_bytes x.dial_high_hz ++ (tail_of x ++ t))))
unfolding encode_row figures_of tail_of
parts x t = simp append_assoc

pub two_figures : (a b : Float) → length (figure_bytes a ++ figure_bytes b) ≡ 16
two_figures a b = length-append (figure_bytes a) (figure_bytes b)
    ∙ (let p : length (figure_bytes a) ≡ 8 = eight a in let q : length (figure_bytes b) ≡ 8 = eight b in omega arith)

pub low_back : (x : SafeDial) (t : List ℕ) → T (fits binary64 x.dial_low_hz) → low_at (encode_row x ++ t) 0 ≡ x.dial_low_hz
low_back x t h =
    rw (parts x t)
    (rw (← append_assoc (figure_bytes x.segment.low_hz) (figure_bytes x.segment.high_hz)
    (figure_bytes x.dial_low_hz ++ (figure_bytes x.dial_high_hz ++ (tail_of x ++ t))))
    (figure_after x.dial_low_hz (figure_bytes x.segment.low_hz ++ figure_bytes x.segment.high_hz)
    (figure_bytes x.dial_high_hz ++ (tail_of x ++ t)) 16 (two_figures x.segment.low_hz x.segment.high_hz) h))

-- ---- a row put in its place

-- a lower dial is a number that a double holds
abbrev pub LowNumber : SafeDial → Type 0
LowNumber x = T (fits binary64 x.dial_low_hz) × (is_nan x.dial_low_hz ≡ false)

pub opened : (x : SafeDial) (ys : List SafeDial) → encode_all (x ∷ ys) ≡ encode_row x ++ encode_all ys
unfolding encode_all
opened x ys = refl

-- no row lies below the one before it
abbrev After : SafeDial → List SafeDial → Type 0
After x [] = Unit
After x (y ∷ ys) = total_less y.dial_low_hz x.dial_low_hz ≡ false

abbrev Rising : List SafeDial → Type 0
Rising [] = Unit
Rising (x ∷ xs) = After x xs × Rising xs

-- a place among n rows, and one row before them that is asked where all n lie above
abbrev behind : Bool → ℕ → ℕ
behind b zero = cond b 0 1
behind b (suc p) = suc (suc p)

behind_false : (p : ℕ) → behind false p ≡ suc p
behind_false zero = refl
behind_false (suc p) = refl

place_front : (key : Float) (n : ℕ) (l : List ℕ) → place_at key (suc n) l ≡ behind (total_less key (low_at l 0)) (place_at key n (drop row_size l))
unfolding place_at
place_front key zero l = refl
place_front key (suc n) l =
    ap (λ (b : Bool). cond b (place_at key (suc n) l) (suc (suc n))) same
    ∙ go (total_less key (low_at (drop row_size l) (n * row_size))) (place_front key n l)
  where
    same : total_less key (low_at l (suc n * row_size)) ≡ total_less key (low_at (drop row_size l) (n * row_size))
    same =
        let e : suc n * row_size + 16 ≡ row_size + (n * row_size + 16) = omega arith in
        ap (λ (i : ℕ). total_less key (figure_of (u64_at l i))) e
        ∙ ap (λ (v : ℕ). total_less key (figure_of v)) (sym (u64_drop l row_size (n * row_size + 16)))

    go :
        (b : Bool) → place_at key (suc n) l ≡ behind (total_less key (low_at l 0)) (place_at key n (drop row_size l))
        → cond b (place_at key (suc n) l) (suc (suc n)) ≡ behind (total_less key (low_at l 0)) (cond b (place_at key n (drop row_size l)) (suc n))
    go true e = e
    go false e = refl

module _ (y : SafeDial) (ys : List SafeDial) (rest : List ℕ) where
  bytes : encode_all (y ∷ ys) ++ rest ≡ encode_row y ++ (encode_all ys ++ rest)
  bytes = ap (λ (m : List ℕ). m ++ rest) (opened y ys) ∙ append_assoc (encode_row y) (encode_all ys) rest

  place_more :
      (key : Float) → LowNumber y
      → place_at key (suc (length ys)) (encode_all (y ∷ ys) ++ rest)
      ≡ behind (total_less key y.dial_low_hz) (place_at key (length ys) (encode_all ys ++ rest))
  place_more key f =
      let low : low_at (encode_all (y ∷ ys) ++ rest) 0 ≡ y.dial_low_hz = rw bytes (low_back y (encode_all ys ++ rest) f.0) in
      let next : drop row_size (encode_all (y ∷ ys) ++ rest) ≡ encode_all ys ++ rest =
      rw bytes (drop_at (encode_row y) (encode_all ys ++ rest) row_size (length_row y)) in
      place_front key (length ys) (encode_all (y ∷ ys) ++ rest)
      ∙ ap (λ (d : Float). behind (total_less key d) (place_at key (length ys) (drop row_size (encode_all (y ∷ ys) ++ rest)))) low
      ∙ ap (λ (m : List ℕ). behind (total_less key y.dial_low_hz) (place_at key (length ys) m)) next

-- Among rows that rise, all those after one that lies above a row lie above it.
all_above :
    (x y : SafeDial) (ys : List SafeDial) (rest : List ℕ) → LowNumber x → Every LowNumber (y ∷ ys) → Rising (y ∷ ys)
    → total_less x.dial_low_hz y.dial_low_hz ≡ true → place_at x.dial_low_hz (length ys) (encode_all ys ++ rest) ≡ 0
unfolding place_at
all_above x y [] rest g f r e = refl
all_above x y (z ∷ zs) rest g f r e =
    let t : total_less x.dial_low_hz z.dial_low_hz ≡ true =
    total_trans x.dial_low_hz y.dial_low_hz z.dial_low_hz g.1 f.0.1 f.1.0.1 e r.0 in
    place_more z zs rest x.dial_low_hz f.1.0
    ∙ ap (λ (b : Bool). behind b (place_at x.dial_low_hz (length zs) (encode_all zs ++ rest))) t
    ∙ ap (behind true) (all_above x z zs rest g f.1 r.1 t)

-- where a row goes among others: after some, before the rest
record Split (x : SafeDial) (held : List SafeDial) (rest : List ℕ) : Type 0 where
  before : List SafeDial
  after : List SafeDial
  whole : held ≡ before ++ after
  placed : place_at x.dial_low_hz (length held) (encode_all held ++ rest) ≡ length before
  put : insert_row x held ≡ before ++ (x ∷ after)

-- Among rows that rise, the place that is found from the last one down is the one before the first that lies above.
split : (x : SafeDial) (held : List SafeDial) (rest : List ℕ) → LowNumber x → Every LowNumber held → Rising held → Split x held rest
unfolding place_at insert_row
split x [] rest g f r = record { before = []; after = []; whole = refl; placed = refl; put = refl }
split x (y ∷ ys) rest g f r = go (total_less x.dial_low_hz y.dial_low_hz) refl (split x ys rest g f.1 r.1)
  where
    go :
        (b : Bool) → total_less x.dial_low_hz y.dial_low_hz ≡ b → Split x ys rest
        → Split x (y ∷ ys) rest
    go true e s =
        record {
          before = [];
          after = y ∷ ys;
          whole = refl;
          placed =
              place_more y ys rest x.dial_low_hz f.0
              ∙ ap (λ (b : Bool). behind b (place_at x.dial_low_hz (length ys) (encode_all ys ++ rest))) e
              ∙ ap (behind true) (all_above x y ys rest g f r e);
          put = rw e;
        }
    go false e s =
        record {
          before = y ∷ s.before;
          after = s.after;
          whole = ap (λ (m : List SafeDial). y ∷ m) s.whole;
          placed =
              place_more y ys rest x.dial_low_hz f.0
              ∙ ap (λ (b : Bool). behind b (place_at x.dial_low_hz (length ys) (encode_all ys ++ rest))) e
              ∙ ap (behind false) s.placed
              ∙ behind_false (length s.before);
          put = rw e (ap (λ (m : List SafeDial). y ∷ m) s.put);
        }

after_insert :
    (x y : SafeDial) (ys : List SafeDial) → total_less x.dial_low_hz y.dial_low_hz ≡ false → After y ys → After y (insert_row x ys)
unfolding insert_row
after_insert x y [] e a = e
after_insert x y (z ∷ zs) e a = go (total_less x.dial_low_hz z.dial_low_hz)
  where
    go : (b : Bool) → After y (cond b (x ∷ (z ∷ zs)) (z ∷ insert_row x zs))
    go true = e
    go false = a

-- A row put in its place keeps the rows rising.
rising_insert : (x : SafeDial) (held : List SafeDial) → LowNumber x → Every LowNumber held → Rising held → Rising (insert_row x held)
unfolding insert_row
rising_insert x [] g f r = (tt, tt)
rising_insert x (y ∷ ys) g f r = go (total_less x.dial_low_hz y.dial_low_hz) refl (rising_insert x ys g f.1 r.1)
  where
    go :
        (b : Bool) → total_less x.dial_low_hz y.dial_low_hz ≡ b → Rising (insert_row x ys)
        → Rising (cond b (x ∷ (y ∷ ys)) (y ∷ insert_row x ys))
    go true e i = (total_one_way x.dial_low_hz y.dial_low_hz g.1 f.0.1 e, r)
    go false e i = (after_insert x y ys e r.0, i)

encode_append : (xs ys : List SafeDial) → encode_all (xs ++ ys) ≡ encode_all xs ++ encode_all ys
unfolding encode_all
encode_append [] ys = refl
encode_append (x ∷ xs) ys = rw (encode_append xs ys) (sym (append_assoc (encode_row x) (encode_all xs) (encode_all ys)))

pub length_encode : (xs : List SafeDial) → length (encode_all xs) ≡ length xs * row_size
unfolding encode_all
length_encode [] = refl
length_encode (x ∷ xs) =
    let a : length (encode_all xs) ≡ length xs * row_size = length_encode xs in
    let b : length (encode_row x) ≡ row_size = length_row x in
    length-append (encode_row x) (encode_all xs) ∙ omega arith

sets_past : (a l v : List ℕ) (k : ℕ) → sets (a ++ l) (length a + k) v ≡ a ++ sets l k v
sets_past [] l v k = let e : 0 + k ≡ k = omega arith in rw e
sets_past (x ∷ a) l v k =
    let e : suc (length a) + k ≡ suc (length a + k) = omega arith in
    rw e (lift v (a ++ l) (length a + k) ∙ ap (λ (m : List ℕ). x ∷ m) (sets_past a l v k))
  where
    lift : (v l : List ℕ) (k : ℕ) → sets (x ∷ l) (suc k) v ≡ x ∷ sets l k v
    lift [] l k = refl
    lift (w ∷ v) l k = lift v (set l k w) (suc k)

-- b moved up by a row, and a row put before it
gap_front : (b c v : List ℕ) → length v ≡ row_size → row_size ≤ length c → sets (sets (b ++ c) row_size b) 0 v ≡ v ++ (b ++ drop row_size c)
gap_front b c v hv hc =
    let n : length (b ++ c) ≡ length b + length c = length-append b c in
    let m : row_size + length b ≡ length b + row_size = omega arith in
    let d : drop (row_size + length b) (b ++ c) ≡ drop row_size c = ap (λ (k : ℕ). drop k (b ++ c)) m ∙ drop-append-add b c row_size in
    let s : sets (b ++ c) row_size b ≡ take row_size (b ++ c) ++ (b ++ drop row_size c) =
    sets-eq b (b ++ c) row_size (omega arith)
    ∙ ap (λ (r : List ℕ). take row_size (b ++ c) ++ b ++ r) d
    ∙ append_assoc (take row_size (b ++ c)) b (drop row_size c) in
    let t : length (take row_size (b ++ c)) ≡ row_size = length-take-le row_size (b ++ c) (omega arith) in
    let w : length (take row_size (b ++ c) ++ (b ++ drop row_size c)) ≡ length (take row_size (b ++ c)) + length (b ++ drop row_size c) =
    length-append (take row_size (b ++ c)) (b ++ drop row_size c) in
    let z : 0 + length v ≡ row_size = omega arith in
    rw s
    (sets-eq v (take row_size (b ++ c) ++ (b ++ drop row_size c)) 0 (omega arith)
    ∙ ap (λ (k : ℕ). v ++ drop k (take row_size (b ++ c) ++ (b ++ drop row_size c))) z
    ∙ ap (λ (r : List ℕ). v ++ r) (drop_at (take row_size (b ++ c)) (b ++ drop row_size c) row_size t))

gap :
    (a b c v : List ℕ) → length v ≡ row_size → row_size ≤ length c
    → sets (sets (a ++ (b ++ c)) (length a + row_size) b) (length a) v ≡ a ++ (v ++ (b ++ drop row_size c))
gap a b c v hv hc =
    let z : length a ≡ length a + 0 = omega arith in
    ap (λ (m : List ℕ). sets m (length a) v) (sets_past a (b ++ c) b row_size)
    ∙ ap (λ (k : ℕ). sets (a ++ sets (b ++ c) row_size b) k v) z
    ∙ sets_past a (sets (b ++ c) row_size b) v 0
    ∙ ap (λ (m : List ℕ). a ++ m) (gap_front b c v hv hc)

insert_held :
    (x : SafeDial) (held : List SafeDial) (rest : List ℕ) → LowNumber x → Every LowNumber held → Rising held → row_size ≤ length rest
    → insert_at x (length held) (encode_all held ++ rest) ≡ encode_all (insert_row x held) ++ drop row_size rest
unfolding insert_at insert_from
insert_held x held rest g f r h = go (split x held rest g f r)
  where
    go : Split x held rest → insert_at x (length held) (encode_all held ++ rest) ≡ encode_all (insert_row x held) ++ drop row_size rest
    go s =
        let a = encode_all s.before in
        let b = encode_all s.after in
        let at = length s.before * row_size in
        let to = length held * row_size in
        let la : length a ≡ at = length_encode s.before in
        let lb : length b ≡ length s.after * row_size = length_encode s.after in
        let n : length held ≡ length s.before + length s.after = ap length s.whole ∙ length-append s.before s.after in
        let l : encode_all held ++ rest ≡ a ++ (b ++ rest) =
        ap (λ (m : List SafeDial). encode_all m ++ rest) s.whole
        ∙ ap (λ (m : List ℕ). m ++ rest) (encode_append s.before s.after) ∙ append_assoc a b rest in
        let moved : take (to - at) (drop at (a ++ (b ++ rest))) ≡ b =
        ap (λ (m : List ℕ). take (to - at) m) (drop_at a (b ++ rest) at la) ∙ take_at b rest (to - at) (omega arith) in
        let put : encode_all (insert_row x held) ≡ a ++ (encode_row x ++ b) =
        ap encode_all s.put ∙ encode_append s.before (x ∷ s.after) ∙ ap (λ (m : List ℕ). a ++ m) (opened x s.after) in
        ap (λ (p : ℕ). insert_from x (p * row_size) to (encode_all held ++ rest)) s.placed
        ∙ ap (λ (m : List ℕ). insert_from x at to m) l
        ∙ ap (λ (m : List ℕ). sets (sets (a ++ (b ++ rest)) (at + row_size) m) at (encode_row x)) moved
        ∙ ap (λ (k : ℕ). sets (sets (a ++ (b ++ rest)) (k + row_size) b) k (encode_row x)) (sym la)
        ∙ gap a b rest (encode_row x) (length_row x) h
        ∙ ap (λ (m : List ℕ). a ++ m) (sym (append_assoc (encode_row x) b (drop row_size rest)))
        ∙ sym (append_assoc a (encode_row x ++ b) (drop row_size rest))
        ∙ ap (λ (m : List ℕ). m ++ drop row_size rest) (sym put)

pub every_insert : (P : SafeDial → Type 0) (x : SafeDial) (held : List SafeDial) → P x → Every P held → Every P (insert_row x held)
unfolding insert_row
every_insert P x [] p q = (p, tt)
every_insert P x (y ∷ ys) p q = go (total_less x.dial_low_hz y.dial_low_hz) (every_insert P x ys p q.1)
  where
    go : (b : Bool) → Every P (insert_row x ys) → Every P (cond b (x ∷ (y ∷ ys)) (y ∷ insert_row x ys))
    go true r = (p, q)
    go false r = (q.0, r)

pub length_insert : (x : SafeDial) (held : List SafeDial) → length (insert_row x held) ≡ suc (length held)
unfolding insert_row
length_insert x [] = refl
length_insert x (y ∷ ys) = go (total_less x.dial_low_hz y.dial_low_hz) (length_insert x ys)
  where
    go : (b : Bool) → length (insert_row x ys) ≡ suc (length ys) → length (cond b (x ∷ (y ∷ ys)) (y ∷ insert_row x ys)) ≡ suc (suc (length ys))
    go true r = refl
    go false r = ap suc r

offer_held :
    (x : SafeDial) (held : List SafeDial) (rest : List ℕ) → LowNumber x → Every LowNumber held → Rising held → row_size ≤ length rest
    → offer_at x (length held) (encode_all held ++ rest) ≡ encode_all (insert_row x held) ++ drop row_size rest
unfolding offer_at
offer_held x held rest g f r h =
    let a : length (encode_all held ++ rest) ≡ length (encode_all held) + length rest = length-append (encode_all held) rest in
    let b : length (encode_all held) ≡ length held * row_size = length_encode held in
    rw (lt-ltb (length held) (length (encode_all held ++ rest) / row_size) (omega arith)) (insert_held x held rest g f r h)

pour_held :
    (ys held : List SafeDial) (rest : List ℕ) → Every LowNumber held → Rising held → Every LowNumber ys → length ys * row_size ≤ length rest
    → pour (encode_all held ++ rest) (length held) ys ≡ encode_all (insert_all held ys) ++ drop (length ys * row_size) rest
unfolding offered.pour insert_all
pour_held [] held rest f r g h = refl
pour_held (y ∷ ys) held rest f r g h =
    let n : suc (length ys) * row_size ≡ row_size + length ys * row_size = omega arith in
    let d : length (drop row_size rest) ≡ length rest - row_size = length-drop row_size rest in
    ap (λ (m : List ℕ). pour m (suc (length held)) ys) (offer_held y held rest g.0 f r (omega arith))
    ∙ ap (λ (k : ℕ). pour (encode_all (insert_row y held) ++ drop row_size rest) k ys) (sym (length_insert y held))
    ∙ pour_held ys (insert_row y held) (drop row_size rest) (every_insert LowNumber y held g.0 f) (rising_insert y held g.0 f r) g.1 (omega arith)
    ∙ ap (λ (m : List ℕ). encode_all (insert_all (insert_row y held) ys) ++ m) (drop-drop (length ys * row_size) row_size rest ∙ ap (λ (k : ℕ). drop k rest) (sym n))

-- Rows that all have room: they stand first, in their order, and every byte after them is as it was.
pub pour_all :
    (l : List ℕ) (xs : List SafeDial) → Every LowNumber xs → length xs * row_size ≤ length l
    → pour l 0 xs ≡ encode_all (sorted xs) ++ drop (length xs * row_size) l
unfolding encode_all
pour_all l xs f h = pour_held xs [] l tt tt f h
