-- What the loops that put numbers know at each turn, how long the parts of an image are, and that they stand one behind the other.
use Prim.Native.Nat.{ℕ, zero, suc, ◌+◌, ◌*◌, ◌≤◌, ◌<◌}
use Rattle.std.specs.Prelude.{Result, Ok, Err, Bool, true, false, cond, ◌≡◌, eqb}
use Rattle.codes.specs.declared.Refusal.TheVariants as refusal
use Rattle.codes.specs.Refusal.{Checked, Test, refusal_of}
use Rattle.codes.specs.declared.Refusal.{Refusal}
use mathlib.Core.List.{List, [], ◌∷◌, ◌++◌}
use Rattle.std.proofs.Math.Path.{refl, ap}
use Rattle.std.proofs.Common.{sym, ◌∙◌, le-ltb, lt-ltb, drop_of_length-le}
use Rattle.std.proofs.Math.Nat.{mul-suc}
use native.Mathlib.Omega.{arith}
use Rattle.std.proofs.Math.ListN.{length, drop, length-append}
use Rattle.std.proofs.Math.Seq.{sets, length-sets}
use Rattle.std.proofs.lemmas.List.{length-drop}
use Rattle.std.proofs.lemmas.List.Edits.{sets-eq}
use Rattle.codes.specs.Laws.{refusal_next, refusal_stays}
use Rattle.layout.specs.Layout.{general_size, trailer_size, tables}
use Rattle.layout.specs.declared.Record.{Record}
use Rattle.layout.specs.declared.General.{General}
use Rattle.lists.specs.Each.{each}
use Rattle.byte_writes.specs.Bytes.{little}
use Rattle.byte_writes.specs.Laws.{length_little, sets_next}
use Rattle.given.specs.Given.{Runs, count_from, before_from, record_from}
use Rattle.writer.specs.Image.{littles, record_bytes, block_bytes, watts_bytes, more_bytes, count_bytes, end_bytes, records_bytes, tables_at, trailer_at, image_of}
use Rattle.writer.specs.Write.{room_test, image_answer, image_bytes, Left}

-- ---- numbers one after the other

-- the bytes that numbers of these widths take
abbrev pub total : List (ℕ × ℕ) → ℕ
total [] = 0
total (x ∷ xs) = x.0 + total xs

-- what a loop knows that put the first k numbers: there is room for the rest, which make the whole
pub record Laying (l₀ : List ℕ) (at : ℕ) (xs : List (ℕ × ℕ)) (l : List ℕ) (place k : ℕ) : Type 0 where
  pub within : k ≤ length xs
  pub same : length l ≡ length l₀
  pub room : place + total (drop k xs) ≤ length l₀
  pub left : sets l place (littles (drop k xs)) ≡ sets l₀ at (littles xs)

module _ (l₀ : List ℕ) (at : ℕ) (xs : List (ℕ × ℕ)) where
  pub lay_none : at + total xs ≤ length l₀ → Laying l₀ at xs l₀ at 0
  lay_none h = record { within = omega arith; same = refl; room = h; left = refl }

  -- of the room and what is left to lay alone, at each number and behind the last
  pub left_room :
      (place k : ℕ) (x : ℕ × ℕ) → place + total (drop k xs) ≤ length l₀ → drop k xs ≡ x ∷ drop (k + 1) xs
      → place + x.0 + total (drop (k + 1) xs) ≤ length l₀
  left_room place k x h e = omega (arith, h, ap total e)

  pub left_step :
      (l : List ℕ) (place k : ℕ) (x : ℕ × ℕ) → sets l place (littles (drop k xs)) ≡ sets l₀ at (littles xs) → drop k xs ≡ x ∷ drop (k + 1) xs
      → sets (sets l place (little x.0 x.1)) (place + x.0) (littles (drop (k + 1) xs)) ≡ sets l₀ at (littles xs)
  unfolding littles
  left_step l place k x p e =
      sets_next (little x.0 x.1) (littles (drop (k + 1) xs)) l place (place + x.0) (ap (λ (i : ℕ). place + i) (length_little x.0 x.1))
      ∙ ap (λ (ys : List (ℕ × ℕ)). sets l place (littles ys)) (sym e)
      ∙ p

  pub left_done :
      (l : List ℕ) (place k : ℕ) → sets l place (littles (drop k xs)) ≡ sets l₀ at (littles xs) → length xs ≤ k → l ≡ sets l₀ at (littles xs)
  unfolding littles
  left_done l place k p h =
      ap (λ (ys : List (ℕ × ℕ)). sets l place (littles ys)) (sym (drop_of_length-le xs h)) ∙ p

  pub lay_step :
      (l : List ℕ) (place k : ℕ) (x : ℕ × ℕ) → Laying l₀ at xs l place k → drop k xs ≡ x ∷ drop (k + 1) xs
      → Laying l₀ at xs (sets l place (little x.0 x.1)) (place + x.0) (k + 1)
  lay_step l place k x p e =
      let n : length (drop k xs) ≡ suc (length (drop (k + 1) xs)) = ap length e in
      record {
        within = omega (arith, n, length-drop k xs, p.within);
        same = length-sets l place (little x.0 x.1) ∙ p.same;
        room = left_room place k x p.room e;
        left = left_step l place k x p.left e;
      }

  pub lay_done : (l : List ℕ) (place k : ℕ) → Laying l₀ at xs l place k → length xs ≤ k → l ≡ sets l₀ at (littles xs)
  lay_done l place k p h = left_done l place k p.left h

-- ---- parts of one length, one after the other

module _ (w : ℕ) (f : ℕ → List ℕ) (each-w : (i : ℕ) → length (f i) ≡ w) where
  pub each_length : (n : ℕ) → length (each n f) ≡ w * n
  unfolding each
  each_length zero = omega arith
  each_length (suc n) =
      let a : length (each n f) ≡ w * n = each_length n in
      let b : length (f n) ≡ w = each-w n in
      let c : length (each n f ++ f n) ≡ length (each n f) + length (f n) = length-append (each n f) (f n) in
      let d : w * suc n ≡ w * n + w = mul-suc w n in
      omega arith

  -- one part more
  pub part_more :
      (l₀ : List ℕ) (at : ℕ) (l : List ℕ) (k : ℕ) → l ≡ sets l₀ at (each k f) → sets l (at + w * k) (f k) ≡ sets l₀ at (each (k + 1) f)
  unfolding each
  part_more l₀ at l k g =
      let s : suc k ≡ k + 1 = omega arith in
      ap (λ (m : List ℕ). sets m (at + w * k) (f k)) g
      ∙ sets_next (each k f) (f k) l₀ at (at + w * k) (ap (λ (i : ℕ). at + i) (each_length k))
      ∙ ap (λ (i : ℕ). sets l₀ at (each i f)) s

  -- what a loop knows that put the first k of so many parts
  pub record Gathered (l₀ : List ℕ) (at count : ℕ) (l : List ℕ) (k : ℕ) : Type 0 where
    pub within : k ≤ count
    pub same : length l ≡ length l₀
    pub held : l ≡ sets l₀ at (each k f)

  module _ (l₀ : List ℕ) (at count : ℕ) where
    pub gathered_none : Gathered l₀ at count l₀ 0
    unfolding each
    gathered_none = record { within = omega arith; same = refl; held = refl }

    pub gathered_more :
        (l : List ℕ) (k : ℕ) → Gathered l₀ at count l k → k < count → Gathered l₀ at count (sets l (at + w * k) (f k)) (k + 1)
    gathered_more l k g h =
        record { within = omega arith; same = length-sets l (at + w * k) (f k) ∙ g.same; held = part_more l₀ at l k g.held }

    pub gathered_all : (l : List ℕ) (k : ℕ) → Gathered l₀ at count l k → count ≤ k → l ≡ sets l₀ at (each count f)
    gathered_all l k g h =
        let e : k ≡ count = omega (arith, g.within) in
        g.held ∙ ap (λ (i : ℕ). sets l₀ at (each i f)) e

-- ---- how long the parts are

pub record_length : (r : Record) → length (record_bytes r) ≡ 32
unfolding record_bytes littles little
record_length r = refl

pub block_length : (g : General) → length (block_bytes g) ≡ 64
unfolding block_bytes littles little
block_length g = refl

pub watts_length : (channel segment : ℕ) → length (watts_bytes channel segment) ≡ 16
unfolding watts_bytes littles little
watts_length channel segment = refl

pub end_length : (distance edition : ℕ) → length (end_bytes distance edition) ≡ 10
unfolding end_bytes littles little
end_length distance edition = refl

pub more_length : (edition : ℕ) (g : General) → 64 + length (more_bytes edition g) ≡ tables_at edition
more_length edition g = go (eqb edition 2)
  where
    go :
        (b : Bool)
        → 64 + length (cond b (watts_bytes g.channel_watts g.segment_watts) []) ≡ cond b (general_size + 16) general_size
    go true = ap (λ (i : ℕ). 64 + i) (watts_length g.channel_watts g.segment_watts)
    go false = refl

pub records_length : (r : Runs) (count : ℕ) → length (records_bytes r count) ≡ 32 * count
records_length r count = each_length 32 (λ k. record_bytes (record_from r k)) (λ k. record_length (record_from r k)) count

-- a record more, and a count more
pub records_more :
    (l₀ : List ℕ) (at : ℕ) (l : List ℕ) (r : Runs) (k : ℕ) → l ≡ sets l₀ at (records_bytes r k)
    → sets l (at + 32 * k) (record_bytes (record_from r k)) ≡ sets l₀ at (records_bytes r (k + 1))
records_more l₀ at l r k = part_more 32 (λ i. record_bytes (record_from r i)) (λ i. record_length (record_from r i)) l₀ at l k

pub counts_more :
    (l₀ : List ℕ) (at : ℕ) (l n : List ℕ) (k : ℕ) → l ≡ sets l₀ at (count_bytes n k)
    → sets l (at + 2 * k) (little 2 (count_from n k)) ≡ sets l₀ at (count_bytes n (k + 1))
counts_more l₀ at l n k = part_more 2 (λ i. little 2 (count_from n i)) (λ i. length_little 2 (count_from n i)) l₀ at l k

pub counts_length : (n : List ℕ) (t : ℕ) → length (count_bytes n t) ≡ 2 * t
counts_length n t = each_length 2 (λ i. little 2 (count_from n i)) (λ i. length_little 2 (count_from n i)) t

pub image_length : (edition : ℕ) (g : General) (n : List ℕ) (r : Runs) → length (image_of edition g n r) ≡ trailer_at edition n + trailer_size
unfolding image_of
image_length edition g n r =
    simp length-append
    (omega (
      arith,
      block_length g,
      more_length edition g,
      records_length r (before_from n tables),
      counts_length n tables,
      end_length (trailer_at edition n) edition,
    ))

-- ---- the parts, one behind the other

pub parts_set :
    (edition : ℕ) (g : General) (n : List ℕ) (r : Runs) (l : List ℕ)
    → sets (sets (sets (sets (sets l 0 (block_bytes g)) 64 (more_bytes edition g)) (tables_at edition) (records_bytes r (before_from n tables)))
    (trailer_at edition n) (count_bytes n tables)) (trailer_at edition n + 18) (end_bytes (trailer_at edition n) edition)
    ≡ sets l 0 (image_of edition g n r)
unfolding image_of
parts_set edition g n r l =
    let A = block_bytes g in
    let B = more_bytes edition g in
    let C = records_bytes r (before_from n tables) in
    let D = count_bytes n tables in
    let E = end_bytes (trailer_at edition n) edition in
    let a : 0 + length A ≡ 64 = ap (λ (i : ℕ). 0 + i) (block_length g) in
    let b : 64 + length B ≡ tables_at edition = more_length edition g in
    let c : tables_at edition + length C ≡ trailer_at edition n = ap (λ (i : ℕ). tables_at edition + i) (records_length r (before_from n tables)) in
    let d : trailer_at edition n + length D ≡ trailer_at edition n + 18 = ap (λ (i : ℕ). trailer_at edition n + i) (counts_length n tables) in
    sets_next D E (sets (sets (sets l 0 A) 64 B) (tables_at edition) C) (trailer_at edition n) (trailer_at edition n + 18) d
    ∙ sets_next C (D ++ E) (sets (sets l 0 A) 64 B) (tables_at edition) (trailer_at edition n) c
    ∙ sets_next B (C ++ (D ++ E)) (sets l 0 A) 64 (tables_at edition) b
    ∙ sets_next A (B ++ (C ++ (D ++ E))) l 0 64 a

-- ---- what is left in lent bytes

-- an image put from the first byte on
pub put_left : (image lent : List ℕ) → length image ≤ length lent → sets lent 0 image ≡ image ++ drop (length image) lent
put_left image lent h = let z : 0 + length image ≡ length image = omega arith in sets-eq image lent 0 (omega arith) ∙ rw z

-- refused by what comes before, by the room, or not at all
pub left_refused :
    (ts : List Test) (image lent : List ℕ) (answer : Result ℕ Refusal) (k : Refusal) → refusal_of ts ≡ Err k → answer ≡ Err k
    → Left (refusal_of (ts ++ room_test image lent)) image lent lent answer
left_refused ts image lent answer k e a =
    let s = refusal_stays ts (room_test image lent) k e in
    record {
      answered = a ∙ ap (λ (c : Checked). image_answer c image) (sym s);
      bytes = ap (λ (c : Checked). image_bytes c image lent) (sym s);
    }

pub left_next :
    (ts : List Test) (image lent left : List ℕ) (answer : Result ℕ Refusal) → refusal_of ts ≡ Ok tt
    → Left (refusal_of (room_test image lent)) image lent left answer → Left (refusal_of (ts ++ room_test image lent)) image lent left answer
left_next ts image lent left answer e d =
    let s = refusal_next ts (room_test image lent) e in
    record {
      answered = d.answered ∙ ap (λ (c : Checked). image_answer c image) (sym s);
      bytes = d.bytes ∙ ap (λ (c : Checked). image_bytes c image lent) (sym s);
    }

pub left_short : (image lent : List ℕ) → length lent < length image → Left (refusal_of (room_test image lent)) image lent lent (Err refusal.Rows)
left_short image lent h =
    let s : refusal_of (room_test image lent) ≡ Err refusal.Rows = rw (lt-ltb _ _ h) in
    record {
      answered = ap (λ (c : Checked). image_answer c image) (sym s);
      bytes = ap (λ (c : Checked). image_bytes c image lent) (sym s);
    }

pub left_put :
    (image lent left : List ℕ) (answer : Result ℕ Refusal) → length image ≤ length lent → left ≡ sets lent 0 image
    → answer ≡ image_answer (Ok tt) image → Left (refusal_of (room_test image lent)) image lent left answer
left_put image lent left answer h e a =
    let s : refusal_of (room_test image lent) ≡ Ok tt = rw (le-ltb _ _ h) in
    record {
      answered = a ∙ ap (λ (c : Checked). image_answer c image) (sym s);
      bytes = e ∙ put_left image lent h ∙ ap (λ (c : Checked). image_bytes c image lent) (sym s);
    }
