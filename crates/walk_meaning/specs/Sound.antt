-- Edges that a state can hold: every figure passes 15 and is read as itself. A union of such edges is one, so what a walk has occupied is read
-- back as it was put into the state.
use Prim.Native.Nat.{ℕ, zero, suc, ◌+◌, ◌*◌, ◌/◌, ◌<◌}
use Rattle.std.specs.Prelude.{Bool, cond, ◌||◌, List, ◌≡◌, refl, eqb, length}
use Rattle.std.proofs.Math.Bool.{true, false, not}
use Rattle.std.proofs.Common.{true≢false, ap, ◌∙◌, arith}
use lib.Ieee.{Float, eq, lt, ne}
use Rattle.figures.specs.Figure.{zero_hz, limit40, in_size, read_hz, min_of, max_of}
use Rattle.profile.specs.declared.Range.{Range}
use Rattle.profile.specs.Range.{range}
use Rattle.occupancy.specs.Edges.{hull_of, union_of}
use Rattle.occupancy.specs.declared.Edges.{Edges}
use Rattle.scan.specs.Laws.{and_true, some_false}
use Rattle.entry.specs.Entry.{pair_valid, edges_valid, pair_read, edges_read}
use Rattle.layout.specs.Bytes.{byte_at}
use Rattle.rungs.specs.Rungs.{figure_at, rung_of, control_edges, burst_of, unsized_at, any_unsized, bad_edges}
use Rattle.ceiling.specs.Run.{envelope_of}
use Rattle.std.proofs.lemmas.Bool.{not-false}

-- ---- a figure

pub record SoundFigure (x : Float) : Type 0 where
  pub sized : in_size limit40 x ≡ true
  pub same : read_hz x ≡ x

-- what a figure is read as
pub read_sound : (x : Float) → in_size limit40 x ≡ true → SoundFigure (read_hz x)
unfolding lib.Ieee.le lib.Ieee.of_bits
read_sound x p = go (eq x zero_hz) refl
  where
    go : (b : Bool) → eq x zero_hz ≡ b → SoundFigure (cond b zero_hz x)
    go true q = record { sized = refl; same = refl }
    go false q = record { sized = p; same = rw q }

-- one of two
choice : (b : Bool) (x y : Float) → SoundFigure x → SoundFigure y → SoundFigure (cond b x y)
choice true x y p q = p
choice false x y p q = q

min_sound : (x y : Float) → SoundFigure x → SoundFigure y → SoundFigure (min_of x y)
min_sound x y p q = choice (ne x x) y (cond (lt y x) y x) q (choice (lt y x) y x q p)

max_sound : (x y : Float) → SoundFigure x → SoundFigure y → SoundFigure (max_of x y)
max_sound x y p q = choice (ne x x) y (cond (lt x y) y x) q (choice (lt x y) y x q p)

-- ---- a pair, and edges

pub record SoundPair (p : Range) : Type 0 where
  pub low : SoundFigure p.low_hz
  pub high : SoundFigure p.high_hz

pub record SoundEdges (e : Edges) : Type 0 where
  pub power : SoundPair e.power
  pub spectral : SoundPair e.spectral

hull_sound : (a b : Range) → SoundPair a → SoundPair b → SoundPair (hull_of a b)
hull_sound a b p q =
    record {
      low = min_sound a.low_hz b.low_hz p.low q.low;
      high = max_sound a.high_hz b.high_hz p.high q.high;
    }

pub union_sound : (a b : Edges) → SoundEdges a → SoundEdges b → SoundEdges (union_of a b)
union_sound a b p q =
    record {
      power = hull_sound a.power b.power p.power q.power;
      spectral = hull_sound a.spectral b.spectral p.spectral q.spectral;
    }

pair_valid_holds : (p : Range) → SoundPair p → pair_valid p ≡ true
pair_valid_holds p s = rw s.low.sized s.high.sized

pub sound_valid : (e : Edges) → SoundEdges e → edges_valid e ≡ true
unfolding edges_valid
sound_valid e s = rw (pair_valid_holds e.power s.power) (pair_valid_holds e.spectral s.spectral)

pair_same : (p : Range) → SoundPair p → pair_read p ≡ p
pair_same p s = ap (λ (x : Float). range x (read_hz p.high_hz)) s.low.same ∙ ap (range p.low_hz) s.high.same

pub sound_same : (e : Edges) → SoundEdges e → edges_read e ≡ e
unfolding edges_read
sound_same e s = go (pair_same e.power s.power) (pair_same e.spectral s.spectral)
  where
    edges : Range → Range → Edges
    edges a b = record { power = a; spectral = b }

    go : {a b : Range} → a ≡ e.power → b ≡ e.spectral → edges a b ≡ e
    go p q = rw p (rw q)

pair_read_holds : (p : Range) → pair_valid p ≡ true → SoundPair (pair_read p)
pair_read_holds p v =
    let h = and_true (in_size limit40 p.low_hz) (in_size limit40 p.high_hz) v in
    record { low = read_sound p.low_hz h.0; high = read_sound p.high_hz h.1 }

pub edges_read_sound : (e : Edges) → edges_valid e ≡ true → SoundEdges (edges_read e)
unfolding edges_valid edges_read
edges_read_sound e v =
    let h = and_true (pair_valid e.power) (pair_valid e.spectral) v in
    record { power = pair_read_holds e.power h.0; spectral = pair_read_holds e.spectral h.1 }

-- ---- rungs that 15 lets pass

module _ (ordinary floor : Edges) (rungs : List Float) (e : bad_edges ordinary floor rungs ≡ false) where
  parts : (any_unsized rungs ≡ false) × ((edges_valid ordinary ≡ true) × (edges_valid floor ≡ true))
  unfolding bad_edges
  parts = go (any_unsized rungs) (edges_valid ordinary) (edges_valid floor) e
    where
      go : (a b c : Bool) → a || (not b || not c) ≡ false → (a ≡ false) × ((b ≡ true) × (c ≡ true))
      go true b c q = absurd (true≢false q)
      go false false c q = absurd (true≢false q)
      go false true false q = absurd (true≢false q)
      go false true true q = (refl, (refl, refl))

  figure_sized : (i : ℕ) → i < length rungs → in_size limit40 (figure_at rungs i) ≡ true
  figure_sized i h = not-false _ (some_false (unsized_at rungs) (length rungs) parts.0 i h)

  rung_sound : (k : ℕ) → k < length rungs / 4 → SoundEdges (rung_of rungs k)
  unfolding rung_of edges_read
  rung_sound k h =
      record {
        power =
            record {
              low = read_sound (figure_at rungs (4 * k)) (figure_sized (4 * k) (omega (arith, h)));
              high = read_sound (figure_at rungs (4 * k + 1)) (figure_sized (4 * k + 1) (omega (arith, h)));
            };
        spectral =
            record {
              low = read_sound (figure_at rungs (4 * k + 2)) (figure_sized (4 * k + 2) (omega (arith, h)));
              high = read_sound (figure_at rungs (4 * k + 3)) (figure_sized (4 * k + 3) (omega (arith, h)));
            };
      }

  control_sound : (b : Bool) → SoundEdges (cond b (edges_read floor) (edges_read ordinary))
  control_sound true = edges_read_sound floor parts.1.1
  control_sound false = edges_read_sound ordinary parts.1.0

  pub burst_sound : (floors : List ℕ) (k : ℕ) → k < length rungs / 4 → SoundEdges (burst_of (edges_read ordinary) (edges_read floor) rungs floors k)
  unfolding burst_of
  burst_sound floors k h =
      union_sound (rung_of rungs k) (control_edges (edges_read ordinary) (edges_read floor) (byte_at floors k)) (rung_sound k h)
      (control_sound (eqb (byte_at floors k) 1))

  pub envelope_sound :
      (floors : List ℕ) (k : ℕ) → k < length rungs / 4 → SoundEdges (envelope_of (burst_of (edges_read ordinary) (edges_read floor) rungs floors) k)
  unfolding envelope_of
  envelope_sound floors zero h = burst_sound floors 0 h
  envelope_sound floors (suc k) h = union_sound _ _ (envelope_sound floors k (omega (arith, h))) (burst_sound floors (suc k) h)
