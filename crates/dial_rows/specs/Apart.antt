-- Ranges that lie apart by the bits of their ends share nothing, so a list asks no more of such a pair.
use Rattle.std.specs.Prelude.{ℕ, ◌≤◌, Bool, true, false, cond, ◌&&◌, ◌||◌, ◌≡◌, refl, leb, Some, None}
use Rattle.std.proofs.Common.{ap, ◌∙◌, arith, leb-true}
use Rattle.std.proofs.lemmas.Bool.{false≢true}
use Rattle.std.specs.Float.Ieee.{le}
use Rattle.figures.specs.Figure.{figure_of}
use Rattle.bit_order.specs.Order.{limit_bits, bits_le}
use Rattle.profile.specs.Range.{lengthy, common_of, intersect_of}
use Rattle.layout.specs.declared.Record.{Record}
use Rattle.table.specs.Parts.{span_of}
use Rattle.apart.specs.Apart.{below_shares, above_shares}

-- a range that ends at some bits lies below one that begins at others: up to the bits of 2^40 figures stand in the order of their bits
abbrev pub below_bits : ℕ → ℕ → Bool
below_bits high low = leb high low && leb low limit_bits

abbrev pub apart_of : Record → Record → Bool
apart_of a b = below_bits a.high b.low || below_bits b.high a.low

-- ---- bits

below_figures : (high low : ℕ) → below_bits high low ≡ true → le (figure_of high) (figure_of low) ≡ true
below_figures high low e = go (leb high low) refl (leb low limit_bits) refl e
  where
    go :
        (p : Bool) → leb high low ≡ p → (q : Bool) → leb low limit_bits ≡ q → (p && q) ≡ true
        → le (figure_of high) (figure_of low) ≡ true
    go true a true b t =
        let h : high ≤ low = leb-true high low a in
        let k : low ≤ limit_bits = leb-true low limit_bits b in
        bits_le high low (omega arith) k ∙ a
    go true a false b t = absurd (false≢true t)
    go false a q b t = absurd (false≢true t)

pub apart_nothing : (a b : Record) → apart_of a b ≡ true → intersect_of (span_of a) (span_of b) ≡ None
apart_nothing a b e =
    ap (λ (t : Bool). cond t (Some (common_of (span_of a) (span_of b))) None)
    (go (below_bits a.high b.low) refl (below_bits b.high a.low) refl e)
  where
    go :
        (p : Bool) → below_bits a.high b.low ≡ p → (q : Bool) → below_bits b.high a.low ≡ q → (p || q) ≡ true
        → lengthy (common_of (span_of a) (span_of b)) ≡ false
    go true f q g t = below_shares (span_of a) (span_of b) (below_figures a.high b.low f)
    go false f true g t = above_shares (span_of a) (span_of b) (below_figures b.high a.low g)
    go false f false g t = absurd (false≢true t)
