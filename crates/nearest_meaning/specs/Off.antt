-- A dial in a row outside the channel band is off the channel band: the segment of the row has a band of its own number, which holds the
-- guarded signal, and in a tidy table no other band does.
use Rattle.std.specs.Prelude.{ℕ, ◌<◌, Bool, false, not, ◌&&◌, ◌≡◌, eqb, Float}
use Rattle.std.proofs.Math.Bool.{true}
use Rattle.std.proofs.Common.{true≢false, sym, ap, ◌∙◌, arith, eqb-true, eq-eqb}
use Rattle.std.proofs.Math.Path.{refl}
use Rattle.std.proofs.lemmas.Bool.{not-false}
use Rattle.codes.specs.Code.{bit_of}
use Rattle.profile.specs.Range.{holds_of, lengthy}
use Rattle.profile.specs.declared.Range.{Range}
use Rattle.scan.specs.Laws.{some_false, and_true}
use Rattle.layout.specs.Layout.{bands, segments}
use Rattle.table.specs.Table.{Table}
use Rattle.table.specs.Parts.{span_of}
use Rattle.find.specs.Question.{asks, some_in, homeless_at, homeless_of, home_question}
use Rattle.find.specs.declared.Question.TheVariants.{BandHolds}
use Rattle.dial_rows.specs.declared.Request.{Request}
use Rattle.distance.specs.Distance.{is_outside}
use Rattle.eighths.specs.Grid.{Figure}
use Rattle.exact.specs.Air.{MarginFigures}
use Rattle.demand_3.specs.Order.{Ends, Figures, ends, holds_trans}
use Rattle.demand_3.specs.Dial.{guarded_ends}
use Rattle.demand_3.specs.Listed.{some_index, Spans, guarded_at, Lawful}
use Rattle.demand_3.specs.Same.{Tidied, alone}

-- a band of a number that holds a range
pub record Band (table : Table) (number : ℕ) (held : Range) : Type 0 where
  pub band : ℕ
  pub below : band < table.count bands
  pub number_is : (table.at bands band).band ≡ number
  pub holds : holds_of (span_of (table.at bands band)) held ≡ true

pub band_of_holds : (table : Table) (number : ℕ) (held : Range) → some_in table bands (BandHolds number held) ≡ true → Band table number held
unfolding asks
band_of_holds table number held h =
    let s = some_index (λ b. asks (BandHolds number held) (table.at bands b)) (table.count bands) h in
    let both = and_true (eqb (table.at bands s.index).band number) (holds_of (span_of (table.at bands s.index)) held) s.passes in
    record { band = s.index; below = s.below; number_is = eqb-true _ _ both.0; holds = both.1 }

-- the band that a segment lies in
pub home : (table : Table) → homeless_of table true ≡ false → (i : ℕ) → i < table.count segments
    → Band table (table.at segments i).band (span_of (table.at segments i))
home table h i k =
    band_of_holds table (table.at segments i).band (span_of (table.at segments i))
    (not-false (some_in table bands (home_question true (table.at segments i))) (some_false (homeless_at table true) (table.count segments) h i k))

module _
    (flags channel : ℕ) (q : Request) (dial : Float) (D : Figure dial) (M : MarginFigures q.margin) (A : Figures q.audio) (table : Table) (S : Spans table)
    (long : lengthy (guarded_at q dial) ≡ true) (T : Tidied table)
  where
    abbrev signal : Range
    signal = guarded_at q dial

    G : Ends signal
    G = guarded_ends dial q.margin q.audio D M A q.sideband

    -- a band that holds the signal has the number of the row's segment
    one_number : (w : Lawful flags channel q dial D M A table S long) (n : ℕ) → Band table n signal → n ≡ (table.at segments w.segment).band
    one_number w n b =
        let i = w.segment in
        let h = home table T.homes i w.segment_below in
        let held =
        holds_trans (span_of (table.at bands h.band)) (span_of (table.at segments i)) signal
        (ends (S.span bands h.band (omega arith) h.below)) (ends (S.span segments i (omega arith) w.segment_below)) G h.holds
        w.pair.segment_holds in
        sym b.number_is
        ∙ ap (λ (k : ℕ). (table.at bands k).band)
        (alone table S signal G long bands (omega arith) T.bands_apart b.band h.band b.below h.below b.holds held)
        ∙ h.number_is

    pub off_band : Lawful flags channel q dial D M A table S long → (bit_of flags 2 && some_in table bands (BandHolds channel signal)) ≡ false
    unfolding is_outside
    off_band w = go (bit_of flags 2) (some_in table bands (BandHolds channel signal)) refl refl
      where
        outside : is_outside flags channel (table.at segments w.segment).band ≡ true
        outside = w.pair.outside

        clash : bit_of flags 2 ≡ true → some_in table bands (BandHolds channel signal) ≡ true → ⊥
        clash p q =
            let n = one_number w channel (band_of_holds table channel signal q) in
            true≢false
            (sym outside
            ∙ ap (λ (b : Bool). not (b && eqb (table.at segments w.segment).band channel)) p
            ∙ ap not (eq-eqb (table.at segments w.segment).band channel (sym n)))

        go : (a b : Bool) → bit_of flags 2 ≡ a → some_in table bands (BandHolds channel signal) ≡ b → (a && b) ≡ false
        go true true p q = absurd (clash p q)
        go true false p q = refl
        go false b p q = refl
