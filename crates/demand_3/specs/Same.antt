-- In a tidy table at most one band, one segment and one privilege of a class hold a signal of positive length, and a segment's band is
-- the signal's. So what the verdict finds first is what the list has a row for.
use Rattle.std.specs.Prelude.{ℕ, suc, ◌<◌, ◌≤◌, Bool, not, ◌&&◌, ◌||◌, Float, Option, Some, None}
use Rattle.std.proofs.Math.Bool.{true, false, cond}
use Rattle.std.proofs.Common.{true≢false, ◌∙◌}
use Rattle.std.proofs.Math.Path.{◌≡◌, refl, sym, ap, subst}
use native.Mathlib.Omega.{arith}
use Rattle.std.proofs.Math.Decide.{dec_le}
use Rattle.std.proofs.Math.Dec.{eqb}
use borrow.Author.Tests.{eqb-true, eq-eqb, not-true, not-false}
use Rattle.std.specs.Float.Ieee.{lt}
use Rattle.codes.specs.Code.{class_code}
use Rattle.codes.specs.declared.EmissionKind.TheVariants.{Data}
use Rattle.profile.specs.Range.{holds_of, lengthy, share_of}
use Rattle.profile.specs.Limit.{allows_of}
use Rattle.profile.specs.declared.Range.{Range}
use Rattle.scan.specs.First.{first, on_found}
use Rattle.scan.specs.Laws.{first_at, first_nothing, some_false, and_true}
use Rattle.layout.specs.Layout.{tables, bands, segments, privileges, automatic, excluded}
use Rattle.table.specs.Table.{Table}
use Rattle.table.specs.Parts.{span_of, elsewhere_of, segment_of, privilege_of}
use Rattle.find.specs.Question.{asks, first_in, some_in, homeless_at, homeless_of, home_question}
use Rattle.find.specs.declared.Question.TheVariants.{Holds, OfBand, BandHolds, ClassHolds}
use Rattle.tidy.specs.Tidy.{pair_question, shares_earlier, two_share, tidy_table}
use Rattle.automatic_97_221.specs.Automatic.{elsewhere_allows}
use Rattle.dial_rows.specs.Dials.{may_use, too_wide, cut}
use Rattle.dial_rows.specs.declared.Request.{Request}
use Rattle.part97.specs.Part97.{privilege_at, limit_for, privileged_of}
use Rattle.part97.specs.declared.Case.{Case}
use Rattle.part97.specs.declared.Privileged.{Privileged}
use Rattle.part97.specs.declared.Privileged.TheVariants.{Granted, Forbidden, Unheld}
use Rattle.distance.specs.Distance.{is_outside}
use Rattle.eighths.specs.Grid.{Figure}
use Rattle.rows.specs.Order.{or_left, or_right}
use Rattle.exact.specs.Air.{MarginFigures}
use Rattle.demand_3.specs.Tests.{all_three, and_both}
use Rattle.demand_3.specs.Order.{Ends, Figures, ends, holds_trans, share}
use Rattle.demand_3.specs.Dial.{guarded_ends}
use Rattle.demand_3.specs.Listed.{some_index, asks_holds, Spans, guarded_at, Lawful}
use Rattle.demand_3.specs.Judged.{automatic_met, Judged, OffChannels}

-- ---- the only one that passes is the first

pub first_alone : (test : ℕ → Bool) (n i : ℕ) → i < n → test i ≡ true → ((k : ℕ) → k < n → test k ≡ true → k ≡ i) → first test n ≡ Some i
first_alone test n i h e alone = go (first test n) refl
  where
    go : (f : Option ℕ) → first test n ≡ f → f ≡ Some i
    go (Some k) p = let w = first_at test n k p in ap Some (alone k w.below w.passes)
    go None p = absurd (true≢false (sym e ∙ first_nothing test n p i h))

-- ---- a tidy table

-- no two records of a table share a stretch, where classes count those of one class
module _ (table : Table) (t : ℕ) (classes : Bool) (apart : two_share table t classes ≡ false) where
  earlier : (i j : ℕ) → i < j → j < table.count t → asks (pair_question classes (table.at t j)) (table.at t i) ≡ false
  unfolding two_share
  earlier i j h k =
      some_false (λ i. asks (pair_question classes (table.at t j)) (table.at t i)) j
      (some_false (shares_earlier table t classes) (table.count t) apart j k) i h

-- two different records of a table that hold a signal of positive length
module _ (table : Table) (S : Spans table) (signal : Range) (G : Ends signal) (long : lengthy signal ≡ true) where
  abbrev holding : ℕ → ℕ → Bool
  holding t i = holds_of (span_of (table.at t i)) signal

  overlap :
      (t i j : ℕ) → t < tables → i < table.count t → j < table.count t → holding t i ≡ true → holding t j ≡ true
      → share_of (span_of (table.at t i)) (span_of (table.at t j)) ≡ true
  overlap t i j ht hi hj p q =
      share (span_of (table.at t i)) (span_of (table.at t j)) signal (ends (S.span t i ht hi)) (ends (S.span t j ht hj)) G long p q

  -- by the two orders of two indices
  either_order : (i j : ℕ) → (i < j → ⊥) → (j < i → ⊥) → i ≡ j
  either_order i j f g = go (dec_le (suc i) j) (dec_le (suc j) i)
    where
      go : Dec (suc i ≤ j) → Dec (suc j ≤ i) → i ≡ j
      go (yes h) k = absurd (f h)
      go (no h) (yes k) = absurd (g k)
      go (no h) (no k) = omega arith

  pub alone :
      (t : ℕ) → t < tables → two_share table t false ≡ false → (i j : ℕ) → i < table.count t → j < table.count t → holding t i ≡ true → holding t j ≡ true
      → i ≡ j
  unfolding asks
  alone t ht apart i j hi hj p q =
      either_order i j (λ h. absurd (true≢false (sym (overlap t i j ht hi hj p q) ∙ earlier table t false apart i j h hj)))
      (λ h. absurd (true≢false (sym (overlap t j i ht hj hi q p) ∙ earlier table t false apart j i h hi)))

  pub alone_class :
      (t : ℕ) → t < tables → two_share table t true ≡ false → (i j n : ℕ) → i < table.count t → j < table.count t
      → eqb (table.at t i).class n ≡ true → eqb (table.at t j).class n ≡ true → holding t i ≡ true → holding t j ≡ true → i ≡ j
  unfolding asks
  alone_class t ht apart i j n hi hj a b p q =
      either_order i j
      (λ h. absurd (true≢false (sym (and_both _ _ (one i j a b) (overlap t i j ht hi hj p q)) ∙ earlier table t true apart i j h hj)))
      (λ h. absurd (true≢false (sym (and_both _ _ (one j i b a) (overlap t j i ht hj hi q p)) ∙ earlier table t true apart j i h hi)))
    where
      one : (i j : ℕ) → eqb (table.at t i).class n ≡ true → eqb (table.at t j).class n ≡ true → eqb (table.at t i).class (table.at t j).class ≡ true
      one i j a b = eq-eqb _ _ (eqb-true (table.at t i).class n a ∙ sym (eqb-true (table.at t j).class n b))

-- the band that a segment lies in
record Home (table : Table) (i : ℕ) : Type 0 where
  band : ℕ
  below : band < table.count bands
  number : (table.at bands band).band ≡ (table.at segments i).band
  holds : holds_of (span_of (table.at bands band)) (span_of (table.at segments i)) ≡ true

home : (table : Table) → homeless_of table true ≡ false → (i : ℕ) → i < table.count segments → Home table i
unfolding asks
home table h i k =
    let s = some_index (λ b. asks (BandHolds (table.at segments i).band (span_of (table.at segments i))) (table.at bands b)) (table.count bands)
    (not-false (some_in table bands (home_question true (table.at segments i))) (some_false (homeless_at table true) (table.count segments) h i k)) in
    record {
      band = s.index;
      below = s.below;
      number = eqb-true _ _ (and_true _ (holds_of (span_of (table.at bands s.index)) (span_of (table.at segments i))) s.passes).0;
      holds = (and_true (eqb (table.at bands s.index).band (table.at segments i).band) _ s.passes).1;
    }

-- the parts of a tidy table
pub record Tidied (table : Table) : Type 0 where
  pub homes : homeless_of table true ≡ false
  pub bands_apart : two_share table bands false ≡ false
  pub segments_apart : two_share table segments false ≡ false
  pub privileges_apart : two_share table privileges true ≡ false

pub tidied : (table : Table) → tidy_table table ≡ true → Tidied table
unfolding tidy_table
tidied table e =
    let shared = two_share table segments false in
    let classes = two_share table privileges true in
    let parts = all_three (not (homeless_of table true)) (not (two_share table bands false)) (not shared && not classes) e in
    let last = and_true (not shared) (not classes) parts.2 in
    record {
      homes = not-true (homeless_of table true) parts.0;
      bands_apart = not-true (two_share table bands false) parts.1;
      segments_apart = not-true shared last.0;
      privileges_apart = not-true classes last.1;
    }

-- ---- the list's request and the verdict's case, of one station, signal and dial

pub record Match (table : Table) (q : Request) (c : Case) (dial : Float) : Type 0 where
  pub class : q.class ≡ class_code c.class
  pub guarded : c.guarded ≡ guarded_at q dial
  pub width : q.width_hz ≡ c.width
  pub automatic : q.automatic ≡ c.automatic
  pub elsewhere : q.elsewhere_ok ≡ elsewhere_allows (elsewhere_of table.general) c.width c.direction
  pub general : (s : ℕ) → too_wide q (segment_of (table.at segments s)) ≡ lt (limit_for table (Some s)).max_bandwidth_hz c.width

or_other : (a b : Bool) → (a || b) ≡ true → b ≡ false → a ≡ true
or_other true b e f = refl
or_other false b e f = absurd (true≢false (sym e ∙ f))

module _
    (table : Table) (q : Request) (c : Case) (dial : Float) (D : Figure dial) (M : MarginFigures q.margin) (A : Figures q.audio) (S : Spans table)
    (long : lengthy (guarded_at q dial) ≡ true) (T : Tidied table) (m : Match table q c dial) (off : OffChannels table c)
  where
    abbrev flags : ℕ
    flags = table.general.flags

    abbrev channel : ℕ
    channel = table.general.channel_band

    abbrev signal : Range
    signal = guarded_at q dial

    G : Ends signal
    G = guarded_ends dial q.margin q.audio D M A q.sideband

    abbrev InList : Type 0
    InList = Lawful flags channel q dial D M A table S long

    abbrev held : ℕ → ℕ → Bool
    held t i = holds_of (span_of (table.at t i)) signal

    -- the only record of a table that holds the signal is the first
    found_first :
        (t : ℕ) → t < tables → two_share table t false ≡ false → (i : ℕ) → i < table.count t → held t i ≡ true → first_in table t (Holds c.guarded) ≡ Some i
    found_first t ht apart i h e =
        subst (λ (g : Range). first_in table t (Holds g) ≡ Some i) (sym m.guarded)
        (first_alone (λ k. asks (Holds signal) (table.at t k)) (table.count t) i h (asks_holds signal (table.at t i) ∙ e)
        (λ k hk ek. alone table S signal G long t ht apart k i hk h (sym (asks_holds signal (table.at t k)) ∙ ek) e))

    -- and the first is a record that holds it
    first_held : (t i : ℕ) → first_in table t (Holds c.guarded) ≡ Some i → (i < table.count t) × (held t i ≡ true)
    first_held t i e =
        let h =
        first_at (λ k. asks (Holds signal) (table.at t k)) (table.count t) i
        (subst (λ (g : Range). first_in table t (Holds g) ≡ Some i) m.guarded e) in
        (h.below, sym (asks_holds signal (table.at t i)) ∙ h.passes)

    -- a segment's band holds what the segment holds
    home_holds : (i : ℕ) → i < table.count segments → held segments i ≡ true → (h : Home table i) → held bands h.band ≡ true
    home_holds i k e h =
        holds_trans (span_of (table.at bands h.band)) (span_of (table.at segments i)) signal
        (ends (S.span bands h.band (omega arith) h.below)) (ends (S.span segments i (omega arith) k)) G h.holds e

    -- ---- the privilege

    abbrev mine : ℕ
    mine = class_code c.class

    abbrev asked : Range → ℕ → Bool
    asked g p = asks (ClassHolds mine g) (table.at privileges p)

    asked_as : (p : ℕ) → asked signal p ≡ (eqb (table.at privileges p).class mine && held privileges p)
    unfolding asks
    asked_as p = refl

    abbrev verdict_on : Option ℕ → Privileged
    verdict_on f = on_found f (λ p. cond (allows_of (privilege_at table p).emissions Data) Granted Forbidden) Unheld

    granted_in :
        (p : ℕ) → p < table.count privileges → may_use q (privilege_of (table.at privileges p)) ≡ true → held privileges p ≡ true
        → privileged_of table c Data ≡ Granted
    unfolding privileged_of
    granted_in p h u e =
        let own : eqb (table.at privileges p).class mine ≡ true =
        subst (λ (n : ℕ). eqb (table.at privileges p).class n ≡ true) m.class
        (and_true (eqb (table.at privileges p).class q.class) (allows_of (privilege_at table p).emissions Data) u).0 in
        let allows = (and_true (eqb (table.at privileges p).class q.class) (allows_of (privilege_at table p).emissions Data) u).1 in
        let found : first (asked c.guarded) (table.count privileges) ≡ Some p =
        subst (λ (g : Range). first (asked g) (table.count privileges) ≡ Some p) (sym m.guarded)
        (first_alone (asked signal) (table.count privileges) p h (asked_as p ∙ and_both _ _ own e)
        (λ k hk ek.
        let both = sym (asked_as k) ∙ ek in
        alone_class table S signal G long privileges (omega arith) T.privileges_apart k p mine hk h
        (and_true (eqb (table.at privileges k).class mine) (held privileges k) both).0 own
        (and_true (eqb (table.at privileges k).class mine) (held privileges k) both).1 e)) in
        ap verdict_on found ∙ ap (λ (b : Bool). cond b Granted Forbidden) allows

    record Grant : Type 0 where
      privilege : ℕ
      below : privilege < table.count privileges
      may_use_holds : may_use q (privilege_of (table.at privileges privilege)) ≡ true
      holds : held privileges privilege ≡ true

    granted_of : privileged_of table c Data ≡ Granted → Grant
    unfolding privileged_of
    granted_of e = go (first (asked c.guarded) (table.count privileges)) refl e
      where
        unheld : Unheld ≡ Granted → ⊥
        unheld e = let z : ◌≡◌ {A = ℕ} 0 1 = cc in omega arith

        forbids : (b : Bool) → cond b Granted Forbidden ≡ Granted → b ≡ true
        forbids true e = refl
        forbids false e = cc

        go : (f : Option ℕ) → first (asked c.guarded) (table.count privileges) ≡ f → verdict_on f ≡ Granted → Grant
        go (Some p) g v =
            let h =
            first_at (asked signal) (table.count privileges) p
            (subst (λ (r : Range). first (asked r) (table.count privileges) ≡ Some p) m.guarded g) in
            let both = sym (asked_as p) ∙ h.passes in
            record {
              privilege = p;
              below = h.below;
              may_use_holds = and_both _ _
                  (subst (λ (n : ℕ). eqb (table.at privileges p).class n ≡ true) (sym m.class)
                  (and_true (eqb (table.at privileges p).class mine) (held privileges p) both).0)
                  (forbids (allows_of (privilege_at table p).emissions Data) v);
              holds = (and_true (eqb (table.at privileges p).class mine) (held privileges p) both).1;
            }
        go None g v = absurd (unheld v)

    -- ---- 97.221

    abbrev inside : Range → Bool
    inside g = some_in table automatic (Holds g)

    met_in : (cut q ≡ true → inside signal ≡ true) → c.automatic ≡ true → automatic_met table c ≡ true
    met_in h a = go (elsewhere_allows (elsewhere_of table.general) c.width c.direction) refl
      where
        go :
            (b : Bool) → elsewhere_allows (elsewhere_of table.general) c.width c.direction ≡ b
            → (inside c.guarded || elsewhere_allows (elsewhere_of table.general) c.width c.direction) ≡ true
        go true e = or_right (inside c.guarded) (elsewhere_allows (elsewhere_of table.general) c.width c.direction) e
        go false e =
            or_left (inside c.guarded) (elsewhere_allows (elsewhere_of table.general) c.width c.direction)
            (subst (λ (g : Range). inside g ≡ true) (sym m.guarded)
            (h (and_both q.automatic (not q.elsewhere_ok) (m.automatic ∙ a) (ap not (m.elsewhere ∙ e)))))

    met_of : (c.automatic ≡ true → automatic_met table c ≡ true) → cut q ≡ true → inside signal ≡ true
    met_of h e =
        let a = (and_true q.automatic (not q.elsewhere_ok) e).0 in
        let b = (and_true q.automatic (not q.elsewhere_ok) e).1 in
        subst (λ (g : Range). inside g ≡ true) m.guarded
        (or_other (inside c.guarded) (elsewhere_allows (elsewhere_of table.general) c.width c.direction) (h (sym m.automatic ∙ a))
        (sym m.elsewhere ∙ not-true q.elsewhere_ok b))

    -- ---- both ways

    -- the exclusion goes by the same number in list and verdict
    excluded_same : (n k : ℕ) → n ≡ k → (q.automatic && some_in table excluded (OfBand n)) ≡ (c.automatic && some_in table excluded (OfBand k))
    excluded_same n k e =
        ap (λ (a : Bool). a && some_in table excluded (OfBand n)) m.automatic ∙ ap (λ (x : ℕ). c.automatic && some_in table excluded (OfBand x)) e

    pub lawful_judged : InList → Judged table c
    lawful_judged w =
        let s = w.segment in
        let p = w.pair in
        let h = home table T.homes s w.segment_below in
        record {
          band = h.band;
          found = found_first bands (omega arith) T.bands_apart h.band h.below (home_holds s w.segment_below p.segment_holds h);
          not_excluded = sym (excluded_same (table.at segments s).band (table.at bands h.band).band (sym h.number)) ∙ w.not_excluded;
          place = record {
            segment = s;
            found = found_first segments (omega arith) T.segments_apart s w.segment_below p.segment_holds;
            narrow = sym (m.general s) ∙ w.narrow;
            inside = record {
              granted = granted_in w.privilege w.privilege_below p.may_use_holds p.privilege_holds;
              met = met_in p.automatic_holds;
            };
          };
        }

    pub judged_lawful : Judged table c → InList
    judged_lawful j =
        let at = first_held segments j.place.segment j.place.found in
        let over = first_held bands j.band j.found in
        let h = home table T.homes j.place.segment at.0 in
        let same : h.band ≡ j.band =
        alone table S signal G long bands (omega arith) T.bands_apart h.band j.band h.below over.0
        (home_holds j.place.segment at.0 at.1 h) over.1 in
        let number : (table.at segments j.place.segment).band ≡ (table.at bands j.band).band =
        sym h.number ∙ ap (λ (b : ℕ). (table.at bands b).band) same in
        let g = granted_of j.place.inside.granted in
        record {
          segment = j.place.segment;
          privilege = g.privilege;
          segment_below = at.0;
          privilege_below = g.below;
          narrow = m.general j.place.segment ∙ j.place.narrow;
          not_excluded = excluded_same (table.at segments j.place.segment).band (table.at bands j.band).band number ∙ j.not_excluded;
          pair = record {
            may_use_holds = g.may_use_holds;
            outside = ap (λ (n : ℕ). is_outside flags channel n) number ∙ off j.band j.found;
            segment_holds = at.1;
            privilege_holds = g.holds;
            automatic_holds = met_of j.place.inside.met;
          };
        }
