-- Fewer tests that are enough: of a record with no own limit, no second rule and no list but a privilege's they show that it is
-- plain.
use Rattle.std.specs.Prelude.{ℕ, ◌+◌, ◌*◌, ◌≤◌, ◌<◌, ◌≡◌, Bool, ◌&&◌, ◌||◌, List, eqb, leb, ltb}
use Rattle.std.proofs.Math.Path.{refl}
use Rattle.std.proofs.Common.{subst, arith, leb-true, ltb-true, eqb-true, lt-ltb, le-leb}
use Rattle.std.proofs.Math.Bool.{true, false}
use Rattle.std.proofs.Math.Decide.{dec_le}
use Rattle.bit_order.specs.Order.{limit_bits}
use Rattle.layout.specs.Layout.{record_size, bands, segments, channels, privileges, automatic, excluded, power, plan_data, plan_avoid, record_at, lists_of, rules_of}
use Rattle.layout.specs.declared.Record.{Record}
use Rattle.coded.specs.Coded.{coded_of}
use Rattle.scan.specs.Laws.{and_true}
use Rattle.plain.specs.Plain.{sized_of, long_of, limited_of, plain_of}

-- a range with a low end below its high end, and what the parts are at most
unfoldable pub range_within : ℕ → ℕ → ℕ → ℕ → Record → Bool
range_within figure band lists rules r =
    ltb r.low r.high && (leb r.high limit_bits && (leb r.figure figure
    && (leb (lists_of r) lists && (leb r.band band && leb (rules_of r) rules))))

-- no high end and no figure
unfoldable pub point_within : ℕ → ℕ → ℕ → Record → Bool
point_within low lists rules r =
    leb r.low low && (eqb r.high 0 && (eqb r.figure 0 && (leb (lists_of r) lists && leb (rules_of r) rules)))

-- a privilege with a list of emissions, and one with or without
unfoldable pub listed_privilege : Record → Bool
listed_privilege r =
    ltb r.low r.high && (leb r.high limit_bits && (eqb r.figure 0 && (eqb r.flags 1 && (leb r.emissions 15
    && (eqb r.band 0 && (leb r.class 4 && (eqb r.rule 0 && eqb r.second_rule 0)))))))

unfoldable pub privilege_within : Record → Bool
privilege_within r = range_within 0 0 1024 0 r || listed_privilege r

-- ---- records that pass a test, one after the other

-- of the records that begin at a place, those from one on and before another
pub record Stretch (test : Record → Bool) (l : List ℕ) (start from to : ℕ) : Type 0 where
  pub forward : from ≤ to
  pub each : (i : ℕ) → from ≤ i → i < to → test (record_at l (start + record_size * i)) ≡ true

module _ (test : Record → Bool) (l : List ℕ) (start : ℕ) where
  pub stretch_none : (from : ℕ) → Stretch test l start from from
  stretch_none from = record { forward = omega arith; each = λ i a b. absurd (omega arith) }

  -- one more
  pub stretch_more : (from to : ℕ) → Stretch test l start from to → test (record_at l (start + record_size * to)) ≡ true → Stretch test l start from (to + 1)
  stretch_more from to s e = record { forward = omega (arith, s.forward); each = λ i a b. go i a b (dec_le to i) }
    where
      go : (i : ℕ) → from ≤ i → i < to + 1 → Dec (to ≤ i) → test (record_at l (start + record_size * i)) ≡ true
      go i a b (yes h) = let same : to ≡ i = omega arith in subst (λ (k : ℕ). test (record_at l (start + record_size * k)) ≡ true) same e
      go i a b (no h) = s.each i a (omega arith)

  -- one stretch after another
  pub stretch_on : (from mid to : ℕ) → Stretch test l start from mid → Stretch test l start mid to → Stretch test l start from to
  stretch_on from mid to s u = record { forward = omega (arith, s.forward, u.forward); each = λ i a b. go i a b (dec_le mid i) }
    where
      go : (i : ℕ) → from ≤ i → i < to → Dec (mid ≤ i) → test (record_at l (start + record_size * i)) ≡ true
      go i a b (yes h) = u.each i h b
      go i a b (no h) = s.each i a (omega arith)

-- by a test that says more
pub stretch_by : (f g : Record → Bool) (l : List ℕ) (start from to : ℕ)
    → ((r : Record) → f r ≡ true → g r ≡ true) → Stretch f l start from to → Stretch g l start from to
stretch_by f g l start from to h s = record { forward = s.forward; each = λ i a b. h (record_at l (start + record_size * i)) (s.each i a b) }

-- ---- the fewer tests, table by table

record RangeParts (figure band lists rules : ℕ) (r : Record) : Type 0 where
  longer : r.low < r.high
  high_most : r.high ≤ limit_bits
  figure_most : r.figure ≤ figure
  lists_most : lists_of r ≤ lists
  band_most : r.band ≤ band
  rules_most : rules_of r ≤ rules

range_parts : (figure band lists rules : ℕ) (r : Record) → range_within figure band lists rules r ≡ true → RangeParts figure band lists rules r
unfolding range_within
range_parts figure band lists rules r e =
    let p1 = and_true (ltb r.low r.high) _ e in
    let p2 = and_true (leb r.high limit_bits) _ p1.1 in
    let p3 = and_true (leb r.figure figure) _ p2.1 in
    let p4 = and_true (leb (lists_of r) lists) _ p3.1 in
    let p5 = and_true (leb r.band band) (leb (rules_of r) rules) p4.1 in
    record {
      longer = ltb-true _ _ p1.0;
      high_most = leb-true _ _ p2.0;
      figure_most = leb-true _ _ p3.0;
      lists_most = leb-true _ _ p4.0;
      band_most = leb-true _ _ p5.0;
      rules_most = leb-true _ _ p5.1;
    }

record PointParts (low lists rules : ℕ) (r : Record) : Type 0 where
  low_most : r.low ≤ low
  no_high : r.high ≡ 0
  no_figure : r.figure ≡ 0
  lists_most : lists_of r ≤ lists
  rules_most : rules_of r ≤ rules

point_parts : (low lists rules : ℕ) (r : Record) → point_within low lists rules r ≡ true → PointParts low lists rules r
unfolding point_within
point_parts low lists rules r e =
    let p1 = and_true (leb r.low low) _ e in
    let p2 = and_true (eqb r.high 0) _ p1.1 in
    let p3 = and_true (eqb r.figure 0) _ p2.1 in
    let p4 = and_true (leb (lists_of r) lists) (leb (rules_of r) rules) p3.1 in
    record {
      low_most = leb-true _ _ p1.0;
      no_high = eqb-true _ _ p2.0;
      no_figure = eqb-true _ _ p3.0;
      lists_most = leb-true _ _ p4.0;
      rules_most = leb-true _ _ p4.1;
    }

-- a record with no class, no emission bits, no flags and no second rule
abbrev listless : ℕ → ℕ → ℕ → ℕ → ℕ → Record
listless low high figure band rule =
    record { low = low; high = high; figure = figure; band = band; class = 0; emissions = 0; flags = 0; rule = rule; second_rule = 0 }

-- each part that is 0, put in its place
module _ (t : ℕ) where
  without_lists :
      (low high figure band class emissions flags rule second : ℕ) → class ≡ 0 → emissions ≡ 0 → flags ≡ 0 → second ≡ 0
      → plain_of t (listless low high figure band rule) ≡ true
      → plain_of t (record {
        low = low;
        high = high;
        figure = figure;
        band = band;
        class = class;
        emissions = emissions;
        flags = flags;
        rule = rule;
        second_rule = second;
      }) ≡ true
  without_lists low high figure band class emissions flags rule second a b c d e = rw a (rw b (rw c (rw d e)))

  -- from the most that lists and rules are
  listless_plain :
      (r : Record) → lists_of r ≤ 255 → rules_of r ≤ 65535 → plain_of t (listless r.low r.high r.figure r.band r.rule) ≡ true
      → plain_of t r ≡ true
  listless_plain r a b e =
      without_lists r.low r.high r.figure r.band r.class r.emissions r.flags r.rule r.second_rule
      (omega (arith, a)) (omega (arith, a)) (omega (arith, a)) (omega (arith, b)) e

module _ (low high : ℕ) (longer : low < high) (within : high ≤ limit_bits) where
  at_bands : (figure band rule : ℕ) → figure ≡ 0 → rule ≡ 0 → plain_of bands (listless low high figure band rule) ≡ true
  unfolding plain_of sized_of long_of limited_of coded_of
  at_bands figure band rule a b = rw a (rw b (rw (le-leb low limit_bits (omega arith)) (rw (le-leb high limit_bits within) (rw (lt-ltb low high longer)))))

  at_segments : (figure band rule : ℕ) → figure ≡ 0 → plain_of segments (listless low high figure band rule) ≡ true
  unfolding plain_of sized_of long_of limited_of coded_of
  at_segments figure band rule a = rw a (rw (le-leb low limit_bits (omega arith)) (rw (le-leb high limit_bits within) (rw (lt-ltb low high longer))))

  at_automatic : (figure band rule : ℕ) → figure ≡ 0 → band ≡ 0 → rule ≡ 0 → plain_of automatic (listless low high figure band rule) ≡ true
  unfolding plain_of sized_of long_of limited_of coded_of
  at_automatic figure band rule a b c = rw a (rw b
      (rw c (rw (le-leb low limit_bits (omega arith)) (rw (le-leb high limit_bits within) (rw (lt-ltb low high longer))))))

  at_power : (figure band rule : ℕ) → figure ≤ limit_bits → band ≡ 0 → plain_of power (listless low high figure band rule) ≡ true
  unfolding plain_of sized_of long_of limited_of coded_of
  at_power figure band rule a b = rw b (rw (le-leb low limit_bits (omega arith)) (rw (le-leb high limit_bits within) (rw (le-leb figure limit_bits a))))

  at_plan_data : (figure band rule : ℕ) → figure ≡ 0 → band ≡ 0 → plain_of plan_data (listless low high figure band rule) ≡ true
  unfolding plain_of sized_of long_of limited_of coded_of
  at_plan_data figure band rule a b = rw a (rw b (rw (le-leb low limit_bits (omega arith)) (rw (le-leb high limit_bits within))))

  at_plan_avoid : (figure band rule : ℕ) → figure ≡ 0 → band ≡ 0 → plain_of plan_avoid (listless low high figure band rule) ≡ true
  unfolding plain_of sized_of long_of limited_of coded_of
  at_plan_avoid figure band rule a b = rw a (rw b (rw (le-leb low limit_bits (omega arith)) (rw (le-leb high limit_bits within))))

  at_privileges :
      (figure band class emissions flags rule second : ℕ) → figure ≡ 0 → band ≡ 0 → class ≤ 4 → emissions ≡ 0 → flags ≡ 0 → rule ≡ 0 → second ≡ 0
      → plain_of privileges (record {
        low = low;
        high = high;
        figure = figure;
        band = band;
        class = class;
        emissions = emissions;
        flags = flags;
        rule = rule;
        second_rule = second;
      }) ≡ true
  unfolding plain_of sized_of long_of limited_of coded_of
  at_privileges figure band class emissions flags rule second a b c d e f g =
      rw a (rw b (rw d (rw e (rw f (rw g (rw (le-leb low limit_bits (omega arith))
      (rw (le-leb high limit_bits within) (rw (lt-ltb low high longer) (rw (le-leb class 4 c))))))))))

  at_listed :
      (figure band class emissions flags rule second : ℕ) → figure ≡ 0 → band ≡ 0 → class ≤ 4 → emissions ≤ 15 → flags ≡ 1 → rule ≡ 0 → second ≡ 0
      → plain_of privileges (record {
        low = low;
        high = high;
        figure = figure;
        band = band;
        class = class;
        emissions = emissions;
        flags = flags;
        rule = rule;
        second_rule = second;
      }) ≡ true
  unfolding plain_of sized_of long_of limited_of coded_of
  at_listed figure band class emissions flags rule second a b c d e f g =
      rw a (rw b (rw e (rw f (rw g (rw (le-leb low limit_bits (omega arith)) (rw (le-leb high limit_bits within)
      (rw (lt-ltb low high longer) (rw (le-leb class 4 c) (rw (le-leb emissions 15 d))))))))))

at_channels : (low high figure band rule : ℕ) → low ≤ limit_bits
    → high ≡ 0 → figure ≡ 0 → band ≡ 0 → rule ≡ 0 → plain_of channels (listless low high figure band rule) ≡ true
unfolding plain_of sized_of long_of limited_of coded_of
at_channels low high figure band rule a b c d e = rw b (rw c (rw d (rw e (rw (le-leb low limit_bits a)))))

at_excluded : (low high figure band rule : ℕ) → low ≡ 0 → high ≡ 0 → figure ≡ 0 → plain_of excluded (listless low high figure band rule) ≡ true
unfolding plain_of sized_of long_of limited_of coded_of
at_excluded low high figure band rule a b c = rw a (rw b (rw c))

-- ---- what the loops cite

module _ (r : Record) where
  pub plain_band : range_within 0 255 255 0 r ≡ true → plain_of bands r ≡ true
  plain_band e =
      let p = range_parts 0 255 255 0 r e in
      listless_plain bands r p.lists_most (omega (arith, p.rules_most))
      (at_bands r.low r.high p.longer p.high_most r.figure r.band r.rule (omega (arith, p.figure_most)) (omega (arith, p.rules_most)))

  pub plain_segment : range_within 0 255 255 65535 r ≡ true → plain_of segments r ≡ true
  plain_segment e =
      let p = range_parts 0 255 255 65535 r e in
      listless_plain segments r p.lists_most p.rules_most
      (at_segments r.low r.high p.longer p.high_most r.figure r.band r.rule (omega (arith, p.figure_most)))

  pub plain_channel : point_within limit_bits 0 0 r ≡ true → plain_of channels r ≡ true
  plain_channel e =
      let p = point_parts limit_bits 0 0 r e in
      listless_plain channels r (omega (arith, p.lists_most)) (omega (arith, p.rules_most))
      (at_channels r.low r.high r.figure r.band r.rule
      p.low_most p.no_high p.no_figure (omega (arith, p.lists_most)) (omega (arith, p.rules_most)))

  unlisted : range_within 0 0 1024 0 r ≡ true → plain_of privileges r ≡ true
  unlisted e =
      let p = range_parts 0 0 1024 0 r e in
      at_privileges r.low r.high p.longer p.high_most r.figure r.band r.class r.emissions r.flags r.rule r.second_rule
      (omega (arith, p.figure_most)) (omega (arith, p.band_most)) (omega (arith, p.lists_most)) (omega (
        arith,
        p.lists_most,
      )) (omega (arith, p.lists_most)) (omega (arith, p.rules_most)) (omega (arith, p.rules_most))

  listed : listed_privilege r ≡ true → plain_of privileges r ≡ true
  unfolding listed_privilege
  listed e =
      let p1 = and_true (ltb r.low r.high) _ e in
      let p2 = and_true (leb r.high limit_bits) _ p1.1 in
      let p3 = and_true (eqb r.figure 0) _ p2.1 in
      let p4 = and_true (eqb r.flags 1) _ p3.1 in
      let p5 = and_true (leb r.emissions 15) _ p4.1 in
      let p6 = and_true (eqb r.band 0) _ p5.1 in
      let p7 = and_true (leb r.class 4) _ p6.1 in
      let p8 = and_true (eqb r.rule 0) (eqb r.second_rule 0) p7.1 in
      at_listed r.low r.high (ltb-true _ _ p1.0)
      (leb-true _ _ p2.0) r.figure r.band r.class r.emissions r.flags r.rule r.second_rule
      (eqb-true _ _ p3.0) (eqb-true _ _ p6.0) (leb-true _ _ p7.0)
      (leb-true _ _ p5.0) (eqb-true _ _ p4.0) (eqb-true _ _ p8.0) (eqb-true _ _ p8.1)

  pub plain_privilege : privilege_within r ≡ true → plain_of privileges r ≡ true
  unfolding privilege_within
  plain_privilege e = go (range_within 0 0 1024 0 r) refl e
    where
      go : (b : Bool) → range_within 0 0 1024 0 r ≡ b → (b || listed_privilege r) ≡ true → plain_of privileges r ≡ true
      go true p q = unlisted p
      go false p q = listed q

  pub plain_automatic : range_within 0 0 0 0 r ≡ true → plain_of automatic r ≡ true
  plain_automatic e =
      let p = range_parts 0 0 0 0 r e in
      listless_plain automatic r (omega (arith, p.lists_most)) (omega (arith, p.rules_most))
      (at_automatic r.low r.high p.longer p.high_most r.figure r.band
      r.rule (omega (arith, p.figure_most)) (omega (arith, p.band_most)) (omega (arith, p.rules_most)))

  pub plain_excluded : point_within 0 255 65535 r ≡ true → plain_of excluded r ≡ true
  plain_excluded e =
      let p = point_parts 0 255 65535 r e in
      listless_plain excluded r p.lists_most p.rules_most
      (at_excluded r.low r.high r.figure r.band r.rule (omega (arith, p.low_most)) p.no_high p.no_figure)

  pub plain_power : range_within limit_bits 0 0 65535 r ≡ true → plain_of power r ≡ true
  plain_power e =
      let p = range_parts limit_bits 0 0 65535 r e in
      listless_plain power r (omega (arith, p.lists_most)) p.rules_most
      (at_power r.low r.high p.longer p.high_most r.figure r.band r.rule p.figure_most (omega (arith, p.band_most)))

  pub plain_plan_data : range_within 0 0 0 65535 r ≡ true → plain_of plan_data r ≡ true
  plain_plan_data e =
      let p = range_parts 0 0 0 65535 r e in
      listless_plain plan_data r (omega (arith, p.lists_most)) p.rules_most
      (at_plan_data r.low r.high p.longer p.high_most r.figure r.band r.rule (omega (arith, p.figure_most)) (omega (arith, p.band_most)))

  pub plain_plan_avoid : range_within 0 0 0 65535 r ≡ true → plain_of plan_avoid r ≡ true
  plain_plan_avoid e =
      let p = range_parts 0 0 0 65535 r e in
      listless_plain plan_avoid r (omega (arith, p.lists_most)) p.rules_most
      (at_plan_avoid r.low r.high p.longer
      p.high_most r.figure r.band r.rule (omega (arith, p.figure_most)) (omega (arith, p.band_most)))
