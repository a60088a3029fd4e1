-- Where no record is rough, none of the tests 5 to 10 and 13 that go record by record fails.
use Rattle.std.specs.Prelude.{ℕ, ◌≤◌, ◌<◌, ◌≡◌, refl, Bool, true, false, not, List}
use Rattle.std.proofs.Common.{sym, ap, ◌∙◌, arith}
use borrow.Author.Tests.{leb-true, ltb-true, ne_eqb, not-false}
use Rattle.bit_order.specs.Order.{limit_bits, bits_lt, bits_le_not, bits_sized}
use Rattle.figures.specs.Figure.{negative_zero_bits}
use Rattle.codes.specs.Code.{bit_of}
use Rattle.layout.specs.Layout.{bands, segments, privileges, automatic, tables, start_of, count_of, record_of}
use Rattle.layout.specs.declared.Record.{Record}
use Rattle.coded.specs.Coded.{coded_of}
use Rattle.table.specs.Table.{table_of}
use Rattle.scan.specs.First.{some, is_at}
use Rattle.scan.specs.Laws.{and_true, some_false, some_all}
use Rattle.find.specs.Question.{sound_bits, sound_record, asks, asks_at, some_in}
use Rattle.find.specs.Laws.{first_in_holds}
use Rattle.find.specs.declared.Question.{Question}
use Rattle.find.specs.declared.Question.TheVariants.{Miscoded, Unsound, NotLengthy, NoLimit}
use Rattle.plain.specs.Plain.{sized_of, longer, long_of, limited_of, plain_of, rough_at, rough_from, rough_in, is_rough}

-- ---- one record

sound_plain : (b : ℕ) → b ≤ limit_bits → sound_bits b ≡ true
unfolding sound_bits
sound_plain b h = rw (bits_sized b h) (rw (ne_eqb b negative_zero_bits (λ e. omega arith)))

pub record Parts (t : ℕ) (r : Record) : Type 0 where
  pub low_le : r.low ≤ limit_bits
  pub high_le : r.high ≤ limit_bits
  figure_le : r.figure ≤ limit_bits
  long : long_of t r ≡ true
  limited : limited_of t r ≡ true
  coded : coded_of t r ≡ true

pub parts : (t : ℕ) (r : Record) → plain_of t r ≡ true → Parts t r
unfolding plain_of sized_of
parts t r e =
    let a = and_true _ _ e in
    let b = and_true _ _ a.1 in
    let c = and_true _ _ b.1 in
    let s = and_true _ _ a.0 in
    let s2 = and_true _ _ s.1 in
    record {
      low_le = leb-true _ _ s.0;
      high_le = leb-true _ _ s2.0;
      figure_le = leb-true _ _ s2.1;
      long = b.0;
      limited = c.0;
      coded = c.1;
    }

plain_coded : (t : ℕ) (r : Record) → plain_of t r ≡ true → asks (Miscoded t) r ≡ false
unfolding asks
plain_coded t r e = ap not (parts t r e).coded

plain_sound : (t : ℕ) (r : Record) → plain_of t r ≡ true → asks Unsound r ≡ false
unfolding asks sound_record
plain_sound t r e =
    let p = parts t r e in
    rw (sound_plain r.low p.low_le) (rw (sound_plain r.high p.high_le) (rw (sound_plain r.figure p.figure_le)))

long_lengthy : (r : Record) → longer r ≡ true → r.high ≤ limit_bits → asks NotLengthy r ≡ false
unfolding asks
long_lengthy r e h = rw (bits_lt r.low r.high (ltb-true _ _ e) h)

plain_lengthy : (t : ℕ) (r : Record) → long_of t r ≡ longer r → plain_of t r ≡ true → asks NotLengthy r ≡ false
plain_lengthy t r l e = let p = parts t r e in long_lengthy r (sym l ∙ p.long) p.high_le

limited_by : (r : Record) (b : Bool) → bit_of r.flags 0 ≡ b → limited_of segments r ≡ true → r.figure ≤ limit_bits → asks NoLimit r ≡ false
unfolding asks limited_of
limited_by r true e l h = rw e (bits_le_not 0 r.figure (ltb-true 0 r.figure (rw e at l)) h)
limited_by r false e l h = rw e

plain_limited : (r : Record) → plain_of segments r ≡ true → asks NoLimit r ≡ false
plain_limited r e = let p = parts segments r e in limited_by r (bit_of r.flags 0) refl p.limited p.figure_le

-- ---- the whole image

module _ (l : List ℕ) (smooth : is_rough l ≡ false) where
  pub plain_at : (t i : ℕ) → t < tables → i < count_of l t → plain_of t (record_of l t i) ≡ true
  unfolding is_rough rough_from
  plain_at t i h k = not-false (plain_of t (record_of l t i))
      (some_false (rough_at l t (start_of l t)) (count_of l t) (some_false (rough_in l) tables smooth t h) i k)

  -- a test that no plain record of table t passes
  none_in : (t : ℕ) (q : Question) → t < tables → ((r : Record) → plain_of t r ≡ true → asks q r ≡ false) → some_in (table_of l) t q ≡ false
  none_in t q h f =
      ap is_at (first_in_holds l t q h) ∙ some_all (asks_at l (start_of l t) q) (count_of l t) (λ i k. f (record_of l t i) (plain_at t i h k))

  pub none_miscoded : some (λ t. some_in (table_of l) t (Miscoded t)) tables ≡ false
  none_miscoded = some_all (λ t. some_in (table_of l) t (Miscoded t)) tables (λ t h. none_in t (Miscoded t) h (plain_coded t))

  pub none_unsound : some (λ t. some_in (table_of l) t Unsound) tables ≡ false
  none_unsound = some_all (λ t. some_in (table_of l) t Unsound) tables (λ t h. none_in t Unsound h (plain_sound t))

  pub bands_lengthy : some_in (table_of l) bands NotLengthy ≡ false
  bands_lengthy = none_in bands NotLengthy (omega arith) (λ r. plain_lengthy bands r (unfold long_of in refl))

  pub segments_lengthy : some_in (table_of l) segments NotLengthy ≡ false
  segments_lengthy = none_in segments NotLengthy (omega arith) (λ r. plain_lengthy segments r (unfold long_of in refl))

  pub automatic_lengthy : some_in (table_of l) automatic NotLengthy ≡ false
  automatic_lengthy = none_in automatic NotLengthy (omega arith) (λ r. plain_lengthy automatic r (unfold long_of in refl))

  pub privileges_lengthy : some_in (table_of l) privileges NotLengthy ≡ false
  privileges_lengthy = none_in privileges NotLengthy (omega arith) (λ r. plain_lengthy privileges r (unfold long_of in refl))

  pub segments_limited : some_in (table_of l) segments NoLimit ≡ false
  segments_limited = none_in segments NoLimit (omega arith) plain_limited
