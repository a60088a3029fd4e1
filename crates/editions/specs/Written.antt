-- What the writer writes is accepted, and holds the table of the fields and records given; and it "refuses with the number that its image
-- would get" (document 02, 6).
use Prim.Native.Nat.{ℕ, zero, suc, ◌+◌, ◌*◌, ◌^◌, ◌≤◌, ◌<◌}
use Rattle.std.specs.Prelude.{Ok, Err, Bool, not, ◌||◌, ◌≡◌, T, eqb, get_or, take, Float}
use Rattle.codes.specs.declared.Refusal.TheVariants as refusal
use Rattle.codes.specs.Refusal.{Checked, refusal_of}
use Rattle.std.proofs.Math.Bool.{true, false, cond}
use mathlib.Core.List.{List, [], ◌++◌, append_assoc}
use Rattle.std.proofs.Math.Path.{refl, sym, ap, ap₂, fun_ext}
use Rattle.std.proofs.Common.{◌∙◌, drop_at, take_at}
use native.Mathlib.Omega.{arith}
use Rattle.std.proofs.Math.Decide.{dec_le}
use borrow.Author.Tests.{lt-ltb, le-ltb, eq-eqb, ltb-true, ltb-false}
use Rattle.std.proofs.Math.Dec.{ltb}
use Rattle.std.proofs.Math.ListN.{length, drop}
use Rattle.std.specs.Float.{nan, binary64}
use Rattle.std.specs.Float.Ieee.{fits, to_bits}
use Rattle.std.specs.Float.Ieee.Bits.{to_bits-lt}
use Rattle.scan.specs.Laws.{some_same}
use Rattle.codes.specs.Laws.{refusal_both}
use Rattle.layout.specs.Bytes.{byte_at, u16_at, u32_at, u64_at}
use Rattle.layout.specs.Layout.{general_size, watts_size, record_size, tables, trailer_of, count_of, fixed_channel_watts, fixed_segment_watts}
use Rattle.layout.specs.Layout.{distance_back, watts_at, general_of, records_before, tables_from, record_at, record_of}
use Rattle.layout.specs.Form.{size_wrong, letters_wrong, edition_wrong, overfull_at, overfull, distance_wrong, counts_wrong}
use Rattle.layout.specs.declared.Record.{Record}
use Rattle.layout.specs.declared.General.{General}
use Rattle.table.specs.Table.{Table, count_in, record_in, table_of}
use Rattle.table.specs.Laws.{count_in_holds, at_in}
use Rattle.image.specs.Check.{content_tests, check_of}
use Rattle.lists.specs.Each.{each}
use Rattle.lists.specs.From.{from, from_each, from_step}
use Rattle.byte_writes.specs.Bytes.{little}
use Rattle.byte_writes.specs.Laws.{length_little, u64_little}
use Rattle.given.specs.declared.Fields.{Fields}
use Rattle.given.specs.Given.{Runs, count_from, before_from, record_from, general_from, count_given, record_given, table_with, table_from}
use Rattle.given.specs.Tests.{too_many, neither_edition, overfull_from, runs_wrong, given_wrong, given_tests}
use Rattle.given.specs.Laws.{before_within, count_given_holds, record_given_holds, sound_of}
use Rattle.writer.specs.Image.{littles, record_bytes, block_bytes, watts_bytes, more_bytes, count_bytes, end_bytes, records_bytes, tables_at, trailer_at, image_of}
use Rattle.writer.specs.Write.{room_test, image_answer, image_bytes, image_from, write_tests, Written}
use Rattle.writer.specs.Laws.{each_length, record_length, block_length, more_length, records_length, counts_length, image_length}
use Rattle.alike.specs.Alike.{alike_drop, u16_alike, u64_alike, record_alike}
use Rattle.editions.specs.Alike.{byte_little, u16_little, u32_little}
use Rattle.editions.specs.Pair.{Ends, ends_of, past_seam}

-- ---- numbers of their types

pub record RecordFits (x : Record) : Type 0 where
  pub low : x.low < 2 ^ 64
  pub high : x.high < 2 ^ 64
  pub figure : x.figure < 2 ^ 64
  pub band : x.band < 256
  pub class : x.class < 256
  pub emissions : x.emissions < 256
  pub flags : x.flags < 256
  pub rule : x.rule < 65536
  pub second : x.second_rule < 65536

pub record GeneralFits (g : General) : Type 0 where
  pub data_limit : g.data_limit < 2 ^ 64
  pub elsewhere_limit : g.elsewhere_limit < 2 ^ 64
  pub channel_width : g.channel_width < 2 ^ 64
  pub carrier_offset : g.carrier_offset < 2 ^ 64
  pub carrier_tolerance : g.carrier_tolerance < 2 ^ 64
  pub region : g.region < 256
  pub reading : g.reading < 256
  pub flags : g.flags < 256
  pub channel_band : g.channel_band < 256
  pub sideband : g.sideband < 256
  pub emissions : g.emissions < 256
  pub data_rule : g.data_rule < 65536
  pub elsewhere_rule : g.elsewhere_rule < 65536
  pub automatic_rule_holds : g.automatic_rule < 65536
  pub channels_rule : g.channels_rule < 65536
  pub emissions_rule : g.emissions_rule < 65536
  pub privileges_rule : g.privileges_rule < 65536
  pub unused : g.unused < 65536
  pub unused_rest : g.unused_rest < 4294967296
  pub channel_watts_holds : g.channel_watts < 2 ^ 64
  pub segment_watts_holds : g.segment_watts < 2 ^ 64

-- ---- a record, read back from its bytes

module _ (x : Record) (t : List ℕ) (f : RecordFits x) where
  abbrev bytes : List ℕ
  bytes = record_bytes x ++ t

  low_back : u64_at bytes 0 ≡ x.low
  unfolding record_bytes littles little u64_at u32_at u16_at
  low_back = u64_little x.low [] f.low

  high_back : u64_at bytes 8 ≡ x.high
  unfolding record_bytes littles little u64_at u32_at u16_at
  high_back = u64_little x.high [] f.high

  figure_back : u64_at bytes 16 ≡ x.figure
  unfolding record_bytes littles little u64_at u32_at u16_at
  figure_back = u64_little x.figure [] f.figure

  band_back : byte_at bytes 24 ≡ x.band
  unfolding record_bytes littles little
  band_back = byte_little x.band [] f.band

  class_back : byte_at bytes 25 ≡ x.class
  unfolding record_bytes littles little
  class_back = byte_little x.class [] f.class

  emissions_back : byte_at bytes 26 ≡ x.emissions
  unfolding record_bytes littles little
  emissions_back = byte_little x.emissions [] f.emissions

  flags_back : byte_at bytes 27 ≡ x.flags
  unfolding record_bytes littles little
  flags_back = byte_little x.flags [] f.flags

  rule_back : u16_at bytes 28 ≡ x.rule
  unfolding record_bytes littles little u16_at
  rule_back = u16_little x.rule [] f.rule

  second_back : u16_at bytes 30 ≡ x.second_rule
  unfolding record_bytes littles little u16_at
  second_back = u16_little x.second_rule [] f.second

  pub record_back : record_at bytes 0 ≡ x
  unfolding record_at
  record_back =
      rw low_back
      (rw high_back
      (rw figure_back
      (rw band_back (rw class_back (rw emissions_back (rw flags_back (rw rule_back (rw second_back))))))))

-- ---- a general block, read back from its bytes

module _ (g : General) (t : List ℕ) (f : GeneralFits g) where
  abbrev block : List ℕ
  block = block_bytes g ++ t

  data_limit_read : u64_at block 0 ≡ g.data_limit
  unfolding block_bytes littles little u64_at u32_at u16_at
  data_limit_read = u64_little g.data_limit [] f.data_limit

  elsewhere_limit_read : u64_at block 8 ≡ g.elsewhere_limit
  unfolding block_bytes littles little u64_at u32_at u16_at
  elsewhere_limit_read = u64_little g.elsewhere_limit [] f.elsewhere_limit

  channel_width_read : u64_at block 16 ≡ g.channel_width
  unfolding block_bytes littles little u64_at u32_at u16_at
  channel_width_read = u64_little g.channel_width [] f.channel_width

  carrier_offset_read : u64_at block 24 ≡ g.carrier_offset
  unfolding block_bytes littles little u64_at u32_at u16_at
  carrier_offset_read = u64_little g.carrier_offset [] f.carrier_offset

  carrier_tolerance_read : u64_at block 32 ≡ g.carrier_tolerance
  unfolding block_bytes littles little u64_at u32_at u16_at
  carrier_tolerance_read = u64_little g.carrier_tolerance [] f.carrier_tolerance

  region_read : byte_at block 40 ≡ g.region
  unfolding block_bytes littles little
  region_read = byte_little g.region [] f.region

  reading_read : byte_at block 41 ≡ g.reading
  unfolding block_bytes littles little
  reading_read = byte_little g.reading [] f.reading

  flags_read : byte_at block 42 ≡ g.flags
  unfolding block_bytes littles little
  flags_read = byte_little g.flags [] f.flags

  channel_band_read : byte_at block 43 ≡ g.channel_band
  unfolding block_bytes littles little
  channel_band_read = byte_little g.channel_band [] f.channel_band

  sideband_read : byte_at block 44 ≡ g.sideband
  unfolding block_bytes littles little
  sideband_read = byte_little g.sideband [] f.sideband

  emissions_read : byte_at block 45 ≡ g.emissions
  unfolding block_bytes littles little
  emissions_read = byte_little g.emissions [] f.emissions

  data_rule_read : u16_at block 46 ≡ g.data_rule
  unfolding block_bytes littles little u16_at
  data_rule_read = u16_little g.data_rule [] f.data_rule

  elsewhere_rule_read : u16_at block 48 ≡ g.elsewhere_rule
  unfolding block_bytes littles little u16_at
  elsewhere_rule_read = u16_little g.elsewhere_rule [] f.elsewhere_rule

  automatic_rule_read : u16_at block 50 ≡ g.automatic_rule
  unfolding block_bytes littles little u16_at
  automatic_rule_read = u16_little g.automatic_rule [] f.automatic_rule_holds

  channels_rule_read : u16_at block 52 ≡ g.channels_rule
  unfolding block_bytes littles little u16_at
  channels_rule_read = u16_little g.channels_rule [] f.channels_rule

  emissions_rule_read : u16_at block 54 ≡ g.emissions_rule
  unfolding block_bytes littles little u16_at
  emissions_rule_read = u16_little g.emissions_rule [] f.emissions_rule

  privileges_rule_read : u16_at block 56 ≡ g.privileges_rule
  unfolding block_bytes littles little u16_at
  privileges_rule_read = u16_little g.privileges_rule [] f.privileges_rule

  unused_read : u16_at block 58 ≡ g.unused
  unfolding block_bytes littles little u16_at
  unused_read = u16_little g.unused [] f.unused

  unused_rest_read : u32_at block 60 ≡ g.unused_rest
  unfolding block_bytes littles little u32_at u16_at
  unused_rest_read = u32_little g.unused_rest [] f.unused_rest

  pub general_read :
      watts_at block 64 fixed_channel_watts ≡ g.channel_watts → watts_at block 72 fixed_segment_watts ≡ g.segment_watts → general_of block ≡ g
  unfolding general_of
  general_read c d =
      rw data_limit_read
      (rw elsewhere_limit_read
      (rw channel_width_read
      (rw carrier_offset_read
      (rw carrier_tolerance_read
      (rw region_read
      (rw reading_read
      (rw flags_read
      (rw channel_band_read
      (rw sideband_read
      (rw emissions_read
      (rw data_rule_read
      (rw elsewhere_rule_read
      (rw automatic_rule_read
      (rw channels_rule_read
      (rw emissions_rule_read
      (rw privileges_rule_read
      (rw unused_read
      (rw unused_rest_read
      (rw c (rw d))))))))))))))))))))

-- ---- parts of one length, each found in its place

each_at :
    (w : ℕ) (f : ℕ → List ℕ) → ((i : ℕ) → length (f i) ≡ w) → (n i : ℕ) (t : List ℕ) → i < n
    → drop (w * i) (each n f ++ t) ≡ f i ++ (from n f (i + 1) ++ t)
each_at w f l n i t h =
    ap (λ (m : List ℕ). drop (w * i) (m ++ t)) (from_each n i f (omega arith) ∙ ap (λ (m : List ℕ). each i f ++ m) (from_step n i f h))
    ∙ ap (drop (w * i)) (append_assoc (each i f) (f i ++ from n f (i + 1)) t)
    ∙ ap (λ (m : List ℕ). drop (w * i) (each i f ++ m)) (append_assoc (f i) (from n f (i + 1)) t)
    ∙ drop_at (each i f) (f i ++ (from n f (i + 1) ++ t)) (w * i) (each_length w f l i)

-- where an edition's tables begin
near : (e : ℕ) → tables_at e ≤ general_size + watts_size
near e = go (eqb e 2)
  where
    go : (b : Bool) → cond b (general_size + watts_size) general_size ≤ general_size + watts_size
    go true = omega arith
    go false = omega arith

far : (e : ℕ) → general_size ≤ tables_at e
far e = go (eqb e 2)
  where
    go : (b : Bool) → general_size ≤ cond b (general_size + watts_size) general_size
    go true = omega arith
    go false = omega arith

-- ---- the image of what is given

-- numbers of their types, and the watts of edition 1
pub record Fitting (e : ℕ) (g : General) (n : List ℕ) (r : Runs) : Type 0 where
  pub edition : e < 65536
  pub general : GeneralFits g
  pub watts : eqb e 2 ≡ false → (g.channel_watts ≡ fixed_channel_watts) × (g.segment_watts ≡ fixed_segment_watts)
  pub counts : (t : ℕ) → count_from n t < 65536
  pub records : (k : ℕ) → RecordFits (record_from r k)

module _ (e : ℕ) (g : General) (n : List ℕ) (r : Runs) (f : Fitting e g n r) (few : before_from n tables ≤ 2045) where
  abbrev image : List ℕ
  image = image_of e g n r

  abbrev count : ℕ
  count = before_from n tables

  abbrev at : ℕ
  at = trailer_at e n

  pub trailer : trailer_of image ≡ at
  trailer = omega (arith, image_length e g n r)

  -- what stands behind the general block
  past_block : (k : ℕ) → drop (tables_at e + k) image ≡ drop k (records_bytes r count ++ (count_bytes n tables ++ end_bytes at e))
  unfolding image_of
  past_block k =
      let more = more_bytes e g in
      let rest = records_bytes r count ++ (count_bytes n tables ++ end_bytes at e) in
      let x : tables_at e + k ≡ general_size + (length more + k) = omega (arith, more_length e g) in
      ap (λ (i : ℕ). drop i (block_bytes g ++ (more ++ rest))) x
      ∙ past_seam (block_bytes g) (more ++ rest) general_size (length more + k) (block_length g)
      ∙ past_seam more rest (length more) k refl

  -- and behind the records
  past_records : (k : ℕ) → drop (at + k) image ≡ drop k (count_bytes n tables ++ end_bytes at e)
  past_records k =
      let x : at + k ≡ tables_at e + (record_size * count + k) = omega arith in
      ap (λ (i : ℕ). drop i image) x ∙ past_block (record_size * count + k)
      ∙ past_seam (records_bytes r count) (count_bytes n tables ++ end_bytes at e) (record_size * count) k (records_length r count)

  pub ends : Ends image at e
  ends =
      ends_of image at e (omega (arith, near e)) f.edition
      (ap (λ (i : ℕ). drop (i + 18) image) trailer
      ∙ past_records 18
      ∙ drop_at (count_bytes n tables) (end_bytes at e) 18 (counts_length n tables))

  pub tables_back : tables_from image ≡ tables_at e
  unfolding tables_from
  tables_back = ap (λ (i : ℕ). cond (eqb i 2) (general_size + watts_size) general_size) ends.edition_is

  pub count_back : (t : ℕ) → t < tables → count_of image t ≡ count_from n t
  count_back t h =
      let x : trailer_of image + 2 * t ≡ at + 2 * t = omega (arith, trailer) in
      ap (u16_at image) x
      ∙ u16_alike image (drop (at + 2 * t) image) (at + 2 * t) 0 (alike_drop image (at + 2 * t) 2)
      ∙ ap (λ (m : List ℕ). u16_at m 0)
      (past_records (2 * t)
      ∙ each_at 2 (λ i. little 2 (count_from n i)) (λ i. length_little 2 (count_from n i)) tables t (end_bytes at e) h)
      ∙ u16_little (count_from n t) _ (f.counts t)

  pub before_back : (t : ℕ) → t ≤ tables → records_before image t ≡ before_from n t
  unfolding records_before before_from
  before_back zero h = refl
  before_back (suc t) h = ap₂ ◌+◌ (before_back t (omega arith)) (count_back t (omega arith))

  place_back : (k : ℕ) → k < count → record_at image (tables_at e + record_size * k) ≡ record_from r k
  place_back k h =
      let p = tables_at e + record_size * k in
      record_alike image (drop p image) p 0 (alike_drop image p record_size)
      ∙ ap (λ (m : List ℕ). record_at m 0)
      (past_block (record_size * k)
      ∙ each_at record_size (λ i. record_bytes (record_from r i)) (λ i. record_length (record_from r i)) count k (count_bytes n tables ++ end_bytes at e) h)
      ∙ record_back (record_from r k) _ (f.records k)

  records_back : (t i : ℕ) → t < tables → i < count_from n t → record_of image t i ≡ record_from r (before_from n t + i)
  records_back t i h k =
      let x : tables_from image + record_size * records_before image t + record_size * i ≡ tables_at e + record_size * (before_from n t + i) =
      omega (arith, tables_back, before_back t (omega arith)) in
      ap (record_at image) x ∙ place_back (before_from n t + i) (omega (arith, before_within n t h))

  -- the watts
  watts_back :
      (j : ℕ) (fixed own : ℕ) → (eqb e 2 ≡ true → u64_at image j ≡ own) → (eqb e 2 ≡ false → own ≡ fixed) → watts_at image j fixed ≡ own
  unfolding watts_at
  watts_back j fixed own a b = ap (λ (i : ℕ). cond (eqb i 2) (u64_at image j) fixed) ends.edition_is ∙ go (eqb e 2) a b
    where
      go : (s : Bool) → (s ≡ true → u64_at image j ≡ own) → (s ≡ false → own ≡ fixed) → cond s (u64_at image j) fixed ≡ own
      go true a b = a refl
      go false a b = sym (b refl)

  watts_there : eqb e 2 ≡ true → (j : ℕ) → drop (general_size + j) image
      ≡ drop j (watts_bytes g.channel_watts g.segment_watts ++ (records_bytes r count ++ (count_bytes n tables ++ end_bytes at e)))
  unfolding image_of
  watts_there s j =
      let rest = records_bytes r count ++ (count_bytes n tables ++ end_bytes at e) in
      past_seam (block_bytes g) (more_bytes e g ++ rest) general_size j (block_length g)
      ∙ ap (λ (b : Bool). drop j (cond b (watts_bytes g.channel_watts g.segment_watts) [] ++ rest)) s

  channel_there : eqb e 2 ≡ true → u64_at image 64 ≡ g.channel_watts
  channel_there s =
      u64_alike image (drop 64 image) 64 0 (alike_drop image 64 8) ∙ ap (λ (m : List ℕ). u64_at m 0) (watts_there s 0)
      ∙ (unfold watts_bytes littles little u64_at u32_at u16_at in u64_little g.channel_watts [] f.general.channel_watts_holds)

  segment_there : eqb e 2 ≡ true → u64_at image 72 ≡ g.segment_watts
  segment_there s =
      u64_alike image (drop 72 image) 72 0 (alike_drop image 72 8) ∙ ap (λ (m : List ℕ). u64_at m 0) (watts_there s 8)
      ∙ (unfold watts_bytes littles little u64_at u32_at u16_at in u64_little g.segment_watts [] f.general.segment_watts_holds)

  general_back : general_of image ≡ g
  unfolding image_of
  general_back =
      general_read g (more_bytes e g ++ (records_bytes r count ++ (count_bytes n tables ++ end_bytes at e))) f.general
      (watts_back 64 fixed_channel_watts g.channel_watts channel_there (λ s. (f.watts s).0))
      (watts_back 72 fixed_segment_watts g.segment_watts segment_there (λ s. (f.watts s).1))

  -- The image holds the table of what is given.
  pub table_back : table_of image ≡ table_with g n r
  unfolding record_in record_given
  table_back =
      ap (λ (x : General). record { general = x; count = count_in image; at = record_in image }) general_back
      ∙ ap (λ (c : ℕ → ℕ). record { general = g; count = c; at = record_in image }) (fun_ext counts_same)
      ∙ ap (λ (a : ℕ → ℕ → Record). record { general = g; count = count_given n; at = a }) (fun_ext (λ t. fun_ext (λ i. records_same t i)))
    where
      counts_by : (t : ℕ) → Dec (suc t ≤ tables) → count_in image t ≡ count_given n t
      counts_by t (yes h) = count_in_holds image t h ∙ count_back t h ∙ sym (count_given_holds n t h)
      counts_by t (no h) = let z : ltb t tables ≡ false = le-ltb t tables (omega arith) in rw z

      counts_same : (t : ℕ) → count_in image t ≡ count_given n t
      counts_same t = counts_by t (dec_le (suc t) tables)

      records_by : (t i : ℕ) → Dec (suc t ≤ tables) → Dec (suc i ≤ count_given n t) → record_in image t i ≡ record_given n r t i
      records_by t i (yes h) (yes k) =
          let below : i < count_from n t = rw (count_given_holds n t h) at k in
          let there : i < count_of image t = rw (← count_back t h) at below in
          at_in image t i h there ∙ records_back t i h below ∙ sym (record_given_holds n r t i h below)
      records_by t i (no h) (yes k) =
          let z : ltb t tables ≡ false = le-ltb t tables (omega arith) in
          let none : count_given n t ≡ 0 = rw z in
          absurd (omega arith)
      records_by t i d (no k) =
          let z : ltb i (count_given n t) ≡ false = le-ltb i (count_given n t) (omega arith) in
          rw (counts_same t) (rw z)

      records_same : (t i : ℕ) → record_in image t i ≡ record_given n r t i
      records_same t i = records_by t i (dec_le (suc t) tables) (dec_le (suc i) (count_given n t))

-- ---- the refusal that the image would get

module _ (e : ℕ) (g : General) (n : List ℕ) (r : Runs) (f : Fitting e g n r) (agree : runs_wrong r (before_from n tables) ≡ false) where
  abbrev checked : Bool → Bool → Bool → Bool → Table → Checked
  checked s w d c table = cond s (Err refusal.ImageLength) (cond w (Err refusal.Letters) (cond d (Err refusal.Edition) (cond c (Err refusal.Counts) (refusal_of (content_tests table)))))

  abbrev given : Bool → Bool → Bool → Checked
  given m d c = cond m (Err refusal.ImageLength) (cond d (Err refusal.Edition) (cond c (Err refusal.Counts) (refusal_of (content_tests (table_with g n r)))))

  -- The writer's refusal is the one that its image gets, where the runs agree with the counts.
  pub refused_same : check_of (image_of e g n r) ≡ refusal_of (given_tests e g n r)
  unfolding check_of
  refused_same = go (too_many n) refl
    where
      long : 2045 < before_from n tables → size_wrong (image_of e g n r) ≡ true
      long m =
          let l : 65552 < length (image_of e g n r) = omega (arith, image_length e g n r, far e) in
          let h : 92 ≤ length (image_of e g n r) = omega arith in
          rw (le-ltb _ _ h) (lt-ltb _ _ l)

      short : before_from n tables ≤ 2045 → size_wrong (image_of e g n r) ≡ false
      short m =
          let l : length (image_of e g n r) ≤ 65552 = omega (arith, image_length e g n r, near e) in
          let h : 92 ≤ length (image_of e g n r) = omega (arith, image_length e g n r, far e) in
          rw (le-ltb _ _ h) (le-ltb _ _ l)

      counts : before_from n tables ≤ 2045 → counts_wrong (image_of e g n r) ≡ given_wrong n r
      counts m =
          let over : overfull (image_of e g n r) ≡ overfull_from n =
          some_same (overfull_at (image_of e g n r)) (λ t. ltb 256 (count_from n t)) tables (λ t h. ap (ltb 256) (count_back e g n r f m t h)) in
          let ended : trailer_of (image_of e g n r) ≡ tables_from (image_of e g n r) + record_size * records_before (image_of e g n r) tables =
          omega (arith, trailer e g n r f m, tables_back e g n r f m, before_back e g n r f m tables (omega arith)) in
          let distant : distance_back (image_of e g n r) ≡ trailer_of (image_of e g n r) =
          (ends e g n r f m).distance_is ∙ sym (trailer e g n r f m) in
          ap₂ (λ (a b : Bool). a || (b || distance_wrong (image_of e g n r))) over (ap not (eq-eqb _ _ ended))
          ∙ ap (λ (b : Bool). overfull_from n || not b) (eq-eqb _ _ distant)
          ∙ ap (λ (b : Bool). overfull_from n || b) (sym agree)

      go : (b : Bool) → too_many n ≡ b → check_of (image_of e g n r) ≡ refusal_of (given_tests e g n r)
      go true m =
          ap (λ (s : Bool). checked s (letters_wrong (image_of e g n r)) (edition_wrong (image_of e g n r)) (counts_wrong (image_of e g n r)) (table_of
          (image_of e g n r)))
          (long (ltb-true _ _ m))
          ∙ sym (ap (λ (s : Bool). given s (neither_edition e) (given_wrong n r)) m)
      go false m =
          let few : before_from n tables ≤ 2045 = ltb-false _ _ m in
          ap₂ (λ (s w : Bool). checked s w (edition_wrong (image_of e g n r)) (counts_wrong (image_of e g n r)) (table_of (image_of e g n r))) (short few)
          (ends e g n r f few).letters_right
          ∙ ap₂ (λ (d c : Bool). checked false false d c (table_of (image_of e g n r))) (ap neither_edition (ends e g n r f few).edition_is) (counts few)
          ∙ ap (checked false false (neither_edition e) (given_wrong n r)) (table_back e g n r f few)
          ∙ sym (ap (λ (s : Bool). given s (neither_edition e) (given_wrong n r)) m)

-- ---- the call

-- what the types of the fields and the runs say
pub record Typed (f : Fields) (n : List ℕ) (r : Runs) : Type 0 where
  pub edition : f.edition < 65536
  pub data_limit : T (fits binary64 f.data_limit)
  pub elsewhere_limit : T (fits binary64 f.elsewhere_limit)
  pub channel_width : T (fits binary64 f.channel_width)
  pub carrier_offset : T (fits binary64 f.carrier_offset)
  pub carrier_tolerance : T (fits binary64 f.carrier_tolerance)
  pub channel_watts_holds : T (fits binary64 f.channel_watts)
  pub segment_watts_holds : T (fits binary64 f.segment_watts)
  pub region : f.region < 256
  pub reading : f.reading < 256
  pub flags : f.flags < 256
  pub channel_band : f.channel_band < 256
  pub sideband : f.sideband < 256
  pub emissions : f.emissions < 256
  pub data_rule : f.data_rule < 65536
  pub elsewhere_rule : f.elsewhere_rule < 65536
  pub automatic_rule_holds : f.automatic_rule < 65536
  pub channels_rule : f.channels_rule < 65536
  pub emissions_rule : f.emissions_rule < 65536
  pub privileges_rule : f.privileges_rule < 65536
  pub counts : (t : ℕ) → count_from n t < 65536
  pub figures : (i : ℕ) → T (fits binary64 (get_or r.figures i nan))
  pub codes : (i : ℕ) → get_or r.codes i 0 < 256
  pub rules : (i : ℕ) → get_or r.rules i 0 < 65536

bits_fit : (x : Float) → T (fits binary64 x) → to_bits binary64 x < 2 ^ 64
bits_fit x h = to_bits-lt binary64 x h

watts_fit : (e : ℕ) (x : Float) (fixed : ℕ) → T (fits binary64 x) → fixed < 2 ^ 64 → cond (eqb e 2) (to_bits binary64 x) fixed < 2 ^ 64
watts_fit e x fixed h k = go (eqb e 2)
  where
    go : (b : Bool) → cond b (to_bits binary64 x) fixed < 2 ^ 64
    go true = bits_fit x h
    go false = k

fitting : (f : Fields) (n : List ℕ) (r : Runs) → Typed f n r → Fitting f.edition (general_from f) n r
unfolding general_from record_from
fitting f n r t =
    record {
      edition = t.edition;
      general =
          record {
            data_limit = bits_fit _ t.data_limit;
            elsewhere_limit = bits_fit _ t.elsewhere_limit;
            channel_width = bits_fit _ t.channel_width;
            carrier_offset = bits_fit _ t.carrier_offset;
            carrier_tolerance = bits_fit _ t.carrier_tolerance;
            region = t.region;
            reading = t.reading;
            flags = t.flags;
            channel_band = t.channel_band;
            sideband = t.sideband;
            emissions = t.emissions;
            data_rule = t.data_rule;
            elsewhere_rule = t.elsewhere_rule;
            automatic_rule_holds = t.automatic_rule_holds;
            channels_rule = t.channels_rule;
            emissions_rule = t.emissions_rule;
            privileges_rule = t.privileges_rule;
            unused = omega arith;
            unused_rest = omega arith;
            channel_watts_holds = watts_fit f.edition f.channel_watts fixed_channel_watts t.channel_watts_holds (omega arith);
            segment_watts_holds = watts_fit f.edition f.segment_watts fixed_segment_watts t.segment_watts_holds (omega arith);
          };
      watts =
          λ s. (
            ap (λ (b : Bool). cond b (to_bits binary64 f.channel_watts) fixed_channel_watts) s,
            ap (λ (b : Bool). cond b (to_bits binary64 f.segment_watts) fixed_segment_watts) s,
          );
      counts = t.counts;
      records =
          λ k.
          record {
            low = bits_fit _ (t.figures (3 * k));
            high = bits_fit _ (t.figures (3 * k + 1));
            figure = bits_fit _ (t.figures (3 * k + 2));
            band = t.codes (4 * k);
            class = t.codes (4 * k + 1);
            emissions = t.codes (4 * k + 2);
            flags = t.codes (4 * k + 3);
            rule = t.rules (2 * k);
            second = t.rules (2 * k + 1);
          };
    }

-- What the writer wrote, and its length: an accepted image, which holds the table of the fields and records that it was given.
pub record Accurate (f : Fields) (n : List ℕ) (r : Runs) (image : List ℕ) : Type 0 where
  pub accepted : check_of image ≡ Ok tt
  pub read_back : table_of image ≡ table_from f n r

pub written :
    (f : Fields) (n : List ℕ) (r : Runs) (lent left : List ℕ) (size : ℕ) → Typed f n r → Written f n r lent left (Ok size)
    → Accurate f n r (take size left)
written f n r lent left size t w = go (refusal_of (write_tests f n r lent)) refl w.answered w.bytes
  where
    go :
        (c : Checked) → refusal_of (write_tests f n r lent) ≡ c → Ok size ≡ image_answer c (image_from f n r)
        → left ≡ image_bytes c (image_from f n r) lent → Accurate f n r (take size left)
    go (Err k) e a b = absurd (let z : ◌≡◌ {A = ℕ} 0 1 = cc in omega arith)
    go (Ok tt) e a b =
        let g = general_from f in
        let ts = given_tests f.edition g n r in
        let ok : refusal_of ts ≡ Ok tt = (refusal_both ts (room_test (image_from f n r) lent) e).0 in
        let s = sound_of f.edition g n r ok in
        let fit = fitting f n r t in
        let size_is : size ≡ length (image_from f n r) = cc in
        let same : take size left ≡ image_from f n r =
        ap (take size) b ∙ take_at (image_from f n r) (drop (length (image_from f n r)) lent) size (sym size_is) in
        record {
          accepted = ap check_of same ∙ refused_same f.edition g n r fit s.agree ∙ ok;
          read_back = ap table_of same ∙ table_back f.edition g n r fit s.few;
        }
