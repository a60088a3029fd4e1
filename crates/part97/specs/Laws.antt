-- Laws of the definitions in Part97: of those that go by the first n records one record more, where the nearest segment stands, the cases
-- of the answer to data, and on 60 m which of channel and segment is judged.
use Rattle.std.specs.Prelude.{ℕ, zero, suc, ◌+◌, ◌<◌, Bool, true, false, cond, ◌||◌, ◌≡◌, set, Float, Option, Some, None}
use Rattle.std.proofs.Math.Path.{sym, ap}
use Rattle.std.proofs.Common.{◌∙◌, add-one, arith}
use Rattle.std.specs.Float.Ieee.{lt}
use Rattle.figures.specs.Figure.{total_less}
use Rattle.profile.specs.Range.{holds_of, overlaps_of, channel_range_of}
use Rattle.profile.specs.declared.Range.{Range}
use Rattle.profile.specs.declared.DataLimit.{DataLimit}
use Rattle.scan.specs.First.{on_found}
use Rattle.scan.specs.Laws.{cond_yes, cond_not}
use Rattle.layout.specs.Layout.{segments}
use Rattle.table.specs.Table.{Table}
use Rattle.table.specs.declared.Channels.{Channels}
use Rattle.table.specs.declared.Segment.{Segment}
use Rattle.find.specs.Question.{first_in}
use Rattle.find.specs.declared.Question.TheVariants.{BandHolds}
use Rattle.decision.specs.declared.Decision.{Decision}
use Rattle.part97.specs.declared.Case.{Case}
use Rattle.part97.specs.Part97.{segment_at, limit_for, blocked_too_wide, inside_segment, outside_segments, judge_data}
use Rattle.part97.specs.Part97.{sixty_channel, sixty_segment, in_sixty_segment, sixty_overlap}
use Rattle.part97.specs.Part97.{reach, notes_up_to, any_note, nearer_by, considered, nearest_up_to}

pub notes_more : (note : ℕ → Bool) (n : ℕ) → notes_up_to note (n + 1) ≡ cond (note n) (set (notes_up_to note n) n 1) (notes_up_to note n)
unfolding notes_up_to
notes_more note n = rw add-one

pub any_more : (note : ℕ → Bool) (n : ℕ) → any_note note (n + 1) ≡ (note n || any_note note n)
unfolding any_note
any_more note n = rw add-one

pub nearest_more : (table : Table) (c : Case) (n : ℕ) → nearest_up_to table c (n + 1) ≡ considered c (nearest_up_to table c n) n (segment_at table n).range
unfolding nearest_up_to
nearest_more table c n = rw add-one

-- the nearest segment is one of those in question
near_inj : {i j : ℕ} {x y : Float} → ◌≡◌ {A = Option (ℕ × Float)} (Some (i, x)) (Some (j, y)) → i ≡ j
near_inj {i} {j} {x} {y} e = let both : ◌≡◌ {A = ℕ × Float} (i, x) (j, y) = cc in ap (λ (p : ℕ × Float). p.0) both

considered_below :
    (c : Case) (best : Option (ℕ × Float)) (n : ℕ) (segment : Range) → ((i : ℕ) (by : Float) → best ≡ Some (i, by) → i < n)
    → (i : ℕ) (by : Float) → considered c best n segment ≡ Some (i, by) → i < suc n
unfolding considered
considered_below c best n segment lower i by e = go (overlaps_of segment c.guarded) best lower e
  where
    go :
        (o : Bool) (best : Option (ℕ × Float)) → ((i : ℕ) (by : Float) → best ≡ Some (i, by) → i < n)
        → cond o (nearer_by best n (reach segment c.air)) best ≡ Some (i, by) → i < suc n
    go false b low q = let h = low i by q in omega arith
    go true None low q = let h : n ≡ i = near_inj q in omega arith
    go true (Some (j, least)) low q = pick (total_less (reach segment c.air) least) q
      where
        pick : (t : Bool) → cond {A = Option (ℕ × Float)} t (Some (n, reach segment c.air)) (Some (j, least)) ≡ Some (i, by) → i < suc n
        pick true q' = let h : n ≡ i = near_inj q' in omega arith
        pick false q' = let h = low i by q' in omega arith

pub nearest_below : (table : Table) (c : Case) (n i : ℕ) (by : Float) → nearest_up_to table c n ≡ Some (i, by) → i < n
unfolding nearest_up_to
nearest_below table c zero i by e = absurd (let z : ◌≡◌ {A = ℕ} 0 1 = cc in omega arith)
nearest_below table c (suc n) i by e =
    considered_below c (nearest_up_to table c n) n (segment_at table n).range (nearest_below table c n) i by e

-- the answer to data, by what is found: too wide, inside a segment, outside them all
module _ (table : Table) (c : Case) (band : ℕ) (found : Option ℕ) where
  pub judge_wide :
      (limit : DataLimit) → limit ≡ limit_for table found → lt limit.max_bandwidth_hz c.width ≡ true
      → blocked_too_wide c band limit ≡ judge_data table c band found
  unfolding judge_data
  judge_wide limit e t =
      ap (blocked_too_wide c band) e ∙ sym (cond_yes _ _ (ap (λ (d : DataLimit). lt d.max_bandwidth_hz c.width) (sym e) ∙ t))

  pub judge_inside :
      (i : ℕ) → found ≡ Some i → (s : Segment) → s ≡ segment_at table i → (limit : DataLimit) → limit ≡ limit_for table found
      → lt limit.max_bandwidth_hz c.width ≡ false → inside_segment table c band s ≡ judge_data table c band found
  unfolding judge_data
  judge_inside i f s es limit e t =
      ap (inside_segment table c band) es
      ∙ ap (λ (x : Option ℕ). on_found x (λ k. inside_segment table c band (segment_at table k)) (outside_segments table c band)) (sym f)
      ∙ sym (cond_not _ _ (ap (λ (d : DataLimit). lt d.max_bandwidth_hz c.width) (sym e) ∙ t))

  pub judge_outside :
      found ≡ None → (limit : DataLimit) → limit ≡ limit_for table found → lt limit.max_bandwidth_hz c.width ≡ false
      → outside_segments table c band ≡ judge_data table c band found
  unfolding judge_data
  judge_outside f limit e t =
      ap (λ (x : Option ℕ). on_found x (λ k. inside_segment table c band (segment_at table k)) (outside_segments table c band)) (sym f)
      ∙ sym (cond_not _ _ (ap (λ (d : DataLimit). lt d.max_bandwidth_hz c.width) (sym e) ∙ t))

-- ---- 60 m: an overlapping channel, and the segment

module _ (table : Table) (c : Case) (ch : Channels) (centre : Float) where
  abbrev overlapped : Bool → Decision
  overlapped b = cond b (sixty_channel table c ch centre) (in_sixty_segment table c ch (sixty_channel table c ch centre))

  abbrev chosen : Option ℕ → Decision
  chosen f = on_found f (λ i. sixty_segment table c ch.band (segment_at table i)) (sixty_channel table c ch centre)

  pub overlap_held : holds_of (channel_range_of ch.width_hz centre) c.guarded ≡ true → sixty_channel table c ch centre ≡ sixty_overlap table c ch centre
  unfolding sixty_overlap
  overlap_held h = sym (ap overlapped h)

  module _ (h : holds_of (channel_range_of ch.width_hz centre) c.guarded ≡ false) where
    pub overlap_segment :
        (i : ℕ) → first_in table segments (BandHolds ch.band c.guarded) ≡ Some i
        → sixty_segment table c ch.band (segment_at table i) ≡ sixty_overlap table c ch centre
    unfolding sixty_overlap
    overlap_segment i f = sym (ap overlapped h ∙ ap chosen f)

    pub overlap_channel :
        first_in table segments (BandHolds ch.band c.guarded) ≡ None → sixty_channel table c ch centre ≡ sixty_overlap table c ch centre
    unfolding sixty_overlap
    overlap_channel f = sym (ap overlapped h ∙ ap chosen f)
