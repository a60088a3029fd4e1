-- Where to move the dial to, as document 02 (11) words it: the dial given is open and of all open dials the nearest, the lower of two equally
-- near; none is said exactly if no dial is open, and exactly if no row outside the channel band would be listed.
use Rattle.std.specs.Prelude.{ℕ, ◌+◌, ◌≤◌, ◌^◌, Bool, true, false, ◌&&◌, List, ◌≡◌, refl, eqb, Float, Option, Some, None, Result, Ok}
use Rattle.codes.specs.declared.Refusal.{Refusal}
use Rattle.std.proofs.Common.{true≢false, sym, ap, subst, ◌∙◌, arith, eqb-true, eq-eqb, le-leb}
use Rattle.std.proofs.lemmas.Bool.{false≢true}
use Rattle.std.specs.Float.Ieee.{le, eq}
use Rattle.figures.specs.Figure.{read_hz}
use Rattle.codes.specs.Read.{direction_of}
use Rattle.occupancy.specs.declared.Edges.{Edges}
use Rattle.scan.specs.Laws.{and_true}
use Rattle.lists.specs.Laws.{Every, every_map}
use Rattle.station.specs.Station.{situation_of}
use Rattle.station.specs.declared.StationRecord.{StationRecord}
use Rattle.table.specs.Table.{table_of}
use Rattle.entry.specs.Entry.{edges_read}
use Rattle.rows.specs.declared.SafeDial.{SafeDial}
use Rattle.dials.specs.List.{list_rows}
use Rattle.distance.specs.Distance.{is_outside}
use Rattle.eighths.specs.Grid.{Figure}
use Rattle.eighths.specs.Laws.{le_eighths, eq_eighths}
use Rattle.demand_3.specs.Words.{rules_in_force, has_control, has_license, has_sideband, has_dial, prerequisites_met, station_met, signal_met, station_in_eighths}
use Rattle.demand_3.specs.Tests.{and_both, all_three}
use Rattle.demand_3.specs.Listed.{lies}
use Rattle.nearest_rows.specs.Over.{point_of, before, nearest_over}
use Rattle.nearest.specs.Nearest.{judged_of, answer_of, nearest_from, nearest_of}
use Rattle.nearest.specs.declared.Nearest.{Nearest}
use Rattle.nearest.specs.declared.Nearest.TheVariants.{Dial, NoneAllowed}
use Rattle.nearest_meaning.specs.Words.{Open, AtLeastAsNear}
use Rattle.nearest_meaning.specs.Answers.{refusal, judged, found, answers, judged_where, answers_only, dial_of, none_of}
use Rattle.nearest_meaning.specs.Order.{Spot, figure_spot, read_spot, le_place, place_le, far, far_eighths, key, before_not}
use Rattle.nearest_meaning.specs.Order.{not_before as key-before, by_point, point_spot, point_first, point_low, point_high}
use Rattle.nearest_meaning.specs.Fold.{IfAt, Behind, any_every, Member, members, both_every, Outside, point, over_has, over_behind, nowhere_where, nowhere_only}
use Rattle.nearest_meaning.specs.Rows.{RowDials}
use Rattle.nearest_meaning.specs.Listed.{dial_figure, rows, rows_list, dials_of_holds, listed_open, open_figure, open_listed}

-- ---- two dials by their numbers

near_of : {present x y : Float} (D : Spot present) (X : Spot x) (Y : Spot y) → key D X ≤ key D Y → AtLeastAsNear present x y
near_of {present} {x} {y} D X Y h =
    record {
      not_closer = let u = X.below in let v = Y.below in
          le_eighths (far_eighths D X) (far_eighths D Y) ∙ le-leb (far D X + 0) (far D Y + 0) (omega arith);
      not_lower = λ q.
          let k = eqb-true (far D X + 0) (far D Y + 0) (sym (eq_eighths (far_eighths D X) (far_eighths D Y)) ∙ q) in
          place_le X Y (omega arith);
      not_before = key-before D Y X h;
      before_another = λ n. go (before present x y) refl n;
    }
  where
    go : (b : Bool) → before present x y ≡ b → eq x y ≡ false → b ≡ true
    go true p n = refl
    go false p n =
        let k = before_not D X Y p in
        let u = X.below in
        let v = Y.below in
        absurd
        (true≢false
        (sym (eq_eighths X.eighths Y.eighths ∙ eq-eqb (X.place + 2 ^ 50) (Y.place + 2 ^ 50) (omega arith)) ∙ n))

-- ---- the search

module _
    (r : StationRecord) (direction : ℕ) (e : Edges) (l : List ℕ) (ok : refusal r direction e l ≡ Ok tt) (J : judged r direction e l ≡ true)
  where
    abbrev flags : ℕ
    flags = (table_of l).general.flags

    abbrev channel : ℕ
    channel = (table_of l).general.channel_band

    abbrev all : List SafeDial
    all = rows r direction e l ok J

    module _ (present : Float) (d : (situation_of r).dial ≡ Some present) where
      F : Figure present
      F = dial_figure r direction e l ok J present d

      D : Spot present
      D = figure_spot F

      abbrev left : Option Float
      left = nearest_over present flags channel None all

      search : found r direction e l ≡ left
      search = ap (nearest_from (table_of l) (situation_of r) (direction_of direction) (edges_read e)) d

      -- a dial that is open, and a figure
      record Opened (x : Float) : Type 0 where
        figure : Figure x
        opened : Open r direction e l x

      -- The nearest dial of a row outside the channel band is open.
      point_opened : (x : SafeDial) → RowDials x → is_outside flags channel x.band ≡ true → Member all x → Opened (point present flags channel x)
      point_opened x R o m = record { figure = P; opened = listed_open r direction e l ok J p P (m (lies flags channel (read_hz p)) inside) }
        where
          low : Float
          low = x.dial_low_hz

          high : Float
          high = x.dial_high_hz

          p : Float
          p = point_of present low high

          L : Spot low
          L = figure_spot R.low

          H : Spot high
          H = figure_spot R.high

          P : Figure p
          P = by_point D L H Figure (λ _. R.low) (λ _ _. R.high) (λ _ _. F)

          S : Spot p
          S = figure_spot P

          inside : lies flags channel (read_hz p) x ≡ true
          inside =
              let q = read_spot p S in
              let a = le_place L S (point_low D L H R.ordered) in
              let b = le_place S H (point_high D L H R.ordered) in
              let c = q.same in
              and_both _ _ (and_both _ _ o R.ordered) (and_both _ _ (place_le L q.spot (omega arith)) (place_le q.spot H (omega arith)))

      points : Every (Outside present flags channel (λ x. Opened (point present flags channel x))) all
      points =
          every_map (λ x. (is_outside flags channel x.band ≡ true → RowDials x) × Member all x)
          (Outside present flags channel (λ x. Opened (point present flags channel x)))
          (λ x h o. point_opened x (h.0 o) o h.1) all
          (both_every (λ x. is_outside flags channel x.band ≡ true → RowDials x) (Member all) all (dials_of_holds r direction e l ok J) (members all))

      found_opened : (x : Float) → left ≡ Some x → Opened x
      found_opened x h = subst (IfAt Opened) h (over_has present flags channel Opened all points None tt)

      behind : Every (Outside present flags channel (λ x. Behind present (point present flags channel x) left)) all
      behind =
          over_behind present flags channel D all
          (every_map (Outside present flags channel (λ x. Opened (point present flags channel x)))
          (Outside present flags channel (λ x. Spot (point present flags channel x)))
          (λ x h o. figure_spot (h o).figure) all points)
          None tt

      -- an open dial lies in a row outside the channel band: what is known of that row
      in_row :
          (C : Type 0) (y : Float) → Open r direction e l y
          → ((x : SafeDial) → is_outside flags channel x.band ≡ true → RowDials x → le x.dial_low_hz (read_hz y) ≡ true
          → le (read_hz y) x.dial_high_hz ≡ true → Behind present (point present flags channel x) left → C)
          → C
      in_row C y o f =
          any_every (lies flags channel (read_hz y))
          (λ x. (is_outside flags channel x.band ≡ true → RowDials x)
          × (is_outside flags channel x.band ≡ true → Behind present (point present flags channel x) left)) C
          (λ x t h.
          let low = x.dial_low_hz in
          let high = x.dial_high_hz in
          let a = all_three (is_outside flags channel x.band && le low high) (le low (read_hz y)) (le (read_hz y) high) t in
          let b = and_true (is_outside flags channel x.band) (le low high) a.0 in
          f x b.0 (h.0 b.0) a.1 a.2 (h.1 b.0))
          all (open_listed r direction e l ok J y o)
          (both_every (λ x. is_outside flags channel x.band ≡ true → RowDials x)
          (Outside present flags channel (λ x. Behind present (point present flags channel x) left)) all (dials_of_holds r direction e l ok J) behind)

      found_nearest : (x : Float) → left ≡ Some x → (y : Float) → Open r direction e l y → AtLeastAsNear present x (read_hz y)
      found_nearest x h y o =
          in_row (AtLeastAsNear present x (read_hz y)) y o
          (λ row out R a b k.
          let X = figure_spot (found_opened x h).figure in
          let Y = figure_spot (open_figure r direction e l ok J y o) in
          let L = figure_spot R.low in
          let H = figure_spot R.high in
          let P = point_spot D L H in
          let u : key D P ≤ key D Y = before_not D Y P (point_first D L H Y a b) in
          let v : key D X ≤ key D P = before_not D P X (subst (Behind present (point present flags channel row)) h k) in
          near_of D X Y (omega arith))

      none_open : left ≡ None → (y : Float) → Open r direction e l y → ⊥
      none_open h y o = in_row ⊥ y o (λ row out R a b k. subst (Behind present (point present flags channel row)) h k)

-- ---- the present dial is known where the call is judged

record Present (r : StationRecord) : Type 0 where
  hz : Float
  known : (situation_of r).dial ≡ Some hz

present_of : (r : StationRecord) (direction : ℕ) (e : Edges) (l : List ℕ) → judged r direction e l ≡ true → Present r
unfolding judged_of station_met prerequisites_met
present_of r direction e l J =
    let s = situation_of r in
    let a = all_three (station_met (table_of l) s) (signal_met (table_of l) s (edges_read e)) _ J in
    let b = all_three (rules_in_force s) (prerequisites_met (table_of l) s) (station_in_eighths s) a.0 in
    let c = all_three (eqb s.itu_region (table_of l).general.region) (has_control s.control) _ b.1 in
    let f = all_three (has_license s.license) (has_sideband s.sideband) (has_dial s.dial) c.2 in
    go s.dial refl f.2
  where
    go : (x : Option Float) → (situation_of r).dial ≡ x → has_dial x ≡ true → Present r
    go (Some hz) p h = record { hz = hz; known = p }
    go None p h = absurd (false≢true h)

-- ---- what is proved of the answer

module _ (r : StationRecord) (direction : ℕ) (e : Edges) (l : List ℕ) where
  -- no row outside the channel band would be listed
  abbrev pub NoneOutside : Type 0
  NoneOutside =
      Every (λ x. is_outside (table_of l).general.flags (table_of l).general.channel_band x.band ≡ false) (list_rows r direction e l)

  -- no dial is one that one may move to
  abbrev pub NoneOpen : Type 0
  NoneOpen = (y : Float) → Open r direction e l y → ⊥

  -- what the search left, by the answer
  dial_left : (x : Float) → nearest_of r direction e l ≡ Ok (Dial x) → found r direction e l ≡ Some x
  dial_left x h =
      let a = answers_only r direction e l (ap answers h) in
      dial_of (found r direction e l) x (sym (judged_where r direction e l a.0 a.1) ∙ h)

  none_left : nearest_of r direction e l ≡ Ok NoneAllowed → found r direction e l ≡ None
  none_left h =
      let a = answers_only r direction e l (ap answers h) in
      none_of (found r direction e l) (sym (judged_where r direction e l a.0 a.1) ∙ h)

  -- The dial given is open: in eighths, not refused, off the channel band, and data is allowed there.
  pub dial_open : (x : Float) → nearest_of r direction e l ≡ Ok (Dial x) → Open r direction e l x
  dial_open x h =
      let a = answers_only r direction e l (ap answers h) in
      let p = present_of r direction e l a.1 in
      (found_opened r direction e l a.0 a.1 p.hz p.known x (sym (search r direction e l a.0 a.1 p.hz p.known) ∙ dial_left x h)
      ).opened

  -- No open dial is closer to the present one, and of two equally close it is the lower.
  pub dial_nearest :
      (present x : Float) → (situation_of r).dial ≡ Some present → nearest_of r direction e l ≡ Ok (Dial x) → (y : Float) → Open r direction e l y
      → AtLeastAsNear present x (read_hz y)
  dial_nearest present x d h y o =
      let a = answers_only r direction e l (ap answers h) in
      found_nearest r direction e l a.0 a.1 present d x (sym (search r direction e l a.0 a.1 present d) ∙ dial_left x h) y o

  -- None is said exactly if no dial is open …
  pub none_open_only : nearest_of r direction e l ≡ Ok NoneAllowed → NoneOpen
  none_open_only h y o =
      let a = answers_only r direction e l (ap answers h) in
      let p = present_of r direction e l a.1 in
      none_open r direction e l a.0 a.1 p.hz p.known (sym (search r direction e l a.0 a.1 p.hz p.known) ∙ none_left h) y o

  pub none_open_where : refusal r direction e l ≡ Ok tt → judged r direction e l ≡ true → NoneOpen → nearest_of r direction e l ≡ Ok NoneAllowed
  none_open_where a j none = judged_where r direction e l a j ∙ go (found r direction e l) refl
    where
      go : (b : Option Float) → found r direction e l ≡ b → ◌≡◌ {A = Result Nearest Refusal} (Ok (answer_of b)) (Ok NoneAllowed)
      go (Some x) p = absurd (none x (dial_open x (judged_where r direction e l a j ∙ ap (λ (b : Option Float). Ok (answer_of b)) p)))
      go None p = refl

  -- … and exactly if no row outside the channel band would be listed.
  pub none_row_only : nearest_of r direction e l ≡ Ok NoneAllowed → NoneOutside
  none_row_only h =
      let a = answers_only r direction e l (ap answers h) in
      let p = present_of r direction e l a.1 in
      subst (Every (λ x. is_outside (table_of l).general.flags (table_of l).general.channel_band x.band ≡ false))
      (sym (rows_list r direction e l a.0 a.1))
      (nowhere_only p.hz (table_of l).general.flags (table_of l).general.channel_band (rows r direction e l a.0 a.1) None
      (sym (search r direction e l a.0 a.1 p.hz p.known) ∙ none_left h))

  pub none_row_where : refusal r direction e l ≡ Ok tt → judged r direction e l ≡ true → NoneOutside → nearest_of r direction e l ≡ Ok NoneAllowed
  none_row_where a j none =
      let p = present_of r direction e l j in
      judged_where r direction e l a j
      ∙ ap (λ (b : Option Float). Ok (answer_of b))
      (search r direction e l a j p.hz p.known
      ∙ nowhere_where p.hz (table_of l).general.flags (table_of l).general.channel_band (rows r direction e l a j)
      (subst (Every (λ x. is_outside (table_of l).general.flags (table_of l).general.channel_band x.band ≡ false))
      (rows_list r direction e l a j) none))
