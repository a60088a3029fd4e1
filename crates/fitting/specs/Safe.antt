-- What the numbers of the boundary say to whoever looks at one of them alone. A refusal's number is never 0, so 0 says that nothing was
-- refused; and what is absent or refused permits nothing.
use Rattle.std.specs.Prelude.{ℕ, ◌<◌, Bool, true, false, not, cond, ◌&&◌, List, [], ◌∷◌, ◌++◌, ◌≡◌, refl, eqb, ltb, Float, Option, Some, None, Result, Ok, Err}
use Rattle.codes.specs.declared.Refusal.TheVariants as refusal
use Rattle.codes.specs.Refusal.{Checked, Test, test, number_of, is_named, refusal_of}
use Rattle.codes.specs.Laws.{all_named}
use Rattle.codes.specs.declared.Refusal.{Refusal}
use Rattle.std.proofs.Common.{true≢false, sym, ap, ◌∙◌, arith, ltb-true, lt-ltb}
use Rattle.std.specs.Float.Ieee.{eq, of_bits}
use Rattle.figures.specs.Figure.{zero_hz}
use Rattle.codes.specs.Read.{direction_valid}
use Rattle.occupancy.specs.declared.Edges.{Edges}
use Rattle.scan.specs.Laws.{and_true}
use Rattle.station.specs.declared.StationRecord.{StationRecord}
use Rattle.entry.specs.Entry.{entry_tests, edges_valid}
use Rattle.decision.specs.Decision.{is_blocked, refused_of}
use Rattle.decision.specs.Number.{verdict_number}
use Rattle.decision.specs.declared.Verdict.{Verdict}
use Rattle.decision.specs.declared.Verdict.TheVariants.{Legal, Warning, Blocked}
use Rattle.verdict.specs.Verdict.{beside_valid, edge_tests, evaluate_tests, unless_refused, evaluate_of}
use Rattle.ceiling.specs.Ceiling.{limit_of, ceiling_of}
use Rattle.ceiling.specs.Run.{limit_blocked}
use Rattle.rows.specs.declared.SafeDial.{SafeDial}
use Rattle.dials.specs.List.{list_rows, lent_tests, list_tests, answer_of}
use Rattle.nearest.specs.declared.Nearest.{Nearest}
use Rattle.nearest.specs.declared.Nearest.TheVariants.{Dial, NoneAllowed, NotJudged}
use Rattle.numbers.specs.Refusal.{refusal_number}
use Rattle.flat_answers.specs.declared.FlatDials.{FlatDials}
use Rattle.flat.specs.Flat.{flat_of, ceiling_beside, ceiling_flat}
use Rattle.flat_answers.specs.Answers.{dials_flat, FlatDialed, infinity_hz, distance_flat, nearest_flat}
use Rattle.fitting.specs.Guided.{decision, evaluate_refusal}
use Rattle.fitting.specs.Named.{number_above, entry_named}

-- ---- no call refuses by number 0

abbrev numbered : List Test → Bool
numbered [] = true
numbered (t ∷ ts) = ltb 0 (number_of t.refusal) && numbered ts

numbered_both : (a b : List Test) → numbered a ≡ true → numbered b ≡ true → numbered (a ++ b) ≡ true
numbered_both [] b p q = q
numbered_both (t ∷ ts) b p q =
    let h = and_true (ltb 0 (number_of t.refusal)) (numbered ts) p in
    rw h.0 (numbered_both ts b h.1 q)

-- So 0 says that no test refused.
nothing_refused : (ts : List Test) → numbered ts ≡ true → refusal_number (refusal_of ts) ≡ 0 → refusal_of ts ≡ Ok tt
nothing_refused [] p e = refl
nothing_refused (t ∷ ts) p e =
    let h = and_true (ltb 0 (number_of t.refusal)) (numbered ts) p in
    go t.fails (ltb-true 0 (number_of t.refusal) h.0) (nothing_refused ts h.1) e
  where
    go :
        (f : Bool) → 0 < number_of t.refusal → (refusal_number (refusal_of ts) ≡ 0 → refusal_of ts ≡ Ok tt)
        → refusal_number (cond f (Err t.refusal) (refusal_of ts)) ≡ 0 → cond f (Err t.refusal) (refusal_of ts) ≡ Ok tt
    go true h next q = absurd (omega (arith, h, q))
    go false h next q = next q

-- The tests of a call are such, for their refusals have names.
named_numbered : (ts : List Test) → all_named ts ≡ true → numbered ts ≡ true
named_numbered [] p = refl
named_numbered (t ∷ ts) p =
    let h = and_true (is_named t.refusal) (all_named ts) p in
    rw (lt-ltb 0 (number_of t.refusal) (number_above t.refusal h.0)) (named_numbered ts h.1)

entry_numbered : (r : StationRecord) (beside : Bool) (l : List ℕ) → numbered (entry_tests r beside l) ≡ true
entry_numbered r beside l = named_numbered (entry_tests r beside l) (entry_named r beside l)

pub verdict_not_refused :
    (r : StationRecord) (kind direction : ℕ) (e : Edges) (l : List ℕ) → (flat_of (evaluate_of r kind direction e l)).refusal ≡ 0
    → (evaluate_of r kind direction e l).refusal ≡ Ok tt
unfolding flat_of
verdict_not_refused r kind direction e l z =
    let same = evaluate_refusal r kind direction e l in
    same
    ∙ nothing_refused (evaluate_tests r kind direction e l)
    (numbered_both (entry_tests r (beside_valid kind direction) l) (edge_tests e) (entry_numbered r (beside_valid kind direction) l) refl)
    (ap refusal_number (sym same) ∙ z)

-- A list with refusal 0 fitted, and its count is that of its rows.
pub list_not_refused :
    (r : StationRecord) (direction : ℕ) (e : Edges) (l lent left : List ℕ) (answer : FlatDials) → FlatDialed r direction e l lent left answer
    → answer.refusal ≡ 0 → answer_of (refusal_of (list_tests r direction e l lent)) (list_rows r direction e l) ≡ Ok answer.count
list_not_refused r direction e l lent left answer d z =
    ap (λ (x : Checked). answer_of x xs) none ∙ ap (λ (x : Checked). Ok (dials_flat (answer_of x xs)).count) (sym none)
    ∙ ap (λ (a : FlatDials). Ok a.count) (sym d.answered)
  where
    xs : List SafeDial
    xs = list_rows r direction e l

    tests : List Test
    tests = list_tests r direction e l lent

    number : (x : Checked) → refusal_number x ≡ (dials_flat (answer_of x xs)).refusal
    number (Ok tt) = refl
    number (Err n) = refl

    none : refusal_of tests ≡ Ok tt
    none =
        nothing_refused tests
        (numbered_both (entry_tests r (direction_valid direction) l) (test refusal.SignalEdge (not (edges_valid e)) ∷ lent_tests xs lent)
        (entry_numbered r (direction_valid direction) l) refl)
        (number (refusal_of tests) ∙ sym (ap (λ (a : FlatDials). a.refusal) d.answered) ∙ z)

-- ---- what is absent or refused permits nothing

blocked_number : (v : Verdict) → is_blocked v ≡ true → verdict_number v ≡ 2
blocked_number Legal e = cc
blocked_number Warning e = cc
blocked_number Blocked e = refl

-- The limit of every ceiling is blocked: met, absent or refused.
pub limit_is_blocked :
    (r : StationRecord) (direction : ℕ) (ordinary floor : Edges) (l : List ℕ) (rungs : List Float) (floors : List ℕ)
    → (ceiling_flat (ceiling_of r direction ordinary floor l rungs floors)).limit.verdict ≡ 2
unfolding ceiling_flat ceiling_beside flat_of
limit_is_blocked r direction ordinary floor l rungs floors =
    blocked_number (limit_of (ceiling_of r direction ordinary floor l rungs floors)).verdict (limit_blocked r direction ordinary floor l rungs floors)

-- A verdict with a refusal is blocked.
pub refused_is_blocked :
    (r : StationRecord) (kind direction : ℕ) (e : Edges) (l : List ℕ) (n : Refusal) → (evaluate_of r kind direction e l).refusal ≡ Err n
    → (flat_of (evaluate_of r kind direction e l)).verdict ≡ 2
unfolding flat_of evaluate_of refused_of
refused_is_blocked r kind direction e l n p =
    ap (λ (x : Checked). verdict_number (unless_refused x (decision r kind direction e l)).verdict) (sym (evaluate_refusal r kind direction e l) ∙ p)

-- A distance from nothing, and a refused one, is not nought.
pub unlisted_not_nought : (d : Result (Option Float) Refusal) → (distance_flat d).listed ≡ 0 → eq (distance_flat d).distance_hz zero_hz ≡ false
unfolding eq of_bits
unlisted_not_nought (Ok (Some x)) e = absurd (omega (arith, e))
unlisted_not_nought (Ok None) e = refl
unlisted_not_nought (Err n) e = refl

-- ---- the nearest dial

-- Without a dial its figure is infinite, which no call takes for one.
pub nearest_absent : (x : Result Nearest Refusal) → eqb (nearest_flat x).answer 1 ≡ false → (nearest_flat x).dial_hz ≡ infinity_hz
nearest_absent (Ok (Dial x)) e = absurd (true≢false e)
nearest_absent (Ok NoneAllowed) e = refl
nearest_absent (Ok NotJudged) e = refl
nearest_absent (Err n) e = refl
