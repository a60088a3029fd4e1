-- The answer by what the tests say, and what an accepted call knows of its image and its stretch.
use Rattle.std.specs.Prelude.{◌≡◌, ℕ, not, List, [], ◌∷◌, ◌++◌, replicate, ℤ, FitsSigned, Result, Ok, Err}
use Rattle.std.specs.Result.{result_and}
use Rattle.std.specs.Int.{w64}
use Rattle.std.proofs.lemmas.Int.{to_z-of_z}
use Rattle.codes.specs.declared.Refusal.TheVariants as refusal
use Rattle.codes.specs.declared.Refusal.{Refusal}
use Rattle.codes.specs.Refusal.{Checked, test, refusal_of}
use Rattle.std.proofs.Math.Path.{sym}
use Rattle.std.proofs.Common.{ap, ◌∙◌, to_z, of_z}
use Rattle.codes.specs.Read.{kind_of, direction_of}
use Rattle.codes.specs.Laws.{refusal_both}
use Rattle.codes.specs.declared.Policy.TheVariants.{Rules}
use Rattle.codes.specs.declared.EmissionKind.{EmissionKind}
use Rattle.codes.specs.declared.Direction.{Direction}
use Rattle.occupancy.specs.declared.Edges.{Edges}
use Rattle.station.specs.Station.{mark_valid, situation_of}
use Rattle.station.specs.declared.StationRecord.{StationRecord}
use Rattle.station.specs.declared.Situation.{Situation}
use Rattle.layout.specs.Form.{Whole}
use Rattle.table.specs.Table.{table_of}
use Rattle.entry.specs.Entry.{edges_read}
use Rattle.verdict.specs.Verdict.{beside_valid, edge_tests, evaluate_tests}
use Rattle.verdict.specs.Laws.{rules_whole}
use Rattle.census.specs.declared.Census.{Census}
use Rattle.census.specs.Census.{dial_at, dials_of, code_at, counts_of, dialled, undialled, stretch_tests, front_tests, census_tests, counted, unless_refused, census_of}
use Rattle.census.specs.Lifted.{in_turn_holds, unless, stretch_of, and_unless}

-- the counts of a call
abbrev pub counts_in : StationRecord → ℕ → ℕ → Edges → List ℕ → ℤ → ℕ → List ℕ
counts_in r kind direction e l first n =
    counts_of (λ k. code_at (table_of l) (situation_of r) (kind_of kind) (direction_of direction) (edges_read e) (dial_at first k)) n

-- the same parts, the same counts
pub counts_same : {l l' : List ℕ} {s t : Situation} {kind kind' : EmissionKind} {direction direction' : Direction} {e e' : Edges} {first first' : ℤ} {n n' : ℕ}
    → l ≡ l' → s ≡ t → kind ≡ kind' → direction ≡ direction' → e ≡ e' → first ≡ first' → n ≡ n'
    → counted (counts_of (λ k. code_at (table_of l) s kind direction e (dial_at first k)) n)
    ≡ counted (counts_of (λ k. code_at (table_of l') t kind' direction' e' (dial_at first' k)) n')
counts_same {l} {l'} {s} {t} {kind} {kind'} {direction} {direction'} {e} {e'} {first} {first'} {n} {n'} h a b c d f g =
    ap (λ (x : List ℕ). counted (counts_of (λ k. code_at (table_of x) s kind direction e (dial_at first k)) n)) h
    ∙ ap (λ (x : Situation). counted (counts_of (λ k. code_at (table_of l') x kind direction e (dial_at first k)) n)) a
    ∙ ap (λ (x : EmissionKind). counted (counts_of (λ k. code_at (table_of l') t x direction e (dial_at first k)) n)) b
    ∙ ap (λ (x : Direction). counted (counts_of (λ k. code_at (table_of l') t kind' x e (dial_at first k)) n)) c
    ∙ ap (λ (x : Edges). counted (counts_of (λ k. code_at (table_of l') t kind' direction' x (dial_at first k)) n)) d
    ∙ ap (λ (x : ℤ). counted (counts_of (λ k. code_at (table_of l') t kind' direction' e' (dial_at x k)) n)) f
    ∙ ap (λ (x : ℕ). counted (counts_of (λ k. code_at (table_of l') t kind' direction' e' (dial_at first' k)) x)) g

module _ (r : StationRecord) (kind direction : ℕ) (e : Edges) (l : List ℕ) (first last : ℤ) where
  by : Checked → Census
  by x = unless_refused x (counts_in r kind direction e l first (dials_of first last))

  pub census_refused : (n : Refusal) → refusal_of (census_tests r kind direction e l first last) ≡ Err n
      → record { refusal = Err n; counts = replicate 25 0 } ≡ census_of r kind direction e l first last
  unfolding census_of by
  census_refused n q = sym (ap by q)

  pub census_counted : refusal_of (census_tests r kind direction e l first last) ≡ Ok tt
      → counted (counts_in r kind direction e l first (dials_of first last)) ≡ census_of r kind direction e l first last
  unfolding census_of by
  census_counted q = sym (ap by q)

-- what the front and the stretch, whose ends are read back from their bits, say one after the other
pub census_said :
    (r : StationRecord) (kind direction : ℕ) (e : Edges) (l : List ℕ) (first last : ℤ) → FitsSigned w64 first → FitsSigned w64 last
    → (front : Checked) (dials both : Result ℕ Refusal)
    → front ≡ refusal_of (front_tests r kind direction e l) → dials ≡ stretch_of (to_z w64 (of_z w64 first)) (to_z w64 (of_z w64 last))
    → both ≡ result_and front dials → both ≡ unless (refusal_of (census_tests r kind direction e l first last)) (dials_of first last)
census_said r kind direction e l first last f g front dials both p q b =
    let tests = front_tests r kind direction e l in
    b ∙ ap (λ (x : Checked). result_and x dials) p
    ∙ ap (λ (x : Result ℕ Refusal). result_and (refusal_of tests) x)
    (q ∙ ap (λ (z : ℤ). stretch_of z (to_z w64 (of_z w64 last))) (to_z-of_z w64 first f) ∙ ap (λ (z : ℤ). stretch_of first z) (to_z-of_z w64 last g))
    ∙ and_unless (refusal_of tests) (refusal_of (stretch_tests first last)) (dials_of first last)
    ∙ sym (ap (λ (x : Checked). unless x (dials_of first last)) (in_turn_holds tests (stretch_tests first last)))

module _ (r : StationRecord) (kind direction : ℕ) (e : Edges) (l : List ℕ) (first last : ℤ)
    (accepted : refusal_of (census_tests r kind direction e l first last) ≡ Ok tt) where
  both : (refusal_of (evaluate_tests (undialled r) kind direction e l) ≡ Ok tt) × (refusal_of (stretch_tests first last) ≡ Ok tt)
  both =
      refusal_both (evaluate_tests (undialled r) kind direction e l) (stretch_tests first last)
      (refusal_both (test refusal.StationCode (not (mark_valid r.dial_known)) ∷ []) (evaluate_tests (undialled r) kind direction e l ++ stretch_tests first last) accepted).1

  pub front_verdict : refusal_of (evaluate_tests (undialled r) kind direction e l) ≡ Ok tt
  front_verdict = both.0

  pub front_stretch : refusal_of (stretch_tests first last) ≡ Ok tt
  front_stretch = both.1

  pub front_whole : (situation_of r).policy ≡ Rules → Whole l
  unfolding situation_of dialled
  front_whole p = rules_whole (undialled r) (beside_valid kind direction) l (edge_tests e) front_verdict p
