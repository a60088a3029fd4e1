-- When the answer is a refusal, and when "not judged" (document 02, 11): "where one of these premises fails, and only there, the answer is
-- "not judged". A numbered refusal comes first."
use Rattle.std.specs.Prelude.{ℕ, Bool, true, false, cond, List, ◌≡◌, Option, Some, None, Result, Ok, Err, Float}
use Rattle.codes.specs.Refusal.{Checked, refusal_of}
use Rattle.codes.specs.declared.Refusal.{Refusal}
use Rattle.std.proofs.lemmas.Bool.{false≢true}
use Rattle.std.proofs.Math.Path.{refl}
use Rattle.std.proofs.Common.{sym, ap, ◌∙◌, arith}
use Rattle.codes.specs.Read.{direction_of}
use Rattle.occupancy.specs.declared.Edges.{Edges}
use Rattle.station.specs.Station.{situation_of}
use Rattle.station.specs.declared.StationRecord.{StationRecord}
use Rattle.table.specs.Table.{table_of}
use Rattle.entry.specs.Entry.{edges_read}
use Rattle.nearest.specs.Nearest.{judged_of, answer_of, nearest_from, nearest_in, nearest_tests, nearest_unless_refused, nearest_of}
use Rattle.nearest.specs.declared.Nearest.{Nearest}
use Rattle.nearest.specs.declared.Nearest.TheVariants.{Dial, NoneAllowed, NotJudged}

-- ---- an answer by its tests and its premises

not_judged_is : (c : Checked) (j : Bool) (b : Option Float) → nearest_unless_refused c (cond j (answer_of b) NotJudged) ≡ Ok NotJudged → (c ≡ Ok tt) × (j ≡ false)
not_judged_is (Ok tt) true (Some x) e = absurd (let z : ◌≡◌ {A = ℕ} 0 1 = cc in omega arith)
not_judged_is (Ok tt) true None e = absurd (let z : ◌≡◌ {A = ℕ} 0 1 = cc in omega arith)
not_judged_is (Ok tt) false b e = (refl, refl)
not_judged_is (Err n) j b e = absurd (let z : ◌≡◌ {A = ℕ} 0 1 = cc in omega arith)

refused_is : (c : Checked) (j : Bool) (b : Option Float) (n : Refusal) → nearest_unless_refused c (cond j (answer_of b) NotJudged) ≡ Err n → c ≡ Err n
refused_is (Ok tt) true (Some x) n e = absurd (let z : ◌≡◌ {A = ℕ} 0 1 = cc in omega arith)
refused_is (Ok tt) true None n e = absurd (let z : ◌≡◌ {A = ℕ} 0 1 = cc in omega arith)
refused_is (Ok tt) false b n e = absurd (let z : ◌≡◌ {A = ℕ} 0 1 = cc in omega arith)
refused_is (Err k) j b n e = cc

pub dial_of : (b : Option Float) (x : Float) → ◌≡◌ {A = Result Nearest Refusal} (Ok (answer_of b)) (Ok (Dial x)) → b ≡ Some x
dial_of (Some y) x e = cc
dial_of None x e = absurd (let z : ◌≡◌ {A = ℕ} 0 1 = cc in omega arith)

pub none_of : (b : Option Float) → ◌≡◌ {A = Result Nearest Refusal} (Ok (answer_of b)) (Ok NoneAllowed) → b ≡ None
none_of (Some y) e = absurd (let z : ◌≡◌ {A = ℕ} 0 1 = cc in omega arith)
none_of None e = refl

-- a dial, or that there is none
abbrev pub answers : Result Nearest Refusal → Bool
answers (Ok (Dial x)) = true
answers (Ok NoneAllowed) = true
answers (Ok NotJudged) = false
answers (Err n) = false

answers_is : (c : Checked) (j : Bool) (b : Option Float) → answers (nearest_unless_refused c (cond j (answer_of b) NotJudged)) ≡ true → (c ≡ Ok tt) × (j ≡ true)
answers_is (Ok tt) true b e = (refl, refl)
answers_is (Ok tt) false b e = absurd (false≢true e)
answers_is (Err n) j b e = absurd (false≢true e)

found_answers : (b : Option Float) → answers (Ok (answer_of b)) ≡ true
found_answers (Some x) = refl
found_answers None = refl

module _ (r : StationRecord) (direction : ℕ) (e : Edges) (l : List ℕ) where
  -- what the tests say
  abbrev pub refusal : Checked
  refusal = refusal_of (nearest_tests r direction e l)

  -- every premise is met
  abbrev pub judged : Bool
  judged = judged_of (table_of l) (situation_of r) (edges_read e)

  -- what the search leaves
  abbrev pub found : Option Float
  found = nearest_from (table_of l) (situation_of r) (direction_of direction) (edges_read e) (situation_of r).dial

  pub answer_is : nearest_of r direction e l ≡ nearest_unless_refused refusal (cond judged (answer_of found) NotJudged)
  unfolding nearest_of nearest_in
  answer_is = refl

  -- "Not judged" exactly if nothing is refused and a premise fails.
  pub not_judged_only : nearest_of r direction e l ≡ Ok NotJudged → (refusal ≡ Ok tt) × (judged ≡ false)
  not_judged_only h = not_judged_is refusal judged found (sym answer_is ∙ h)

  pub not_judged_where : refusal ≡ Ok tt → judged ≡ false → nearest_of r direction e l ≡ Ok NotJudged
  not_judged_where h k =
      answer_is ∙ ap (λ (c : Checked). nearest_unless_refused c (cond judged (answer_of found) NotJudged)) h
      ∙ ap (λ (b : Bool). Ok (cond b (answer_of found) NotJudged)) k

  -- A refusal exactly if a test refuses, with the number of the first that does.
  pub refused_only : (n : Refusal) → nearest_of r direction e l ≡ Err n → refusal ≡ Err n
  refused_only n h = refused_is refusal judged found n (sym answer_is ∙ h)

  pub refused_where : (n : Refusal) → refusal ≡ Err n → nearest_of r direction e l ≡ Err n
  refused_where n h = answer_is ∙ ap (λ (c : Checked). nearest_unless_refused c (cond judged (answer_of found) NotJudged)) h

  -- Else it is the nearest dial of the rows, or none.
  pub judged_where : refusal ≡ Ok tt → judged ≡ true → nearest_of r direction e l ≡ Ok (answer_of found)
  judged_where h k =
      answer_is ∙ ap (λ (c : Checked). nearest_unless_refused c (cond judged (answer_of found) NotJudged)) h
      ∙ ap (λ (b : Bool). Ok (cond b (answer_of found) NotJudged)) k

  -- A dial, or that there is none, exactly if nothing is refused and every premise is met.
  pub answers_where : refusal ≡ Ok tt → judged ≡ true → answers (nearest_of r direction e l) ≡ true
  answers_where h k = ap answers (judged_where h k) ∙ found_answers found

  pub answers_only : answers (nearest_of r direction e l) ≡ true → (refusal ≡ Ok tt) × (judged ≡ true)
  answers_only h = answers_is refusal judged found (sym (ap answers answer_is) ∙ h)
