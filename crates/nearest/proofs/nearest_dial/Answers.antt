-- Refused, not under Rules, or judged.
use Rattle.std.proofs.Common.{rules, ◌≡◌, sym, ap, ◌∙◌, Ok, Err, Result}
use Rattle.codes.specs.declared.Refusal.{Refusal}
use Rattle.codes.specs.declared.Policy.TheVariants.{Rules}
use Rattle.codes.specs.Read.{direction_of}
use Rattle.codes.specs.declared.Direction.{Direction}
use Rattle.station.specs.Station.{situation_of}
use Rattle.station.specs.declared.Situation.{Situation}
use Rattle.table.specs.Table.{table_of}
use Rattle.verdict.specs.Verdict.{beside_valid, edge_tests}
use Rattle.verdict.specs.Laws.{rules_whole}
use Rattle.nearest.specs.Nearest.{nearest_in}
use Rattle.nearest.specs.declared.Nearest.{Nearest}
use Rattle.nearest.proofs.Premises.{dial_refused, dial_judged, dial_free, dial_unrefused}
use Rattle.nearest.proofs.nearest_dial.Goals as goal

pub returns-in_err-evaluate_refusals : goal.returns-in_err-evaluate_refusals
returns-in_err-evaluate_refusals c =
    let a = c.args in
    let same : ◌≡◌ {A = Result Nearest Refusal} c.from_residual.result (Err c.in_err-evaluate_refusals.field-0.0) = search rules in
    same ∙ dial_refused a.r a.direction a.e a.image.now _ (sym c.evaluate_refusals.ensures ∙ c.in_err-evaluate_refusals.was)

pub returns-then-ne : goal.returns-then-ne
returns-then-ne c =
    let a = c.args in
    let other : c.situation_of-s.result.policy ≡ Rules → ⊥ = search rules in
    dial_free a.r a.direction a.e a.image.now (sym c.evaluate_refusals.ensures ∙ c.in_ok-evaluate_refusals.was)
    (λ p. other (ap (λ (s : Situation). s.policy) c.situation_of-s.ensures ∙ p))

pub of-requires : goal.of-requires
of-requires c =
    let a = c.args in
    let ok = sym c.evaluate_refusals.ensures ∙ c.in_ok-evaluate_refusals.was in
    let read : c.situation_of-s.result.policy ≡ Rules = search rules in
    let held : (situation_of a.r).policy ≡ Rules = sym (ap (λ (s : Situation). s.policy) c.situation_of-s.ensures) ∙ read in
    rules_whole a.r (beside_valid 0 a.direction) a.image.now (edge_tests a.e) ok held

pub nearest_in-requires : goal.nearest_in-requires
nearest_in-requires c =
    let a = c.args in
    let ok = sym c.evaluate_refusals.ensures ∙ c.in_ok-evaluate_refusals.was in
    let read : c.situation_of-s.result.policy ≡ Rules = search rules in
    let held : (situation_of a.r).policy ≡ Rules = sym (ap (λ (s : Situation). s.policy) c.situation_of-s.ensures) ∙ read in
    (read, rw c.of.ensures (dial_unrefused a.r a.direction a.e a.image.now ok held))

pub returns : goal.returns
returns c =
    let a = c.args in
    let table = table_of a.image.now in
    ap Ok
    (rw c.of.ensures at c.nearest_in.ensures
    ∙ ap (λ (s : Situation). nearest_in table s c.from.result c.edges_read.result) c.situation_of-s.ensures
    ∙ ap (λ (d : Direction). nearest_in table (situation_of a.r) d c.edges_read.result) c.from.ensures
    ∙ ap (nearest_in table (situation_of a.r) (direction_of a.direction)) c.edges_read.ensures)
    ∙ dial_judged a.r a.direction a.e a.image.now (sym c.evaluate_refusals.ensures ∙ c.in_ok-evaluate_refusals.was)
