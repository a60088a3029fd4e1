-- `dials::safe_dials` meets its contract: the entry's refusal, no rows without Rules, and the list's own answer.
use Rattle.std.proofs.Common.{rules, ◌≡◌, refl, sym, ◌∙◌, ℕ, Result, Err, []}
use borrow.Author.Tests.{eq-eqb, ne_eqb}
use Rattle.codes.specs.Read.{direction_valid, direction_of}
use Rattle.codes.specs.declared.Refusal.{Refusal}
use Rattle.station.specs.Station.{situation_of}
use Rattle.entry.specs.Entry.{entry_of, edges_read}
use Rattle.table.specs.Table.{table_of}
use Rattle.dials.specs.List.{situation_rows, list_rows, Filled}
use Rattle.dials.specs.Answer.{filled_none, safe_refused, safe_filled, rows_free, rows_rules}
use Rattle.dials.proofs.safe_dials.Goals as goal

pub returns-in_err-admit : goal.returns-in_err-admit
returns-in_err-admit c =
    let a = c.args in
    let said : c.admit.result ≡ entry_of a.r (direction_valid a.direction) a.image.now = rw c.direction_valid.ensures at c.admit.ensures in
    let same : ◌≡◌ {A = Result ℕ Refusal} c.from_residual.result (Err c.in_err-admit.field-0.0) = search rules in
    rw same (safe_refused a.r a.direction a.e a.image.now a.rows.now _ (sym c.in_err-admit.was ∙ said))

pub returns-then-r-ne2 : goal.returns-then-r-ne2
returns-then-r-ne2 c =
    let a = c.args in
    let said : c.admit.result ≡ entry_of a.r (direction_valid a.direction) a.image.now = rw c.direction_valid.ensures at c.admit.ensures in
    safe_filled a.r a.direction a.e a.image.now a.rows.now [] _ _
    (sym c.in_ok-admit.was ∙ said)
    (sym c.edges_valid.ensures ∙ c.if-not-edges_valid.false)
    (rows_free a.r a.direction a.e a.image.now a.rows.now (ne_eqb _ _ c.if-r-ne2.true))
    (filled_none _)

pub returns : goal.returns
returns c =
    let a = c.args in
    let said : c.admit.result ≡ entry_of a.r (direction_valid a.direction) a.image.now = rw c.direction_valid.ensures at c.admit.ensures in
    let asked : Filled (situation_rows (table_of a.image.now) (situation_of a.r) (direction_of a.direction) (edges_read a.e)) a.rows.now c.situation_list.new.rows c.situation_list.result =
    rw c.situation_of-s.ensures at (rw c.edges_read-read.ensures at (rw c.from.ensures at (rw c.of.ensures at c.situation_list.ensures))) in
    safe_filled a.r a.direction a.e a.image.now a.rows.now (list_rows a.r a.direction a.e a.image.now) _ _
    (sym c.in_ok-admit.was ∙ said)
    (sym c.edges_valid.ensures ∙ c.if-not-edges_valid.false)
    refl
    (rw (rows_rules a.r a.direction a.e a.image.now a.rows.now (eq-eqb _ _ c.if-r-ne2.false)) asked)
