-- The bytes lent, while the amendments are put in place: of how many records, how many bytes they are, and what they hold.
use Rattle.std.specs.Prelude.{ℕ, ◌+◌, ◌<◌, ◌≤◌, ◌≡◌, refl, length, take, Option, Some, None}
use mathlib.Core.List.{List, ◌++◌}
use Rattle.std.proofs.Math.Path.{sym, ap}
use Rattle.std.proofs.Common.{◌∙◌, arith, take-append-drop}
use Rattle.std.proofs.Math.ListN.{drop}
use Rattle.std.proofs.lemmas.List.Edits.{sets}
use Rattle.std.proofs.Math.Seq.{length-sets}
use Rattle.scan.specs.First.{on_found}
use Rattle.layout.specs.Layout.{tables, records_before}
use Rattle.layout.specs.Form.{Whole}
use Rattle.amended.specs.Amended.{replacement_of, counting, slot_at, amended_to, effective_of}
use Rattle.amend.specs.Laws.{put_none as held_none, put_more as held_more}

pub record Putting (l a : List ℕ) (day : ℕ) (lent out : List ℕ) (k : ℕ) : Type 0 where
  pub within : k ≤ records_before l tables
  pub same : length out ≡ length lent
  pub held : out ≡ amended_to l a day k ++ drop (length l) lent

module _ (l a : List ℕ) (day : ℕ) (lent : List ℕ) where
  pub put_none : take (length l) lent ≡ l → Putting l a day lent lent 0
  put_none e =
      record {
        within = omega arith;
        same = refl;
        held = sym (take-append-drop (length l) lent) ∙ held_none l a day lent (take (length l) lent) e;
      }

  pub put_more :
      (out left : List ℕ) (k : ℕ) → Whole l → Putting l a day lent out k → k < records_before l tables
      → left ≡ on_found (counting l a day k) (λ j. sets out (slot_at l k) (replacement_of a j)) out
      → Putting l a day lent left (k + 1)
  put_more out left k w p h e =
      record {
        within = omega arith;
        same = ap length e ∙ lengths (counting l a day k);
        held = held_more l a day lent out left k w p.held h e;
      }
    where
      lengths : (f : Option ℕ) → length (on_found f (λ j. sets out (slot_at l k) (replacement_of a j)) out) ≡ length lent
      lengths (Some j) = length-sets out (slot_at l k) (replacement_of a j) ∙ p.same
      lengths None = p.same

  pub put_all : (out : List ℕ) (k : ℕ) → Putting l a day lent out k → records_before l tables ≤ k → out ≡ effective_of l a day ++ drop (length l) lent
  unfolding effective_of
  put_all out k p h =
      let e : k ≡ records_before l tables = omega (arith, p.within) in
      p.held ∙ ap (λ (n : ℕ). amended_to l a day n ++ drop (length l) lent) e
