-- The base image, copied to the front of the bytes that were lent.
use Rattle.std.specs.Prelude.{ℕ, ◌+◌, ◌≤◌, ◌≡◌, refl, length, take}
use mathlib.Core.List.{List, ◌++◌}
use Rattle.std.proofs.Math.Path.{ap}
use Rattle.std.proofs.Common.{◌∙◌, arith}
use Rattle.std.proofs.Math.ListN.{drop}
use Rattle.std.proofs.Math.Seq.{take-length}
use Rattle.std.proofs.lemmas.List.Edits.{sets, sets-eq}
use Rattle.amended.specs.Amended.{amended_to}
use Rattle.amend.specs.Laws.{put_none}

pub put_base :
    (l a : List ℕ) (day : ℕ) (lent : List ℕ) → length l ≤ length lent
    → sets lent 0 (take (length l) (drop 0 l)) ≡ amended_to l a day 0 ++ drop (length l) lent
put_base l a day lent h =
    let z : 0 + length l ≡ length l = omega arith in
    ap (sets lent 0) (take-length l)
    ∙ sets-eq l lent 0 (omega arith)
    ∙ ap (λ (n : ℕ). l ++ drop n lent) z
    ∙ put_none l a day lent l refl
