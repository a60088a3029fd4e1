-- The one code, which is the code at each dial of the stretch, or each dial's own.
use Rattle.std.proofs.Common.{ap, ◌∙◌, subst}
use Rattle.census.specs.Census.{dial_at, code_on, counted}
use Rattle.census.specs.Coded.{code_numbered}
use Rattle.census.specs.Counts.{Numbered, counts_one}
use Rattle.census.proofs.count_stretch.Goals as goal

pub count_same-requires : goal.count_same-requires
count_same-requires c = (subst Numbered (c.in-Some.ensures (dial_at c.args.first 0)) (code_numbered _ _ _ _ _ _), c.requires.1)

pub returns-in-Some : goal.returns-in-Some
returns-in-Some c =
    let a = c.args in
    let numbered = subst Numbered (c.in-Some.ensures (dial_at a.first 0)) (code_numbered _ _ _ _ _ _) in
    c.count_same.ensures
    ∙ ap counted
    (counts_one (λ k. code_on a.x.now (dial_at a.first k)) c.in-Some.code (λ k. c.in-Some.ensures (dial_at a.first k)) numbered a.count)
