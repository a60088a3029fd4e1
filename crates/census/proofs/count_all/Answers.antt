-- Before dial k the loop holds the counts of the first k.
use Rattle.std.proofs.Common.{◌≡◌, ◌<◌, ◌≤◌, ℤ, nat_abs, sym, ap, ◌∙◌, subst, arith, w64, to_z, of_z}
use lib.Ieee.{Float}
use mir.ValLaws.{to_z-of_z}
use Rattle.census.specs.Census.{farthest, code_on, counts_of, counted}
use Rattle.census.specs.Coded.{code_numbered}
use Rattle.census.specs.Counts.{Numbered, count_none, held_few, held_next}
use Rattle.census.proofs.count_all.Invariants.{codes}
use Rattle.census.proofs.count_all.Goals as goal

pub loop-k-init : goal.loop-k-init
loop-k-init c = count_none _

pub dial_at-hz-requires : goal.dial_at-hz-requires
dial_at-hz-requires c =
    let a = c in (
      subst (λ (z : ℤ). nat_abs z ≤ farthest) (sym (to_z-of_z w64 a.args.first a.ranges.first)) a.requires.0,
      omega (arith, c.loop-k-test.true, a.requires.1),
    )

pub place-at-requires : goal.place-at-requires
place-at-requires c =
    let code_is : (let a = c.args in
    c.code_at-code.result ≡ codes a.x.now (to_z w64 (of_z w64 a.first)) c.loop-k.k) = (let a = c.args in
    c.code_at-code.ensures ∙ ap (λ (hz : Float). code_on a.x.now hz) c.dial_at-hz.ensures) in
    let numbered : (Numbered c.code_at-code.result) = (subst Numbered (sym (code_is)) (code_numbered _ _ _ _ _ _)) in
    (numbered).above

pub offset_bounds-counts-at : goal.offset_bounds-counts-at
offset_bounds-counts-at c =
    let code_is : (let a = c.args in
    c.code_at-code.result ≡ codes a.x.now (to_z w64 (of_z w64 a.first)) c.loop-k.k) = (let a = c.args in
    c.code_at-code.ensures ∙ ap (λ (hz : Float). code_on a.x.now hz) c.dial_at-hz.ensures) in
    let numbered : (Numbered c.code_at-code.result) = (subst Numbered (sym (code_is)) (code_numbered _ _ _ _ _ _)) in
    let within : (c.place-at.result < 25) = (omega (arith, c.place-at.ensures, (numbered).above, (numbered).within)) in
    record { fits = omega (arith, within) }

pub bounds-counts-at : goal.bounds-counts-at
bounds-counts-at c =
    let code_is : (let a = c.args in
    c.code_at-code.result ≡ codes a.x.now (to_z w64 (of_z w64 a.first)) c.loop-k.k) = (let a = c.args in
    c.code_at-code.ensures ∙ ap (λ (hz : Float). code_on a.x.now hz) c.dial_at-hz.ensures) in
    let numbered : (Numbered c.code_at-code.result) = (subst Numbered (sym (code_is)) (code_numbered _ _ _ _ _ _)) in
    let within : (c.place-at.result < 25) = (omega (arith, c.place-at.ensures, (numbered).above, (numbered).within)) in
    within

pub overflow_add-counts : goal.overflow_add-counts
overflow_add-counts c =
    let code_is : (let a = c.args in
    c.code_at-code.result ≡ codes a.x.now (to_z w64 (of_z w64 a.first)) c.loop-k.k) = (let a = c.args in
    c.code_at-code.ensures ∙ ap (λ (hz : Float). code_on a.x.now hz) c.dial_at-hz.ensures) in
    let numbered : (Numbered c.code_at-code.result) = (subst Numbered (sym (code_is)) (code_numbered _ _ _ _ _ _)) in
    let within : (c.place-at.result < 25) = (omega (arith, c.place-at.ensures, (numbered).above, (numbered).within)) in
    let l = c.loop-k in
    let h = held_few _ l.k l.counts l.invariant c.place-at.result (within) in
    record { fits = omega (arith, h, c.loop-k-test.true, c.requires.1) }

pub offset_bounds-counts-at-in-loop-k : goal.offset_bounds-counts-at-in-loop-k
offset_bounds-counts-at-in-loop-k c =
    let code_is : (let a = c.args in
    c.code_at-code.result ≡ codes a.x.now (to_z w64 (of_z w64 a.first)) c.loop-k.k) = (let a = c.args in
    c.code_at-code.ensures ∙ ap (λ (hz : Float). code_on a.x.now hz) c.dial_at-hz.ensures) in
    let numbered : (Numbered c.code_at-code.result) = (subst Numbered (sym (code_is)) (code_numbered _ _ _ _ _ _)) in
    let within : (c.place-at.result < 25) = (omega (arith, c.place-at.ensures, (numbered).above, (numbered).within)) in
    record { fits = omega (arith, within) }

pub bounds-counts-at-in-loop-k : goal.bounds-counts-at-in-loop-k
bounds-counts-at-in-loop-k c =
    let code_is : (let a = c.args in
    c.code_at-code.result ≡ codes a.x.now (to_z w64 (of_z w64 a.first)) c.loop-k.k) = (let a = c.args in
    c.code_at-code.ensures ∙ ap (λ (hz : Float). code_on a.x.now hz) c.dial_at-hz.ensures) in
    let numbered : (Numbered c.code_at-code.result) = (subst Numbered (sym (code_is)) (code_numbered _ _ _ _ _ _)) in
    let within : (c.place-at.result < 25) = (omega (arith, c.place-at.ensures, (numbered).above, (numbered).within)) in
    within

pub loop-k-preserved : goal.loop-k-preserved
loop-k-preserved c =
    let code_is : (let a = c.args in
    c.code_at-code.result ≡ codes a.x.now (to_z w64 (of_z w64 a.first)) c.loop-k.k) = (let a = c.args in
    c.code_at-code.ensures ∙ ap (λ (hz : Float). code_on a.x.now hz) c.dial_at-hz.ensures) in
    let l = c.loop-k in
    held_next _ l.k l.counts l.invariant c.code_at-code.result c.place-at.result (code_is) c.place-at.ensures
    (code_numbered _ _ _ _ _ _)

pub returns : goal.returns
returns c =
    let l = c.loop-k in
    let e : l.k ≡ c.args.count = omega (arith, c.loop-k-test.false) in
    let code = codes c.args.x.now in
    ap counted
    (l.invariant
    ∙ ap (counts_of (code (to_z w64 (of_z w64 c.args.first)))) e
    ∙ ap (λ (z : ℤ). counts_of (code z) c.args.count) (to_z-of_z w64 c.args.first c.ranges.first))
