-- `plain::Run::is_rough` equals its definition: the loop's invariant is that every record before i is plain.
use mathlib.Core.Path.{sym, ap}
use mathlib.Core.Bool.{not}
use native.Mathlib.Omega.{arith}
use Rattle.scan.specs.Laws.{some_true, some_all}
use Rattle.plain.specs.Plain.{rough_from}
use Rattle.plain.proofs.Run.is_rough.Goals as goal

pub returns-then-not-whole_test : goal.returns-then-not-whole_test
unfolding rough_from
returns-then-not-whole_test c =
    sym (some_true _ _ _ c.loop-i-test.true
    (rw (← c.record_at.ensures) (rw (← c.whole_test.ensures) c.if-not-whole_test.true-raw)))

pub returns : goal.returns
unfolding rough_from
returns c = sym (some_all _ _ (λ k h. ap not (c.loop-i.invariant.each k (omega arith) (omega arith))))
