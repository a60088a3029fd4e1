-- `amend::put_image` meets its contract: the base, with the amendments of the first k records in place.
use Rattle.std.proofs.Common.{◌≡◌, ◌++◌, length, drop}
use Rattle.amended.specs.Amended.{amended_to}
use Rattle.amend.proofs.put_image.Given as goal

abbrev pub invariant-loop-k : goal.invariant-loop-k
invariant-loop-k l =
    l.out ≡ amended_to l.e.of.image.now l.e.of.list.bytes.now l.e.of.day l.k ++ drop (length l.e.of.image.now) l.fn.out
