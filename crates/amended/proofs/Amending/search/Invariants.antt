-- `amended::Amending::search` meets its contract: what counts of the amendments passed.
use Rattle.std.proofs.Common.{◌≡◌}
use Rattle.amended.specs.Amended.{latest}
use Rattle.amended.proofs.Amending.search.Given as goal

abbrev pub invariant-loop-j : goal.invariant-loop-j
invariant-loop-j l = l.found ≡ latest l.self.image.now l.self.list.bytes.now l.self.day l.k l.j
