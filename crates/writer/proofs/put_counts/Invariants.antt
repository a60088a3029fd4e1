-- `writer::put_counts` meets its contract: one count behind the other.
use Rattle.std.proofs.Common.{◌≡◌}
use Rattle.std.proofs.lemmas.List.Edits.{sets}
use Rattle.writer.specs.Image.{count_bytes}
use Rattle.writer.proofs.put_counts.Given as goal

abbrev pub invariant-loop-t : goal.invariant-loop-t
invariant-loop-t l = l.out ≡ sets l.initial.out l.at (count_bytes l.counts l.t)
