-- `writer::put_records` meets its contract: one record behind the other.
use Rattle.std.proofs.Common.{◌≡◌}
use Rattle.std.proofs.lemmas.List.Edits.{sets}
use Rattle.writer.specs.Image.{records_bytes}
use Rattle.writer.proofs.put_records.Given as goal

abbrev pub invariant-loop-k : goal.invariant-loop-k
invariant-loop-k l = l.out ≡ sets l.initial.out l.at (records_bytes l.records l.k)
