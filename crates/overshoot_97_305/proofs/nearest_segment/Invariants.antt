use Rattle.std.specs.Prelude.{◌≡◌}
use Rattle.table.specs.Table.{table_of}
use Rattle.part97.specs.Part97.{nearest_up_to}
use Rattle.overshoot_97_305.proofs.nearest_segment.Given as goal

-- the nearest of the segments before i
abbrev pub invariant-loop-i : goal.invariant-loop-i
invariant-loop-i l = l.best ≡ nearest_up_to (table_of l.s) l.c l.i
