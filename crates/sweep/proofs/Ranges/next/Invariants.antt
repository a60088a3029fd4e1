-- `Ranges::next` meets its contract: what is left to sweep gives what the whole does.
use Rattle.std.proofs.Common.{◌≡◌}
use Rattle.table.specs.Table.{table_of}
use Rattle.sweep.specs.Sweep.{sweep}
use Rattle.sweep.proofs.Ranges.next.Given as goal

abbrev pub invariant-loop-i : goal.invariant-loop-i
invariant-loop-i l =
    sweep ((table_of l.self.image.now).at l.self.table) l.m l.window l.self.count l.from ≡ sweep ((table_of l.self.image.now).at l.self.table) l.m l.window l.self.count l.i
