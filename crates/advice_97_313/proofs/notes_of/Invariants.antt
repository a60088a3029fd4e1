use Rattle.std.specs.Prelude.{◌≡◌}
use Rattle.table.specs.Table.{table_of}
use Rattle.part97.specs.Part97.{note_at, notes_up_to, any_note}
use Rattle.advice_97_313.proofs.notes_of.Given as goal

-- the notes of the power records before i
abbrev pub invariant-loop-i : goal.invariant-loop-i
invariant-loop-i l =
    (l.marks ≡ notes_up_to (note_at (table_of l.s) l.c l.r) l.i) × (l.any ≡ any_note (note_at (table_of l.s) l.c l.r) l.i)
