use Prim.Native.Nat.{◌-◌}
use lib.ListN.{length}
use Rattle.class_layout.proofs.Written.{RecordsLeft}
use Rattle.class_notes.proofs.note_numbers.Given as goal

abbrev pub invariant-loop-at : goal.invariant-loop-at
invariant-loop-at l = RecordsLeft l.table l.initial.aligns l.aligns l.at l.number

abbrev pub decreases-loop-at : goal.decreases-loop-at
decreases-loop-at l = length l.table - l.at
