use Prim.Native.Nat.{◌-◌}
use lib.ListN.{length}
use Rattle.class_layout.proofs.Written.{FragmentsLeft}
use Rattle.class_notes.proofs.note_fragments.Given as goal

abbrev pub invariant-loop-at : goal.invariant-loop-at
invariant-loop-at l = FragmentsLeft l.table l.initial.sizes l.sizes l.at

abbrev pub decreases-loop-at : goal.decreases-loop-at
decreases-loop-at l = length l.table - l.at
