use mathlib.Core.Path.{◌≡◌}
use lib.ListN.{length}
use Rattle.class_layout.specs.Notes.{notes, note_below}
use Rattle.class_notes.proofs.note_classes.Given as goal

abbrev pub invariant-loop-at : goal.invariant-loop-at
invariant-loop-at l =
    note_below l.table (length l.table) (notes l.initial.sizes l.initial.aligns) ≡ note_below l.table l.at (notes l.sizes l.aligns)
