use Prim.Native.Nat.{◌-◌, ◌*◌}
use Rattle.rules.specs.Limits.{words_per_entry}
use Rattle.bundle_marks.proofs.Marking.{Marking}
use Rattle.bundle_marks.proofs.mark.Given as goal

abbrev pub invariant-loop-i : goal.invariant-loop-i
invariant-loop-i l = Marking l.table l.list l.initial.marks l.entries l.marks l.front (words_per_entry * l.i) (l.entries - l.i)
