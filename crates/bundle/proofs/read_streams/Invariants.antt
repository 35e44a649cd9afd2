use Rattle.bundle.proofs.Streams.{Going}
use Rattle.bundle.proofs.read_streams.Given as goal

abbrev pub invariant-loop-i : goal.invariant-loop-i
invariant-loop-i l =
    Going l.table l.streams l.lengths l.rooms l.initial.list l.initial.marks l.i l.from l.at l.list l.marks
