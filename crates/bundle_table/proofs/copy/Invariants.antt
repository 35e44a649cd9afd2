use Rattle.bundle_table.proofs.Copies.{Copies}
use Rattle.bundle_table.proofs.copy.Given as goal

abbrev pub invariant-loop-i : goal.invariant-loop-i
invariant-loop-i l = Copies l.table l.from l.size l.initial.out l.to l.out l.i
