use Rattle.bundle_table.proofs.Walked.{Copying}
use Rattle.bundle_table.proofs.copy_kept.Given as goal

abbrev pub invariant-loop-at : goal.invariant-loop-at
invariant-loop-at l = Copying l.table l.sizes l.marks l.initial.out l.out l.at-iterator l.to
