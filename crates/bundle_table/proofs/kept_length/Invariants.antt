use Rattle.bundle_table.proofs.Walked.{Counting}
use Rattle.bundle_table.proofs.kept_length.Given as goal

abbrev pub invariant-loop-at : goal.invariant-loop-at
invariant-loop-at l = Counting l.table l.sizes l.marks l.at-iterator l.count
