use Rattle.leb128.specs.FirstNine.{Passed}
use Rattle.leb128.proofs.first_nine.Given as goal

abbrev pub invariant-loop-passed : goal.invariant-loop-passed
invariant-loop-passed l = Passed l.bytes l.value l.passed
