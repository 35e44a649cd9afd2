use Rattle.rules.specs.Faults.{sign_of}
use Rattle.field_choice.proofs.Search.{RangesPassed}
use Rattle.field_choice.proofs.any_holds.Given as goal

abbrev pub invariant-loop-i : goal.invariant-loop-i
invariant-loop-i l = RangesPassed l.table (sign_of l.sign) l.number l.at l.count l.i
