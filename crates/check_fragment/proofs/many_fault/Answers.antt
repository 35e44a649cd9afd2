-- Not below 512 is above 511.
use native.Mathlib.Omega.{arith}
use borrow.Author.Tests.{lt-ltb, le-ltb}
use Rattle.table_offsets.specs.Check.{pick_n}
use Rattle.table_offsets.specs.Faults.{number, fault_number}
use Rattle.check_fragment.proofs.many_fault.Goals as goal

pub returns-then-is_many : goal.returns-then-is_many
unfolding fault_number number pick_n
returns-then-is_many c = simp (lt-ltb 511 c.args.n (omega (arith, c.if-is_many.true)))

pub returns : goal.returns
unfolding fault_number number pick_n
returns c = simp (le-ltb 511 c.args.n (omega (arith, c.if-is_many.false)))
