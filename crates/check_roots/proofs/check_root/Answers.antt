-- Where the root stands, its class two bytes on; else nothing is walked.
use mathlib.Core.Path.{sym, ◌∙◌}
use native.Mathlib.Omega.{arith}
use Rattle.table_offsets.specs.Check.{under}
use Rattle.table_offsets.proofs.Ends.{root-head}
use Rattle.table_offsets.proofs.Walked.{root-there, root-not}
use Rattle.table_offsets.specs.Faults.{walk}
use Rattle.check_roots.proofs.check_root.Goals as goal

pub overflow_add-u : goal.overflow_add-u
overflow_add-u c = omega (arith, root-head _ _ _ (sym c.root_here.ensures ∙ c.if-root_here.true))

pub overflow_add-at : goal.overflow_add-at
overflow_add-at c = omega (arith, root-head _ _ _ (sym c.root_here.ensures ∙ c.if-root_here.true))

pub check_class-requires : goal.check_class-requires
check_class-requires c = c.requires

pub returns-then-root_here : goal.returns-then-root_here
unfolding under
returns-then-root_here c = c.check_class.ensures ∙ sym (root-there _ _ _ _ _ (sym c.root_here.ensures ∙ c.if-root_here.true))

pub returns : goal.returns
unfolding walk
returns c = sym (root-not _ _ _ _ _ (sym c.root_here.ensures ∙ c.if-root_here.false))
