-- By kind.
use borrow.Author.Tests.{eq-eqb, ne_eqb}
use Rattle.table_offsets.specs.Check.{traced, pick_b}
use Rattle.check_table.proofs.traced.Goals as goal

pub returns-then-k-eq-TRACE_CLASS : goal.returns-then-k-eq-TRACE_CLASS
unfolding traced pick_b
returns-then-k-eq-TRACE_CLASS c = simp (eq-eqb _ _ c.if-k-eq-TRACE_CLASS.true)

pub returns-else-k-eq-TRACE_CLASS : goal.returns-else-k-eq-TRACE_CLASS
unfolding traced pick_b
returns-else-k-eq-TRACE_CLASS c = simp (ne_eqb _ _ c.if-k-eq-TRACE_CLASS.false)
