-- By kind.
use borrow.Author.Tests.{eq-eqb, ne_eqb}
use Rattle.table_offsets.specs.Check.{counted, pick_n}
use Rattle.check_table.proofs.counted.Goals as goal

pub returns-then-k-eq-TRACE_CLASS : goal.returns-then-k-eq-TRACE_CLASS
unfolding counted pick_n
returns-then-k-eq-TRACE_CLASS c = simp (eq-eqb _ _ c.if-k-eq-TRACE_CLASS.true)

pub returns-else-k-eq-TRACE_CLASS : goal.returns-else-k-eq-TRACE_CLASS
unfolding counted pick_n
returns-else-k-eq-TRACE_CLASS c = simp (ne_eqb _ _ c.if-k-eq-TRACE_CLASS.false)
