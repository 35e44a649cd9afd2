-- By root.
use borrow.Author.Tests.{eq-eqb, ne_eqb}
use Rattle.table_offsets.specs.Check.{end_ok, pick_b}
use Rattle.check_class.proofs.roles.end_ok.Goals as goal

pub returns-then-root-eq-PACKET_CONTEXT : goal.returns-then-root-eq-PACKET_CONTEXT
unfolding end_ok pick_b
returns-then-root-eq-PACKET_CONTEXT c = simp (eq-eqb _ _ c.if-root-eq-PACKET_CONTEXT.true)

pub returns-else-root-eq-PACKET_CONTEXT : goal.returns-else-root-eq-PACKET_CONTEXT
unfolding end_ok pick_b
returns-else-root-eq-PACKET_CONTEXT c = simp (ne_eqb _ _ c.if-root-eq-PACKET_CONTEXT.false)
