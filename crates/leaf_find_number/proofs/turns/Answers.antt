-- By the offset, and then the orders.
use borrow.Author.Tests.{eq-eqb, ne_eqb}
use Rattle.leaf_find_number.proofs.turns.Goals as goal

pub returns-then-offset-eq0 : goal.returns-then-offset-eq0
returns-then-offset-eq0 c = simp (eq-eqb _ _ c.if-offset-eq0.true)

pub returns : goal.returns
returns c = simp (ne_eqb _ _ c.if-offset-eq0.false, c.differs.ensures)
