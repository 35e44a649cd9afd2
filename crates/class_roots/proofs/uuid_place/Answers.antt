-- By the byte that says whether there is one.
use borrow.Author.Tests.{eq-eqb, ne_eqb}
use Rattle.rules.specs.Record.{u8}
use Rattle.class_layout.specs.Sizes.{uuid_place}
use Rattle.class_roots.proofs.uuid_place.Goals as goal

pub returns-then-has_none : goal.returns-then-has_none
unfolding uuid_place u8
returns-then-has_none c = rw (eq-eqb _ _ c.if-has_none.true, uuid_place)

pub returns : goal.returns
unfolding uuid_place u8
returns c = rw (ne_eqb _ _ c.if-has_none.false, uuid_place)
