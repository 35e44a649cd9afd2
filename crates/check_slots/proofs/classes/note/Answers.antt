-- 255 is no slot.
use borrow.Author.Tests.{eq-eqb, ne_eqb}
use Rattle.check_slots.specs.Homes.{noted, pick_l}
use Rattle.check_slots.proofs.classes.note.Goals as goal

pub returns-then-slot-ne-NO_SLOT : goal.returns-then-slot-ne-NO_SLOT
unfolding noted pick_l
returns-then-slot-ne-NO_SLOT c = simp (c.wide.ensures.0, ne_eqb _ _ c.if-slot-ne-NO_SLOT.true)

pub returns-else-slot-ne-NO_SLOT : goal.returns-else-slot-ne-NO_SLOT
unfolding noted pick_l
returns-else-slot-ne-NO_SLOT c = simp (eq-eqb _ _ c.if-slot-ne-NO_SLOT.false)
