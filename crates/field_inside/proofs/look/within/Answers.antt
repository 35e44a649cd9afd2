-- By the bound.
use Rattle.field_inside.proofs.Standing.{within-past, within-fits}
use Rattle.field_inside.proofs.look.within.Goals as goal

pub returns-then-bound-place : goal.returns-then-bound-place
returns-then-bound-place c = within-past _ _ _ c.if-bound-place.true

pub returns : goal.returns
returns c = within-fits _ _ _ c.if-bound-place.false
