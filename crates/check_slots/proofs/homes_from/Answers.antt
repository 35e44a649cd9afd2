-- The roots are walked with nothing set.
use Rattle.check_slots.specs.Homes.{homes_of}
use Rattle.check_slots.proofs.homes_from.Goals as goal

pub returns : goal.returns
unfolding homes_of
returns c = c.walk_roots.ensures.set
