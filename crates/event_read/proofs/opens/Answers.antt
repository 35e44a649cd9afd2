-- In its run, or by how many are put off.
use mathlib.Core.Path.{refl}
use Rattle.event_read.specs.Start.{opens_at}
use Rattle.event_read.proofs.opens.Goals as goal

pub returns-then-here : goal.returns-then-here
unfolding opens_at
returns-then-here c = rw (c.if-here.true, opens_at) refl

pub returns-else-here : goal.returns-else-here
unfolding opens_at
returns-else-here c = rw (c.if-here.false, opens_at) refl
