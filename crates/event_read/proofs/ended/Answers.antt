-- By whether the place moved.
use mathlib.Core.Path.{refl}
use borrow.Author.Tests.{eq-eqb, ne_eqb}
use Rattle.event_read.specs.Start.{ended_ran}
use Rattle.event_read.proofs.ended.Goals as goal

pub returns-then-state-begun : goal.returns-then-state-begun
unfolding ended_ran
returns-then-state-begun c = rw (c.refused.ensures, eq-eqb _ _ c.if-state-begun.true, ended_ran) refl

pub returns : goal.returns
unfolding ended_ran
returns c = rw (ne_eqb _ _ c.if-state-begun.false, ended_ran) refl
