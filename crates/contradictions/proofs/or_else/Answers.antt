-- By which lengths are stated.
use Rattle.rules.specs.Packet.{or_else}
use mathlib.Core.Path.{refl}
use Rattle.contradictions.proofs.or_else.Goals as goal

pub returns-in-Some : goal.returns-in-Some
unfolding or_else
returns-in-Some c = rw c.in-Some.is refl

pub returns-in-Some-other : goal.returns-in-Some-other
unfolding or_else
returns-in-Some-other c = rw (c.in-None.is, c.in-Some-other.is) refl

pub returns-in-None-other : goal.returns-in-None-other
unfolding or_else
returns-in-None-other c = rw (c.in-None.is, c.in-None-other.is) refl
