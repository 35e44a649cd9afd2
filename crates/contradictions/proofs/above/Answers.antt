-- By whether an end clock is stated.
use Rattle.rules.specs.Packet.{above}
use mathlib.Core.Path.{refl}
use Rattle.contradictions.proofs.above.Goals as goal

pub returns-in-None : goal.returns-in-None
unfolding above
returns-in-None c = rw c.in-None.is refl

pub returns-in-Some : goal.returns-in-Some
unfolding above
returns-in-Some c = rw c.in-Some.is refl
