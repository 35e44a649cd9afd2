-- By whether there is a first packet.
use Rattle.rules.specs.Packet.{differs}
use mathlib.Core.Path.{refl}
use Rattle.contradictions.proofs.differs.Goals as goal

pub returns-in-None : goal.returns-in-None
unfolding differs
returns-in-None c = rw c.in-None.is refl

pub returns-in-Some : goal.returns-in-Some
unfolding differs
returns-in-Some c = rw c.in-Some.is refl
