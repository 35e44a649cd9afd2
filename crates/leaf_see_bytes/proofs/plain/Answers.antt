-- What was found is a field with neither slot nor role; what was refused stops.
use mathlib.Core.Path.{refl}
use Rattle.leaf_after.specs.Seeing.{seen, plain_seen}
use Rattle.leaf_see_bytes.proofs.plain.Goals as goal

pub returns-in-Refused : goal.returns-in-Refused
unfolding seen
returns-in-Refused c = rw c.in-Refused.is refl

pub returns-in-At : goal.returns-in-At
unfolding seen plain_seen
returns-in-At c = rw (c.in-At.is, c.from.ensures) refl
