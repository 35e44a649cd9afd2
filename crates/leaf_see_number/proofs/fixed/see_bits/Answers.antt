-- What was found is a field with neither slot nor role; what was refused stops.
use mathlib.Core.Path.{refl}
use Rattle.leaf_after.specs.Seeing.{seen, bits_seen}
use Rattle.leaf_see_number.proofs.fixed.see_bits.Goals as goal

pub returns-in-Refused : goal.returns-in-Refused
unfolding seen
returns-in-Refused c = rw c.in-Refused.is refl

pub returns-in-At : goal.returns-in-At
unfolding seen bits_seen
returns-in-At c = rw c.in-At.is refl
