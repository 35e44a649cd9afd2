-- What was found is a number with its slot and its role, of seven bits a byte.
use mathlib.Core.Path.{refl}
use Rattle.leaf_after.specs.Seeing.{seen, leb_seen}
use Rattle.leaf_see_number.proofs.leb.unsigned_leb.Goals as goal

pub returns-in-Refused : goal.returns-in-Refused
unfolding seen
returns-in-Refused c = rw c.in-Refused.is refl

pub returns-in-At : goal.returns-in-At
unfolding seen leb_seen
returns-in-At c = rw (c.in-At.is, c.stamp_bits.ensures) refl
