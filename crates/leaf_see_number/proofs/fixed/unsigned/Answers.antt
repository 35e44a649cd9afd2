-- What was found is a number with its slot and its role.
use mathlib.Core.Path.{refl}
use Rattle.rules.specs.Class.{kind_of}
use Rattle.rules.specs.Field.{value_of, slot_of}
use Rattle.leaf_after.specs.Seeing.{seen, fixed_seen}
use Rattle.leaf_see_number.proofs.fixed.unsigned.Goals as goal

pub returns-in-Refused : goal.returns-in-Refused
unfolding seen
returns-in-Refused c = rw c.in-Refused.is refl

pub returns-in-At : goal.returns-in-At
unfolding seen fixed_seen kind_of value_of slot_of
returns-in-At c = rw c.in-At.is refl
