-- What was found is extended to 64 bits.
use mathlib.Core.Path.{refl}
use Rattle.rules.specs.Class.{kind_of}
use Rattle.rules.specs.Field.{value_of, slot_of}
use Rattle.leaf_after.specs.Seeing.{seen, fixed_seen}
use Rattle.leaf_see_number.specs.Extends.{Extends}
use Rattle.leaf_see_number.proofs.fixed.signed.Goals as goal

pub sign_extend-value-requires : goal.sign_extend-value-requires
unfolding Extends
sign_extend-value-requires c = rw c.in-At.is at c.requires

pub returns-in-Refused : goal.returns-in-Refused
unfolding seen
returns-in-Refused c = rw c.in-Refused.is refl

pub returns-in-At : goal.returns-in-At
unfolding seen fixed_seen kind_of value_of slot_of
returns-in-At c = rw (c.sign_extend-value.ensures, c.in-At.is) refl
