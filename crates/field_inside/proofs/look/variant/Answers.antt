-- By the choice.
use mathlib.Core.Path.{refl}
use Rattle.field_inside.specs.Inside.{variant_inside}
use Rattle.field_inside.proofs.look.variant.Goals as goal

pub returns-in-Refused : goal.returns-in-Refused
unfolding variant_inside
returns-in-Refused c = rw c.in-Refused.is refl

pub returns-in-Nothing : goal.returns-in-Nothing
unfolding variant_inside
returns-in-Nothing c = rw c.in-Nothing.is refl

pub returns-in-Class : goal.returns-in-Class
unfolding variant_inside
returns-in-Class c = rw c.in-Class.is refl
