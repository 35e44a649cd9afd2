-- By what the slot holds.
use Rattle.std.proofs.Common.{refl}
use Rattle.field_choice.specs.Choice.{by_flag}
use Rattle.field_choice.proofs.by_flag.Goals as goal

pub returns-in-Unset : goal.returns-in-Unset
unfolding by_flag
returns-in-Unset c = rw c.in-Unset.is refl

pub returns-in-Unsigned : goal.returns-in-Unsigned
unfolding by_flag
returns-in-Unsigned c = rw c.in-Unsigned.is refl

pub returns-in-Signed : goal.returns-in-Signed
unfolding by_flag
returns-in-Signed c = rw c.in-Signed.is refl

pub returns-in-Flag : goal.returns-in-Flag
unfolding by_flag
returns-in-Flag c = rw c.in-Flag.is c.present.ensures
