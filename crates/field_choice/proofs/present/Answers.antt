-- By the flag.
use Rattle.std.proofs.Common.{refl}
use Rattle.field_choice.specs.Choice.{present_at}
use Rattle.field_choice.proofs.present.Goals as goal

pub returns-then-there : goal.returns-then-there
unfolding present_at
returns-then-there c = rw c.if-there.true refl

pub returns : goal.returns
unfolding present_at
returns c = rw c.if-there.false refl
