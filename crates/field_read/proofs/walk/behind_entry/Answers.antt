-- As what is inside went.
use mathlib.Core.Path.{refl}
use Rattle.field_read.specs.Reads.{gone}
use Rattle.field_read.proofs.walk.behind_entry.Goals as goal

pub returns-in-Err : goal.returns-in-Err
unfolding gone
returns-in-Err c = rw (c.stopped.ensures, c.in-Err.is) refl

pub returns-in-Ok : goal.returns-in-Ok
unfolding gone
returns-in-Ok c = rw c.in-Ok.is refl
