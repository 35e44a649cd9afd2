-- As its last part went.
use mathlib.Core.Path.{refl}
use Rattle.outcome.specs.Ran.{gone_ran}
use Rattle.outcome.proofs.with_last.Goals as goal

pub returns-in-Err : goal.returns-in-Err
unfolding gone_ran
returns-in-Err c = rw (c.stopped.ensures, c.in-Err.is) refl

pub returns-in-Ok : goal.returns-in-Ok
unfolding gone_ran
returns-in-Ok c = rw c.in-Ok.is refl
