-- By computation.
use mathlib.Core.Path.{refl}
use Rattle.field_runs.specs.Run.{members_run}
use Rattle.field_runs.proofs.members.Goals as goal

pub returns : goal.returns
unfolding members_run
returns c = refl
