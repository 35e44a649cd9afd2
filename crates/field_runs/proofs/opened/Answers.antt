-- By computation.
use mathlib.Core.Path.{refl}
use Rattle.field_runs.specs.Run.{opened_run}
use Rattle.field_runs.proofs.opened.Goals as goal

pub returns : goal.returns
unfolding opened_run
returns c = refl
