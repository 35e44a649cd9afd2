-- By computation.
use mathlib.Core.Path.{refl}
use Rattle.field_runs.specs.Run.{elements_run}
use Rattle.field_runs.proofs.elements.Goals as goal

pub returns : goal.returns
unfolding elements_run
returns c = refl
