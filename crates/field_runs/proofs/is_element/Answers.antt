-- By computation.
use mathlib.Core.Path.{refl}
use Rattle.field_runs.specs.Run.{element}
use Rattle.field_runs.proofs.is_element.Goals as goal

pub returns : goal.returns
unfolding element
returns c = refl
