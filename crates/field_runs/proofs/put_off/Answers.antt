-- By computation.
use mathlib.Core.Path.{refl}
use Rattle.field_runs.specs.Run.{put_off_run}
use Rattle.field_runs.proofs.put_off.Goals as goal

pub returns : goal.returns
unfolding put_off_run
returns c = rw c.size_at.ensures.0 refl
