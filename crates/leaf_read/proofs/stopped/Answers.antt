-- As the definition says.
use mathlib.Core.Path.{refl}
use Rattle.leaf_read.specs.Leaves.{stopped_leaves}
use Rattle.leaf_read.proofs.stopped.Goals as goal

pub returns : goal.returns
unfolding stopped_leaves
returns c = refl
