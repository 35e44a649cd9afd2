-- It is its definition.
use mathlib.Core.Path.{refl}
use Rattle.field_inside.specs.Opening.{went_in}
use Rattle.field_inside.proofs.opening.went_in.Goals as goal

pub returns : goal.returns
unfolding went_in
returns c = refl
