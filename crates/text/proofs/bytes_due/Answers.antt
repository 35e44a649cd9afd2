-- The parts, put together.
use mathlib.Core.Path.{refl}
use Rattle.text.specs.Reading.{bytes_due}
use Rattle.text.proofs.bytes_due.Goals as goal

pub returns : goal.returns
unfolding bytes_due
returns c = refl
