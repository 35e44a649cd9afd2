-- What the lookup finds, beside the id.
use mathlib.Core.Path.{refl}
use Rattle.bundle_marks.specs.Marked.{stream_place, front_of}
use Rattle.bundle_marks.proofs.in_front.Goals as goal

pub returns : goal.returns
unfolding front_of stream_place
returns c = rw c.find_stream_class-place.ensures refl
