-- The bound is the place behind the stream's bytes, which are few.
use mathlib.Core.Path.{refl}
use native.Mathlib.Omega.{arith}
use Rattle.packet_content.proofs.whole_frame.Goals as goal

pub place_behind-bound-requires : goal.place_behind-bound-requires
place_behind-bound-requires c = omega (arith, c.requires)

pub returns : goal.returns
returns c = rw c.place_behind-bound.ensures refl
