-- The fields are those of the definition.
use Rattle.rules.specs.Packet.{nothing_said}
use mathlib.Core.Path.{refl}
use Rattle.packet_read.proofs.packet.nothing_said.Goals as goal

pub returns : goal.returns
unfolding nothing_said
returns c = refl
