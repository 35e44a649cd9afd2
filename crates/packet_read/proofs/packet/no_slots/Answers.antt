-- The fields are those of the definition.
use Rattle.rules.specs.Slots.{no_slots}
use mathlib.Core.Path.{refl}
use Rattle.packet_read.proofs.packet.no_slots.Goals as goal

pub returns : goal.returns
unfolding no_slots
returns c = refl
