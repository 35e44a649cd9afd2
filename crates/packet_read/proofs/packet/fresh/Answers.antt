-- The fields are those of the definition.
use Rattle.packet_read.specs.Pieces.{fresh_state}
use Rattle.packet_read.proofs.Packeted.{started}
use mathlib.Core.Path.{refl}
use Rattle.packet_read.proofs.packet.fresh.Goals as goal

pub returns : goal.returns
unfolding fresh_state
returns c = rw (c.nothing_said.ensures, started c.start.result c.start.ensures) refl
