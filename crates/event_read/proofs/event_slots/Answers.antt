-- Slots 16 to 63 are unset as they come.
use mathlib.Core.Path.{sym}
use Rattle.event_read.proofs.event_slots.Goals as goal

pub returns : goal.returns
returns c = sym c.requires
