use Prim.Native.Nat.{◌-◌}
use lib.ListN.{length}
use Rattle.rules.specs.Packet.{read_events}
use Rattle.frame.specs.Framed.{env_of}
use Rattle.listing.specs.Did.{full}
use Rattle.class_layout.specs.Fragments.{asked_at, stream_class_at}
use Rattle.packet_events.proofs.Rounding.{Rounding}
use Rattle.packet_events.proofs.read_events.Given as goal

abbrev pub invariant-loop-state : goal.invariant-loop-state
invariant-loop-state l = Rounding
    (asked_at l.table) (stream_class_at l.table l.with.class) l.stream l.uuid l.frame l.to
    (read_events (asked_at l.table) (stream_class_at l.table l.with.class) (env_of l.stream l.uuid l.frame) l.to 0 (l.frame.bound.0 - l.st.place.0)
    (full l.st l.slots (length l.initial.list))) l.slots l.initial.list l.list l.used l.state l.count

abbrev pub decreases-loop-state : goal.decreases-loop-state
decreases-loop-state l = l.frame.bound.0 -
    l.state.place.0
