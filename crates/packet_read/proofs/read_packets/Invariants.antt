use Rattle.std.specs.Prelude.{None}
use lib.ListN.{length}
use Prim.Native.Nat.{◌-◌, ◌*◌}
use Rattle.rules.specs.Packet.{read_packets}
use Rattle.rules.specs.Read.{begin}
use Rattle.class_layout.specs.Fragments.{asked_at}
use Rattle.packet_read.proofs.Rounds.{Looping}
use Rattle.packet_read.proofs.read_packets.Given as goal

abbrev pub invariant-loop-state : goal.invariant-loop-state
invariant-loop-state l = Looping
    (asked_at l.table) l.stream (read_packets (asked_at l.table) l.stream 0 None (length l.stream) (begin (length l.initial.list))) l.initial.list l.list l.used l.state
    l.first l.number

abbrev pub decreases-loop-state : goal.decreases-loop-state
decreases-loop-state l = 8 * length
    l.stream - l.state.place.0
