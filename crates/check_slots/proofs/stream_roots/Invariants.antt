use Rattle.std.proofs.Common.{◌≡◌, ◌≤◌, length}
use Rattle.table_offsets.specs.Check.{latest}
use Rattle.check_slots.specs.Homes.{stream_roots}
use Rattle.check_slots.proofs.stream_roots.Given as goal

abbrev pub invariant-loop-i : goal.invariant-loop-i
invariant-loop-i l =
    (l.i ≤ length l.streams)
    × (stream_roots l.table l.id (latest l.streams (length l.streams)) ≡ stream_roots l.table l.id (latest l.streams l.i))
