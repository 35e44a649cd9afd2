use Rattle.std.proofs.Common.{◌≡◌, [], ◌-◌, ◌≤◌, ◌<◌, ◌*◌, length}
use Rattle.table_offsets.specs.Check.{latest}
use Rattle.check_slots.specs.Homes.{fragments_at}
use Rattle.check_slots.proofs.Rising.{Known}
use Rattle.check_slots.proofs.walk_fragments.Given as goal

abbrev pub invariant-loop : goal.invariant-loop
invariant-loop l =
    (10 * l.n ≤ l.next)
    × ((length l.streams ≡ 6554)
    × ((fragments_at l.table (length l.table) [] 0 (length l.table)
    ≡ fragments_at l.table l.header (latest l.streams l.n) l.next (length l.table - l.counter))
    × ((l.turn < 128)
    × ((length l.known ≡ 128) × ((length l.places ≡ 128) × (Known l.table l.known l.places × (l.next ≤ length l.table)))))))
