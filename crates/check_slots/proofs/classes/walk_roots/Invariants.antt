use Rattle.std.proofs.Common.{◌≡◌, ◌-◌, ◌≤◌, length}
use Rattle.check_slots.specs.Homes.{roots_at}
use Rattle.check_slots.proofs.classes.walk_roots.Given as goal

abbrev pub invariant-loop : goal.invariant-loop
invariant-loop l =
    (length l.homes ≡ 256)
    × ((roots_at l.table (l.at, l.initial.homes) l.end ≡ roots_at l.table (l.next, l.homes) (l.end - l.counter))
    × (l.at ≤ length l.table → l.next ≤ length l.table))
