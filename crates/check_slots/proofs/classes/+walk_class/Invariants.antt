-- The depths left fall. In the loop the whole walk is what is left of it, from where it goes on, which is no byte past the end.
use Rattle.std.proofs.Common.{◌≡◌, ◌-◌, ◌≤◌, length}
use Rattle.check_slots.specs.Homes.{parts_at, part_at, class_at}
use Rattle.check_slots.proofs.classes.+walk_class.Given as goal

abbrev pub decreases-walk_class : goal.decreases-walk_class
decreases-walk_class l = l.left

abbrev pub invariant-loop : goal.invariant-loop
invariant-loop l =
    (length l.homes ≡ 256)
    × ((parts_at (class_at l.deeper l.table l.inner) (part_at l.table l.at) (l.initial.next, l.initial.homes) l.end
    ≡ parts_at (class_at l.deeper l.table l.inner) (part_at l.table l.at) (l.next, l.homes) (l.end - l.counter))
    × (l.next ≤ length l.table))
