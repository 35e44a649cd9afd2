-- A class, its members and its options, each by the others with less depth left; members and options first ask for a class.
-- The members so far are walked, and so are the first n options, whose places stand in `done`: the whole walk is what is left of it.
use Rattle.std.proofs.Common.{◌≡◌, ◌+◌, ◌-◌, [], length}
use Rattle.table_offsets.specs.Check.{members_at, options_at, class_at, latest}
use Rattle.check_roots.proofs.cycle.+check_class_check_members_check_options.Given as goal

abbrev pub decreases-check_class : goal.decreases-check_class
decreases-check_class l = l.left + l.left

abbrev pub decreases-check_members : goal.decreases-check_members
decreases-check_members l = l.left + l.left + 1

abbrev pub decreases-check_options : goal.decreases-check_options
decreases-check_options l = l.left + l.left + 1

abbrev pub invariant-check_members-loop : goal.invariant-check_members-loop
invariant-check_members-loop l =
    members_at (class_at l.under l.left l.table) l.at l.count ≡ members_at (class_at l.under l.left l.table) l.next (l.count - l.counter)

abbrev pub invariant-check_options-loop-n : goal.invariant-check_options-loop-n
invariant-check_options-loop-n l =
    (length l.done ≡ 32)
    × (options_at (class_at l.under l.left l.table) l.table (l.at + 2) [] l.at l.count
    ≡ options_at (class_at l.under l.left l.table) l.table (l.at + 2) (latest l.done l.n) l.next (l.count - l.n))
